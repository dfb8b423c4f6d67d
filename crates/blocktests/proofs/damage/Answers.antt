use Rattle.std.proofs.Common.{sym, arith}
use Rattle.std.proofs.lemmas.List.{set_past}
use Rattle.blocktests.proofs.damage.Goals as goal

pub returns-else-at-lt512 : goal.returns-else-at-lt512
returns-else-at-lt512 c = sym (set_past c.args.block c.args.at c.args.byte (omega arith))
