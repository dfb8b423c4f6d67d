use Rattle.std.proofs.Common.{arith}
use Rattle.block.proofs.Fills.{counted}
use Rattle.block.proofs.needs.needed_bytes.Goals as goal

pub returns-clause-counts : goal.returns-clause-counts
returns-clause-counts c = λ tid es ch w e p. omega (arith, counted es ch)
