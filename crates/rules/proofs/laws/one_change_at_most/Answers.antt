use Rattle.rules.proofs.Refusing.{one_change_at_most}
use Rattle.rules.proofs.laws.one_change_at_most.Goals as goal

pub returns : goal.returns
returns c = one_change_at_most
