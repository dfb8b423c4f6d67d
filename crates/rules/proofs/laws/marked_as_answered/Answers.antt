use Rattle.rules.proofs.Persisting.{marked_as_answered}
use Rattle.rules.proofs.laws.marked_as_answered.Goals as goal

pub returns : goal.returns
returns c = marked_as_answered
