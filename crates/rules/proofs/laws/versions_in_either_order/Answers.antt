use Rattle.rules.proofs.Versions.{either_order, only_larger_replaces}
use Rattle.rules.proofs.laws.versions_in_either_order.Goals as goal

pub returns : goal.returns
returns c = record { order = either_order; larger = only_larger_replaces }
