use Rattle.rules.proofs.Epochs.{epoch_never_falls, opens_so}
use Rattle.rules.proofs.laws.epoch_never_falls.Goals as goal

pub returns : goal.returns
returns c = record { falls = epoch_never_falls; opens = opens_so }
