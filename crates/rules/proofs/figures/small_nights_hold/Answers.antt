use Rattle.rules.proofs.Played.{small_nights}
use Rattle.rules.proofs.figures.small_nights_hold.Goals as goal

pub returns : goal.returns
returns c = small_nights
