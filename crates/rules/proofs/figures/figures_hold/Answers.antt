use Rattle.rules.proofs.Computed.{figures}
use Rattle.rules.proofs.figures.figures_hold.Goals as goal

pub returns : goal.returns
returns c = figures
