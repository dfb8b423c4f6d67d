-- What a ring means.
use Rattle.medium.specs.Model.{MediumModel}
use Rattle.lane.specs.declared.laned.Laned.{Laned}
use Rattle.lane.specs.declared.slots.Slots.{Ghosts}
use Rattle.ring.specs.declared.Cells.{Cells}
use Rattle.ring.specs.Cells.{ring_model}

abbrev pub meaning_of : {B : Ghosts Cells} → Laned Cells B → MediumModel
meaning_of r = ring_model r.slots.cells.now r.lanes.all r.mark
