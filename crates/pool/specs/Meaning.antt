-- What a pool means.
use Rattle.medium.specs.Model.{MediumModel}
use Rattle.lane.specs.declared.laned.Laned.{Laned}
use Rattle.lane.specs.declared.slots.Slots.{Ghosts}
use Rattle.pool.specs.declared.Pages.{Pages}
use Rattle.pool.specs.Pages.{pool_model}

abbrev pub meaning_of : {B : Ghosts Pages} → Laned Pages B → MediumModel
meaning_of p = pool_model p.slots.pages.now p.slots.table.now p.lanes.all p.mark
