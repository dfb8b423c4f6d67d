-- What a medium of lanes means.
use Rattle.std.specs.Prelude.{◌≡◌, ℕ}
use Rattle.medium.specs.Model.{FileModel, MediumModel, file_of, with_file}
use Rattle.lane.specs.declared.laned.Laned.{Laned}
use Rattle.lane.specs.declared.slots.Slots.{Ghosts}
use Rattle.lane.specs.Meaning.{model_of}

abbrev pub meaning_of : {S : Type 0} {B : Ghosts S} → Laned S B → MediumModel
meaning_of {B = B} l = model_of (B.cell l.slots) l.lanes.all l.mark

abbrev pub file_in : {S : Type 0} {B : Ghosts S} → Laned S B → ℕ → FileModel
file_in l f = file_of (meaning_of l) f

-- after a step, one file is turned into another, and all else is the same
abbrev pub Turns : {S : Type 0} {B : Ghosts S} → Laned S B → Laned S B → ℕ → FileModel → Type 0
Turns l after f x = meaning_of after ≡ with_file (meaning_of l) f x
