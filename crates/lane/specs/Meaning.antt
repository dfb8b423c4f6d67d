-- What lanes mean, by the blocks in their slots.
use Rattle.std.specs.Prelude.{ℕ, ◌-◌, List, map}
use Rattle.std.specs.List.{range_with_len}
use Rattle.medium.specs.declared.mark.Mark.{Mark}
use Rattle.medium.specs.Model.{FileModel, MediumModel}
use Rattle.lane.specs.declared.lane.Lane.{Lane}
use Rattle.lane.specs.Lanes.{slot}

unfoldable pub kept_of : (ℕ → List ℕ) → Lane → List (List ℕ)
kept_of cell l = map (λ k. cell (slot l k)) (range_with_len l.first (l.count - l.first))

abbrev pub file_of_lane : (ℕ → List ℕ) → Lane → FileModel
file_of_lane cell l = record { capacity = l.capacity; first = l.first; kept = kept_of cell l; synced = l.synced }

abbrev pub model_of : (ℕ → List ℕ) → List Lane → Mark → MediumModel
model_of cell ls k = record { files = map (file_of_lane cell) ls; mark = k }
