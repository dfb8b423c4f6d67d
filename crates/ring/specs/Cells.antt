-- What cells, lanes and a mark mean: the blocks of the lanes stand in the cells themselves.
use Rattle.std.specs.Prelude.{ℕ, List, [], slice_index_or}
use Rattle.medium.specs.declared.mark.Mark.{Mark}
use Rattle.medium.specs.Model.{MediumModel}
use Rattle.lane.specs.declared.lane.Lane.{Lane}
use Rattle.lane.specs.Meaning.{model_of}

abbrev pub cell_of : List (List ℕ) → ℕ → List ℕ
cell_of cells s = slice_index_or cells s []

abbrev pub ring_model : List (List ℕ) → List Lane → Mark → MediumModel
ring_model cells ls k = model_of (cell_of cells) ls k
