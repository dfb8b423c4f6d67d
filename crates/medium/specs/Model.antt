-- What a medium means: eight files and one mark.
use Rattle.std.specs.Prelude.{ℕ, ◌+◌, List, [], length, slice_index_or, slice_set}
use Rattle.medium.specs.declared.mark.Mark.{Mark}

-- A file keeps the blocks from number first on, each as the list of its bytes, and has synced those below synced.
pub record FileModel : Type 0 where
  pub capacity : ℕ
  pub first : ℕ
  pub kept : List (List ℕ)
  pub synced : ℕ

pub record MediumModel : Type 0 where
  pub files : List FileModel
  pub mark : Mark

abbrev pub no_file : FileModel
no_file = record { capacity = 0; first = 0; kept = []; synced = 0 }

abbrev pub file_of : MediumModel → ℕ → FileModel
file_of m f = slice_index_or m.files f no_file

-- the number that the next block gets
abbrev pub count_of : FileModel → ℕ
count_of f = f.first + length f.kept

abbrev pub with_file : MediumModel → ℕ → FileModel → MediumModel
with_file m f x = record { files = slice_set m.files f x; mark = m.mark }
