-- What a cut may leave of a medium.
use Rattle.std.specs.Prelude.{◌≡◌, ℕ, ◌+◌, ◌-◌, ◌<◌, ◌≤◌, min, List, [], ◌∷◌, ◌++◌, length, take, drop, slice_index_or}
use Rattle.medium.specs.Model.{FileModel, MediumModel, file_of, count_of}
use Rattle.medium.specs.Sound.{Block}

-- the blocks that are kept and synced
abbrev pub lasting : FileModel → List (List ℕ)
lasting f = take (f.synced - f.first) f.kept

-- how many blocks are kept and not synced
abbrev pub unsynced : FileModel → ℕ
unsynced f = count_of f - f.synced

-- a file with its first n blocks only
abbrev pub trimmed : FileModel → ℕ → FileModel
trimmed f n = record { capacity = f.capacity; first = f.first; kept = take n f.kept; synced = f.synced }

-- a file with these blocks added
abbrev pub extended : FileModel → List (List ℕ) → FileModel
extended f bs = record { capacity = f.capacity; first = f.first; kept = f.kept ++ bs; synced = f.synced }

-- a file with this tail after what lasts
abbrev pub cut_file : FileModel → List (List ℕ) → FileModel
cut_file f tail = record { capacity = f.capacity; first = f.first; kept = lasting f ++ tail; synced = f.synced + length tail }

-- the tail that a cut shows is at most as long as what was unsynced, and holds any bytes
pub record CutFile (f g : FileModel) : Type 0 where
  pub tail : List (List ℕ)
  pub short : length tail ≤ unsynced f
  pub whole : (k : ℕ) → k < length tail → Block (slice_index_or tail k [])
  pub is : g ≡ cut_file f tail

pub record Cut (m n : MediumModel) : Type 0 where
  pub eight : length n.files ≡ 8
  pub files : (f : ℕ) → f < 8 → CutFile (file_of m f) (file_of n f)
  pub mark : n.mark ≡ m.mark

-- of the tails, the first go to file 0, the next to file 1, and so on, as many as each is to show;
-- a file shows no more of them than it had unsynced
abbrev pub cut_files : List FileModel → List ℕ → List (List ℕ) → List FileModel
cut_files [] ns tails = []
cut_files (f ∷ fs) [] tails = cut_file f [] ∷ cut_files fs [] tails
cut_files (f ∷ fs) (n ∷ ns) tails = cut_file f (take (min n (unsynced f)) tails) ∷ cut_files fs ns (drop n tails)

abbrev pub cut_after : MediumModel → List ℕ → List (List ℕ) → MediumModel
cut_after m ns tails = record { files = cut_files m.files ns tails; mark = m.mark }
