-- What each call of a medium answers and leaves.
use Rattle.std.specs.Prelude.{ℕ, ◌-◌, Bool, cond, ◌||◌, List, [], ◌∷◌, ◌++◌, length, drop, Ok, Err, Result, ◌==◌, nat_le, nat_lt, slice_index_or}
use Rattle.base.specs.declared.refusal.Refusal.{Refusal}
use Rattle.base.specs.declared.refusal.Refusal.TheVariants.{NoSuchIndex, FileFull, NoSuchBlock, RetireOutOfRange}
use Rattle.medium.specs.declared.mark.Mark.{Mark}
use Rattle.medium.specs.Model.{FileModel, MediumModel, file_of, count_of, with_file}

-- files are numbered from 0 to 7
abbrev pub no_such_file : ℕ → Bool
no_such_file f = nat_lt 7 f

-- append
abbrev pub is_full : FileModel → Bool
is_full f = length f.kept == f.capacity || count_of f == 16777215

abbrev pub longer : FileModel → List ℕ → FileModel
longer f b = record { capacity = f.capacity; first = f.first; kept = f.kept ++ (b ∷ []); synced = f.synced }

abbrev pub append_answer : MediumModel → ℕ → Result ℕ Refusal
append_answer m f = cond (no_such_file f) (Err NoSuchIndex) (cond (is_full (file_of m f)) (Err FileFull) (Ok (count_of (file_of m f))))

abbrev pub append_after : MediumModel → ℕ → List ℕ → MediumModel
append_after m f b = cond (no_such_file f) m (cond (is_full (file_of m f)) m (with_file m f (longer (file_of m f) b)))

-- sync
abbrev pub all_synced : FileModel → FileModel
all_synced f = record { capacity = f.capacity; first = f.first; kept = f.kept; synced = count_of f }

abbrev pub sync_answer : MediumModel → ℕ → Result ℕ Refusal
sync_answer m f = cond (no_such_file f) (Err NoSuchIndex) (Ok (count_of (file_of m f)))

abbrev pub sync_after : MediumModel → ℕ → MediumModel
sync_after m f = cond (no_such_file f) m (with_file m f (all_synced (file_of m f)))

-- fetch
abbrev pub lacks : FileModel → ℕ → Bool
lacks f n = nat_lt n f.first || nat_le (count_of f) n

abbrev pub fetch_answer : MediumModel → ℕ → ℕ → Result ℕ Refusal
fetch_answer m f n = cond (no_such_file f) (Err NoSuchIndex) (cond (lacks (file_of m f) n) (Err NoSuchBlock) (Ok n))

abbrev pub block_at : FileModel → ℕ → List ℕ → List ℕ
block_at f n old = slice_index_or f.kept (n - f.first) old

abbrev pub fetch_into : MediumModel → ℕ → ℕ → List ℕ → List ℕ
fetch_into m f n old = cond (no_such_file f) old (cond (lacks (file_of m f) n) old (block_at (file_of m f) n old))

-- retire
abbrev pub not_retirable : FileModel → ℕ → Bool
not_retirable f n = nat_lt n f.first || nat_lt f.synced n

abbrev pub retired : FileModel → ℕ → FileModel
retired f n = record { capacity = f.capacity; first = n; kept = drop (n - f.first) f.kept; synced = f.synced }

abbrev pub retire_answer : MediumModel → ℕ → ℕ → Result ℕ Refusal
retire_answer m f n = cond (no_such_file f) (Err NoSuchIndex) (cond (not_retirable (file_of m f) n) (Err RetireOutOfRange) (Ok 0))

abbrev pub retire_after : MediumModel → ℕ → ℕ → MediumModel
retire_after m f n = cond (no_such_file f) m (cond (not_retirable (file_of m f) n) m (with_file m f (retired (file_of m f) n)))

-- set-mark
abbrev pub set_mark_after : MediumModel → Mark → MediumModel
set_mark_after m k = record { files = m.files; mark = k }

-- questions
abbrev pub told : MediumModel → ℕ → (FileModel → ℕ) → Result ℕ Refusal
told m f part = cond (no_such_file f) (Err NoSuchIndex) (Ok (part (file_of m f)))

abbrev pub capacity_answer : MediumModel → ℕ → Result ℕ Refusal
capacity_answer m f = told m f (λ x. x.capacity)

abbrev pub first_answer : MediumModel → ℕ → Result ℕ Refusal
first_answer m f = told m f (λ x. x.first)

abbrev pub count_answer : MediumModel → ℕ → Result ℕ Refusal
count_answer m f = told m f count_of

abbrev pub synced_answer : MediumModel → ℕ → Result ℕ Refusal
synced_answer m f = told m f (λ x. x.synced)
