-- A file changed twice.
use Rattle.std.proofs.Common.{◌≡◌, ℕ, ◌<◌, length, get_or-set_same}
use Rattle.std.proofs.lemmas.List.{set-set, set-get_or}
use Rattle.medium.specs.Model.{FileModel, MediumModel, file_of, with_file, no_file}

pub file_with : (m : MediumModel) (f : ℕ) (x : FileModel) → f < length m.files → file_of (with_file m f x) f ≡ x
file_with m f x lt = get_or-set_same m.files f x no_file lt

pub with_with : (m : MediumModel) (f : ℕ) (x y : FileModel) → with_file (with_file m f x) f y ≡ with_file m f y
with_with m f x y = λ i. record { files = set-set m.files f x y i; mark = m.mark }

pub with_own : (m : MediumModel) (f : ℕ) → with_file m f (file_of m f) ≡ m
with_own m f = λ i. record { files = set-get_or m.files f no_file i; mark = m.mark }
