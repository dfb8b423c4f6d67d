-- The sum of the first bytes of a file's blocks.
use Rattle.std.specs.Prelude.{ℕ, cond, List, Ok, Err, Result, sum_by, slice_index}
use Rattle.base.specs.declared.refusal.Refusal.{Refusal}
use Rattle.base.specs.declared.refusal.Refusal.TheVariants.{NoSuchIndex}
use Rattle.medium.specs.Model.{MediumModel, file_of}
use Rattle.medium.specs.Steps.{no_such_file}

abbrev pub total : List (List ℕ) → ℕ
total bs = sum_by (λ b. slice_index b 0) bs

abbrev pub tally_answer : MediumModel → ℕ → Result ℕ Refusal
tally_answer m f = cond (no_such_file f) (Err NoSuchIndex) (Ok (total (file_of m f).kept))
