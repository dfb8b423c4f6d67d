-- The number of a file.
use Rattle.std.specs.Prelude.{ℕ, cond, Ok, Err, Result, nat_lt}
use Rattle.base.specs.declared.file.File.{File}
use Rattle.base.specs.declared.refusal.Refusal.{Refusal}
use Rattle.base.specs.declared.refusal.Refusal.TheVariants.{NoSuchIndex}

abbrev pub index_of : File → ℕ
index_of f = f.number

-- an answer, by the number of its file
abbrev pub number_in : Result File Refusal → Result ℕ Refusal
number_in (Ok f) = Ok f.number
number_in (Err e) = Err e

-- files are numbered from 0 to 7
abbrev pub existing : ℕ → Result ℕ Refusal
existing n = cond (nat_lt 7 n) (Err NoSuchIndex) (Ok n)
