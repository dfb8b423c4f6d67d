-- Writing and reading are the two sides of one thing.
use Rattle.std.specs.Prelude.{◌≡◌, ℕ, ◌^◌, ◌<◌, ◌≤◌, true, All, List, length, is_ok, Ok, Result}
use Rattle.base.specs.Faults.{BlockFault}
use Rattle.block.specs.declared.entry.Entry.{Entry}
use Rattle.block.specs.declared.entry.Entry.TheVariants.{Txn, Put, Del, Row, Gone}
use Rattle.block.specs.Checks.{walk, start}
use Rattle.block.specs.Format.{content, block_of}

-- its code is one of 16 bytes
abbrev pub Coded : Entry → Type 0
Coded (Txn tid) = Unit {0}
Coded (Put key value) = key.code < 2 ^ 128
Coded (Del key) = key.code < 2 ^ 128
Coded (Row tid key value) = key.code < 2 ^ 128
Coded (Gone tid key) = key.code < 2 ^ 128

-- commands that a block of a file may hold, their rows up to the marked epoch
pub record Lawful (file number marked : ℕ) (es : List Entry) : Type 0 where
  pub listed : file ≤ 7
  pub numbered : number < 2 ^ 32
  pub room : length (content es) ≤ 502
  pub sound : is_ok (walk file number marked start es) ≡ true
  pub codes : All Coded es

-- the block of lawful commands is answered with these commands
abbrev pub ReadsBack : ℕ → ℕ → ℕ → List ℕ → Result (List Entry) BlockFault → Type 0
ReadsBack file number marked bs r = (es : List Entry) → Lawful file number marked es → bs ≡ block_of file number es → r ≡ Ok es

-- only the block that is written of some commands is answered with these commands
abbrev pub OnlyWritten : ℕ → ℕ → List ℕ → Result (List Entry) BlockFault → Type 0
OnlyWritten file number bs r = (es : List Entry) → r ≡ Ok es → bs ≡ block_of file number es
