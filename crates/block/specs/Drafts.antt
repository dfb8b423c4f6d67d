-- A draft by the command bytes that were written into it.
use Rattle.std.specs.Prelude.{ℕ, ◌+◌, cond, List, length, take, drop, Ok, Err, Result, nat_lt}
use Rattle.base.specs.declared.refusal.Refusal.{Refusal}
use Rattle.base.specs.declared.refusal.Refusal.TheVariants.{NoSuchIndex, NoRoomInBlock}
use Rattle.block.specs.declared.draft.Draft.{Draft}
use Rattle.block.specs.declared.entry.Entry.{Entry}
use Rattle.block.specs.Fitting.{fits, room}
use Rattle.block.specs.Filling.{with_entry}
use Rattle.block.specs.Format.{size_of, sealed}

abbrev pub written : Draft → List ℕ
written d = take d.used (drop 8 d.bytes)

-- a command goes in exactly if it fits
abbrev pub push_answer : List ℕ → Entry → Result ℕ Refusal
push_answer cs e = cond (fits room (length cs) (size_of e)) (Ok (length cs + size_of e)) (Err NoRoomInBlock)

abbrev pub push_after : List ℕ → Entry → List ℕ
push_after cs e = with_entry room cs e

-- files are numbered from 0 to 7
abbrev pub seal_answer : ℕ → ℕ → List ℕ → Result (List ℕ) Refusal
seal_answer file number cs = cond (nat_lt 7 file) (Err NoSuchIndex) (Ok (sealed file number cs))
