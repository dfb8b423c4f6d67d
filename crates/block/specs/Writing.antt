-- What a writer answers: the block of the commands, or the first reason why there is none.
use Rattle.std.specs.Prelude.{◌≡◌, ℕ, ◌+◌, ◌≤◌, cond, All, List, [], ◌∷◌, IfOk, Some, None, Ok, Err, Option, Result, nat_le, nat_lt}
use Rattle.base.specs.Limits.{last_epoch}
use Rattle.base.specs.Tids.{epoch_of}
use Rattle.base.specs.Faults.{BlockFault}
use Rattle.base.specs.declared.refusal.Refusal.TheVariants.{NoSuchIndex, NoRoomInBlock}
use Rattle.block.specs.declared.entry.Entry.{Entry}
use Rattle.block.specs.declared.entry.Entry.TheVariants.{Txn, Put, Del, Row, Gone}
use Rattle.block.specs.declared.way.Way.{Way}
use Rattle.block.specs.declared.writer.WriteError.{WriteError}
use Rattle.block.specs.declared.writer.WriteError.TheVariants.{Refused, Faulty}
use Rattle.block.specs.Checks.{start, onward, entry_fault, read_answer}
use Rattle.block.specs.Format.{size_of, block_of}

abbrev pub unless_faulty : Option BlockFault → Option WriteError → Option WriteError
unless_faulty (Some f) o = Some (Faulty f)
unless_faulty None o = o

-- the first command that cannot be written: for a fault that a reader would find, or for want of room
unfoldable pub unwritable : ℕ → ℕ → Way → List Entry → Option WriteError
unwritable file number w [] = None
unwritable file number w (e ∷ es) =
    unless_faulty (entry_fault file number last_epoch w e)
    (cond (nat_le (w.at + size_of e) 510) (unwritable file number (onward w e) es) (Some (Refused NoRoomInBlock)))

abbrev pub unless : {A : Type 0} → Option WriteError → A → Result A WriteError
unless None x = Ok x
unless (Some e) x = Err e

abbrev pub write_answer : ℕ → ℕ → List Entry → Result (List ℕ) WriteError
write_answer file number es = cond (nat_lt 7 file) (Err (Refused NoSuchIndex)) (unless (unwritable file number start es) (block_of file number es))

-- a row that the marked epoch reaches
abbrev pub Reached : ℕ → Entry → Type 0
Reached marked (Txn tid) = Unit {0}
Reached marked (Put key value) = Unit {0}
Reached marked (Del key) = Unit {0}
Reached marked (Row tid key value) = epoch_of tid ≤ marked
Reached marked (Gone tid key) = epoch_of tid ≤ marked

-- a written block is read as its commands, under every marked epoch that reaches its rows
abbrev pub ReadsAsWritten : ℕ → ℕ → List Entry → Result (List ℕ) WriteError → Type 0
ReadsAsWritten file number es r = IfOk r (λ block. (marked : ℕ) → All (Reached marked) es → read_answer file number marked block ≡ Ok es)
