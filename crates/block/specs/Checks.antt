-- The checks of a block, in the order in which they count.
use Rattle.std.specs.Prelude.{ℕ, ◌+◌, ◌-◌, Bool, true, false, cond, not, ◌&&◌, ◌||◌, List, [], ◌∷◌, length, take, drop, ℤ, Some, None, Ok, Err, Option, Result, ◌==◌, nat_le, nat_lt, slice_index}
use Rattle.base.specs.Bytes.{number_at}
use Rattle.base.specs.Limits.{epoch_fits, value_fits}
use Rattle.base.specs.Tids.{epoch_of}
use Rattle.base.specs.Faults.{BlockFault}
use Rattle.base.specs.declared.key.Key.{Key}
use Rattle.base.specs.declared.refusal.Refusal.{Refusal}
use Rattle.base.specs.declared.refusal.Refusal.TheVariants.{BadHeader, BadSum, BadPadding, BadCommand, MisplacedCommand, FieldOutOfRange}
use Rattle.block.specs.declared.entry.Entry.{Entry}
use Rattle.block.specs.declared.way.Way.{Way}
use Rattle.block.specs.declared.entry.Entry.TheVariants.{Txn, Put, Del, Row, Gone}
use Rattle.block.specs.Fletcher.{fletcher16}
use Rattle.block.specs.Format.{size_of}
use Rattle.block.specs.Parsing.{entries}

-- the first of two that is there
abbrev pub first_some : {A : Type 0} → Option A → Option A → Option A
first_some (Some x) o = Some x
first_some None o = o

-- a fault of a block, at a byte of it, with the epoch last read
abbrev pub fault : ℕ → ℕ → Refusal → ℕ → ℕ → BlockFault
fault file number refusal byte epoch = record { refusal = refusal; at = record { file = file; block = number; byte = byte; epoch = epoch }; cause = None }

-- the first header field that is wrong: tag, file, number of command bytes, block number
abbrev pub wrong_header : ℕ → ℕ → List ℕ → Option ℕ
wrong_header file number bs =
    cond (not (slice_index bs 0 == 0x42)) (Some 0)
    (cond (not (slice_index bs 1 == file) || nat_lt 7 file) (Some 1)
    (cond (nat_lt 502 (number_at 2 2 bs)) (Some 2)
    (cond (not (number_at 4 4 bs == number)) (Some 4) None)))

-- whether the sum is that of every byte before it
abbrev pub summed_right : List ℕ → Bool
summed_right bs = number_at 2 510 bs == fletcher16 (take 510 bs)

abbrev pub wrong_sum : List ℕ → Option ℕ
wrong_sum bs = cond (summed_right bs) None (Some 510)

-- the first byte that is not zero
abbrev pub nonzero : ℕ → List ℕ → Option ℕ
nonzero at [] = None
nonzero at (b ∷ bs) = cond (b == 0) (nonzero (at + 1) bs) (Some at)

-- padding goes from the end of the n command bytes to byte 509
abbrev pub wrong_padding : ℕ → List ℕ → Option ℕ
wrong_padding n bs = nonzero (8 + n) (take (502 - n) (drop (8 + n) bs))

-- before the first command
abbrev pub start : Way
start = record { at = 8; epoch = 0; opened = false }

-- files 0 to 3 hold transactions, each TXN before its PUT and DEL; files 4 to 7 hold rows
abbrev pub placed : ℕ → Bool → Entry → Bool
placed file opened (Txn tid) = nat_lt file 4
placed file opened (Put key value) = nat_lt file 4 && opened
placed file opened (Del key) = nat_lt file 4 && opened
placed file opened (Row tid key value) = not (nat_lt file 4)
placed file opened (Gone tid key) = not (nat_lt file 4)

abbrev pub wrong_tid : ℕ → Option ℕ
wrong_tid tid = cond (epoch_fits (epoch_of tid)) None (Some 1)

-- a row's epoch is at most the marked one
abbrev pub wrong_row : ℕ → ℕ → Option ℕ
wrong_row marked tid = cond (epoch_fits (epoch_of tid) && nat_le (epoch_of tid) marked) None (Some 1)

abbrev pub wrong_kind : ℕ → Key → Option ℕ
wrong_kind i key = cond (nat_le key.kind 3) None (Some i)

abbrev pub wrong_value : ℕ → ℤ → Option ℕ
wrong_value i value = cond (value_fits value) None (Some i)

-- the place in the command of its first field that is out of range
abbrev pub wrong_field : ℕ → Entry → Option ℕ
wrong_field marked (Txn tid) = wrong_tid tid
wrong_field marked (Put key value) = first_some (wrong_kind 1 key) (wrong_value 18 value)
wrong_field marked (Del key) = wrong_kind 1 key
wrong_field marked (Row tid key value) = first_some (wrong_row marked tid) (first_some (wrong_kind 9 key) (wrong_value 26 value))
wrong_field marked (Gone tid key) = first_some (wrong_row marked tid) (wrong_kind 9 key)

abbrev pub epoch_or : ℕ → ℕ → ℕ
epoch_or epoch tid = cond (epoch_fits (epoch_of tid)) (epoch_of tid) epoch

-- the epoch last read, after a command: that of its TID if it is one
abbrev pub epoch_after : ℕ → Entry → ℕ
epoch_after epoch (Txn tid) = epoch_or epoch tid
epoch_after epoch (Put key value) = epoch
epoch_after epoch (Del key) = epoch
epoch_after epoch (Row tid key value) = epoch_or epoch tid
epoch_after epoch (Gone tid key) = epoch_or epoch tid

abbrev pub opens : Entry → Bool
opens (Txn tid) = true
opens (Put key value) = false
opens (Del key) = false
opens (Row tid key value) = false
opens (Gone tid key) = false

abbrev pub onward : Way → Entry → Way
onward w e = record { at = w.at + size_of e; epoch = epoch_after w.epoch e; opened = opens e || w.opened }

abbrev pub fault_at : ℕ → ℕ → Refusal → ℕ → ℕ → Option ℕ → Option BlockFault
fault_at file number refusal base epoch None = None
fault_at file number refusal base epoch (Some i) = Some (fault file number refusal (base + i) epoch)

-- what is wrong with a command: its place, else a field
abbrev pub entry_fault : ℕ → ℕ → ℕ → Way → Entry → Option BlockFault
entry_fault file number marked w e =
    cond (placed file w.opened e)
    (fault_at file number FieldOutOfRange w.at (epoch_after w.epoch e) (wrong_field marked e))
    (Some (fault file number MisplacedCommand w.at w.epoch))

abbrev pub step_on : Option BlockFault → Result Way BlockFault → Result Way BlockFault
step_on None r = r
step_on (Some f) r = Err f

-- one command after the other, up to the first fault
unfoldable pub walk : ℕ → ℕ → ℕ → Way → List Entry → Result Way BlockFault
walk file number marked w [] = Ok w
walk file number marked w (e ∷ es) = step_on (entry_fault file number marked w e) (walk file number marked (onward w e) es)

-- bytes that are left are no command
abbrev pub ended : ℕ → ℕ → ℕ → Result Way BlockFault → Option BlockFault
ended file number end (Ok w) = cond (nat_lt w.at end) (Some (fault file number BadCommand w.at w.epoch)) None
ended file number end (Err f) = Some f

abbrev pub commands_fault : ℕ → ℕ → ℕ → List ℕ → Option BlockFault
commands_fault file number marked cs = ended file number (8 + length cs) (walk file number marked start (entries cs))

-- the command bytes of a block, as its header has them
abbrev pub commands_in : List ℕ → List ℕ
commands_in bs = take (number_at 2 2 bs) (drop 8 bs)

abbrev pub header_fault : ℕ → ℕ → List ℕ → Option BlockFault
header_fault file number bs = fault_at file number BadHeader 0 0 (wrong_header file number bs)

abbrev pub sum_fault : ℕ → ℕ → List ℕ → Option BlockFault
sum_fault file number bs = fault_at file number BadSum 0 0 (wrong_sum bs)

abbrev pub padding_fault : ℕ → ℕ → ℕ → List ℕ → Option BlockFault
padding_fault file number n bs = fault_at file number BadPadding 0 0 (wrong_padding n bs)

-- the first fault of a block: header, sum, padding, commands
abbrev pub verdict : ℕ → ℕ → ℕ → List ℕ → Option BlockFault
verdict file number marked bs =
    first_some (header_fault file number bs)
    (first_some (sum_fault file number bs)
    (first_some (padding_fault file number (number_at 2 2 bs) bs)
    (commands_fault file number marked (commands_in bs))))

abbrev pub judged : Option BlockFault → List Entry → Result (List Entry) BlockFault
judged None es = Ok es
judged (Some f) es = Err f

-- what a reader answers: all the commands, or the first fault
unfoldable pub read_answer : ℕ → ℕ → ℕ → List ℕ → Result (List Entry) BlockFault
read_answer file number marked bs = judged (verdict file number marked bs) (entries (commands_in bs))

-- a check that found nothing, or a fault
abbrev pub passed : {A : Type 0} → A → Option BlockFault → Result A BlockFault
passed x None = Ok x
passed x (Some f) = Err f
