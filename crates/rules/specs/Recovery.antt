-- Recovery: start, replay in any order of files, finish.
use Rattle.std.specs.Prelude.{◌≡◌, ℕ, ◌+◌, Bool, true, cond, ◌&&◌, ◌||◌, List, [], ◌∷◌, length, Some, None, Ok, Err, Option, Result, nat_le, nat_lt, slice_index, slice_set}
use Rattle.base.specs.Faults.{MediumFault, BlockFault, ReplayFault, raised}
use Rattle.base.specs.Tids.{epoch_of}
use Rattle.base.specs.declared.key.Key.{Key}
use Rattle.base.specs.declared.refusal.Refusal.{Refusal}
use Rattle.base.specs.declared.refusal.Refusal.TheVariants.{BlocksLeft, TableFull, NoBlockLeft, MarkUnsound}
use Rattle.block.specs.Checks.{read_answer}
use Rattle.block.specs.Format.{size_of}
use Rattle.block.specs.declared.entry.Entry.{Entry}
use Rattle.block.specs.declared.entry.Entry.TheVariants.{Txn, Put, Del, Row, Gone}
use Rattle.medium.specs.Model.{FileModel, MediumModel, file_of, count_of}
use Rattle.medium.specs.Steps.{fetch_answer, block_at}
use Rattle.medium.specs.declared.mark.Mark.{Mark}
use Rattle.table.specs.Order.{most_records}
use Rattle.table.specs.Records.{look, put}
use Rattle.table.specs.declared.record.Record.{Record}
use Rattle.rules.specs.State.{Cell, tid_in, cell_in}

-- a recovery under way: the marked epoch, the next block of each file, where each ends, and the table so far
pub record Recovery : Type 0 where
  pub marked : ℕ
  pub next : List ℕ
  pub ends : List ℕ
  pub table : List Record

-- a fault of the replay itself
abbrev pub replay_fault : Refusal → ℕ → ℕ → ℕ → ℕ → ReplayFault
replay_fault r file number byte epoch = record { refusal = r; at = record { file = file; block = number; byte = byte; epoch = epoch }; cause = None }

-- start: the first file whose marked blocks are not all there
abbrev pub bad_file : ℕ → ℕ → FileModel → Bool
bad_file start end f = nat_lt end start || (nat_lt start f.first || nat_lt (count_of f) end)

abbrev pub first_bad : ℕ → List FileModel → List ℕ → List ℕ → Option ℕ
first_bad n (f ∷ fs) (s ∷ ss) (e ∷ es) = cond (bad_file s e f) (Some n) (first_bad (n + 1) fs ss es)
first_bad n _ _ _ = None

abbrev pub started_at : Mark → Option ℕ → Result Recovery ReplayFault
started_at k (Some n) = Err (replay_fault MarkUnsound n 0 0 k.epoch)
started_at k None = Ok (record { marked = k.epoch; next = k.starts; ends = k.ends; table = [] })

unfoldable pub start_recovery : MediumModel → Result Recovery ReplayFault
start_recovery m = cond (nat_lt 999999 m.mark.epoch) (Err (replay_fault MarkUnsound 0 0 0 m.mark.epoch)) (started_at m.mark (first_bad 0 m.files m.mark.starts m.mark.ends))

-- a version replaces the record's only if its TID is larger
pub record Version : Type 0 where
  pub key : Key
  pub tid : ℕ
  pub cell : Cell

abbrev pub offered : Version → List Record → List Record
offered v t = cond (nat_lt (tid_in (look v.key t)) v.tid) (put (record { key = v.key; tid = v.tid; value = v.cell; holder = None }) t) t

-- where the scan of a block's commands stands: PUT and DEL belong to the last TXN
pub data Scan : Type 0 where
  no_txn : Scan
  applying : ℕ → Scan
  skipping : Scan

abbrev pub scan_after : ℕ → Scan → Entry → Scan
scan_after marked s (Txn tid) = cond (nat_le (epoch_of tid) marked) (applying tid) skipping
scan_after marked s _ = s

abbrev pub change_at : Scan → Key → Cell → Option Version
change_at (applying tid) k c = Some (record { key = k; tid = tid; cell = c })
change_at _ k c = None

-- the version that a command gives, if it gives one
abbrev pub version_of : Scan → Entry → Option Version
version_of s (Txn tid) = None
version_of s (Put key value) = change_at s key (Some value)
version_of s (Del key) = change_at s key None
version_of s (Row tid key value) = Some (record { key = key; tid = tid; cell = Some value })
version_of s (Gone tid key) = Some (record { key = key; tid = tid; cell = None })

abbrev pub epoch_in : Option Version → ℕ
epoch_in None = 0
epoch_in (Some v) = epoch_of v.tid

abbrev pub with_version : Option Version → List Record → List Record
with_version None t = t
with_version (Some v) t = offered v t

-- the table after a block's commands, or the place of the command that would make it too large
abbrev pub taken : ℕ → ℕ → ℕ → ℕ → Scan → List Entry → List Record → Result (List Record) ReplayFault
taken file number marked at s [] t = Ok t
taken file number marked at s (e ∷ es) t =
    cond (nat_lt most_records (length (with_version (version_of s e) t)))
    (Err (replay_fault TableFull file number at (epoch_in (version_of s e))))
    (taken file number marked (at + size_of e) (scan_after marked s e) es (with_version (version_of s e) t))

pub record Replayed : Type 0 where
  pub new : Recovery
  pub number : ℕ

abbrev pub with_block : Recovery → ℕ → ℕ → Result (List Record) ReplayFault → Result Replayed ReplayFault
with_block r f n (Ok t) = Ok (record { new = record r { next = slice_set r.next f (n + 1); table = t }; number = n })
with_block r f n (Err e) = Err e

abbrev pub taken_from : Recovery → ℕ → ℕ → Result (List Entry) BlockFault → Result Replayed ReplayFault
taken_from r f n (Ok es) = with_block r f n (taken f n r.marked 8 no_txn es r.table)
taken_from r f n (Err b) = Err (raised b)

-- a medium that does not give a block says so with its file and its number
abbrev pub medium_fault : Refusal → ℕ → ℕ → MediumFault
medium_fault e f n = record { refusal = e; at = record { file = f; block = n; byte = 0; epoch = 0 }; cause = None }

abbrev pub fetched : Recovery → ℕ → ℕ → MediumModel → Result ℕ Refusal → Result Replayed ReplayFault
fetched r f n m (Ok k) = taken_from r f n (read_answer f n r.marked (block_at (file_of m f) n []))
fetched r f n m (Err e) = Err (raised (raised (medium_fault e f n)))

abbrev pub has_left : Recovery → ℕ → Bool
has_left r f = nat_lt (slice_index r.next f) (slice_index r.ends f)

-- replay of a file that there is: its next block
unfoldable pub replay_rule : MediumModel → Recovery → ℕ → Result Replayed ReplayFault
replay_rule m r f =
    cond (has_left r f)
    (fetched r f (slice_index r.next f) m (fetch_answer m f (slice_index r.next f)))
    (Err (replay_fault NoBlockLeft f 0 0 0))

abbrev pub none_left : List ℕ → List ℕ → Bool
none_left (n ∷ ns) (e ∷ es) = nat_le e n && none_left ns es
none_left _ _ = true

unfoldable pub finish_rule : Recovery → Result (List Record) Refusal
finish_rule r = cond (none_left r.next r.ends) (Ok r.table) (Err BlocksLeft)

-- a table as the outside sees it: the value of each key, or absence
abbrev pub Seen : Type 0
Seen = Key → Cell

abbrev pub seen : List Record → Seen
seen t k = cell_in (look k t)

-- equal tables have the same present keys and values
abbrev pub SameTable : Seen → Seen → Type 0
SameTable s t = (k : Key) → s k ≡ t k
