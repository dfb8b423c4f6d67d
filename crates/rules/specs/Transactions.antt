-- The rules of one transaction, each over what it touches. Refusals stand in the order in which they count.
use Rattle.std.specs.Prelude.{ℕ, ◌+◌, ◌*◌, max, Bool, true, false, cond, not, ◌&&◌, ◌||◌, List, [], ◌∷◌, ◌++◌, length, map, count_by, Some, None, Ok, Err, Option, Result, is_some, is_none, ◌==◌, nat_le, nat_lt}
use Rattle.std.specs.List.{list_any}
use Rattle.base.specs.Limits.{value_fits}
use Rattle.base.specs.declared.key.Key.{Key}
use Rattle.base.specs.declared.refusal.Refusal.{Refusal}
use Rattle.base.specs.declared.refusal.Refusal.TheVariants.{ValueOutOfRange, WorkerBusy, WrongTicket, KeyLocked, ReadChanged, ReadsInvalid, SequenceUsedUp, TooManyKeys, TableFull, NoRoomInBlock}
use Rattle.block.specs.Fitting.{fits, room, needed}
use Rattle.block.specs.Format.{content}
use Rattle.block.specs.declared.entry.Entry.{Entry}
use Rattle.block.specs.declared.entry.Entry.TheVariants.{Txn, Put, Del}
use Rattle.table.specs.Order.{same_key, most_records}
use Rattle.table.specs.Records.{look, put, take_out}
use Rattle.table.specs.declared.record.Record.{Record}
use Rattle.rules.specs.State.{Cell, Phase, idle, reading, locked, validated, Note, Change, Worker, Logger, tid_in, cell_in, holder_in, change_of, note_of, least}

-- something new, with a number to answer
pub record Done (A : Type 0) : Type 0 where
  pub new : A
  pub answer : ℕ

abbrev pub is_phase : Phase → Phase → Bool
is_phase idle idle = true
is_phase reading reading = true
is_phase locked locked = true
is_phase validated validated = true
is_phase _ _ = false

-- a transaction takes at most so many keys to read, and so many to write
abbrev pub most_keys : ℕ
most_keys = 16

-- begin
abbrev pub begun : Worker → Worker
begun x = record { phase = reading; reads = []; changes = []; lock_epoch = 0; tid = 0; last = x.last }

unfoldable pub begin_rule : Worker → Result Worker Refusal
begin_rule x = cond (is_phase idle x.phase) (Ok (begun x)) (Err WorkerBusy)

-- read
pub record Read : Type 0 where
  pub new : Worker
  pub cell : Cell

abbrev pub noting : Worker → Key → ℕ → Worker
noting x k t = record x { reads = x.reads ++ (record { key = k; tid = t } ∷ []) }

-- a key that was read before must have the same TID; a new one must not be one too many
abbrev pub note_read : Worker → Key → ℕ → Option ℕ → Result Worker Refusal
note_read x k t (Some seen) = cond (seen == t) (Ok x) (Err ReadChanged)
note_read x k t None = cond (nat_le most_keys (length x.reads)) (Err TooManyKeys) (Ok (noting x k t))

abbrev pub with_cell : Cell → Result Worker Refusal → Result Read Refusal
with_cell c (Ok x) = Ok (record { new = x; cell = c })
with_cell c (Err e) = Err e

abbrev pub read_record : Worker → Key → Option Record → Result Read Refusal
read_record x k r = cond (is_some (holder_in r)) (Err KeyLocked) (with_cell (cell_in r) (note_read x k (tid_in r) (note_of k x.reads)))

-- a key that this transaction wrote answers that
abbrev pub read_own : Worker → Key → Option Record → Option Cell → Result Read Refusal
read_own x k r (Some c) = Ok (record { new = x; cell = c })
read_own x k r None = read_record x k r

unfoldable pub read_rule : List Record → Worker → Key → Result Read Refusal
read_rule t x k = cond (is_phase reading x.phase) (read_own x k (look k t) (change_of k x.changes)) (Err WrongTicket)

-- write and erase
abbrev pub changed : Key → Cell → List Change → List Change
changed k c [] = record { key = k; cell = c } ∷ []
changed k c (x ∷ xs) = cond (same_key x.key k) (record x { cell = c } ∷ xs) (x ∷ changed k c xs)

abbrev pub changing : Worker → Key → Cell → Worker
changing x k c = record x { changes = changed k c x.changes }

abbrev pub cell_fits : Cell → Bool
cell_fits None = true
cell_fits (Some v) = value_fits v

unfoldable pub change_rule : Worker → Key → Cell → Result (Done Worker) Refusal
change_rule x k c =
    cond (not (is_phase reading x.phase)) (Err WrongTicket)
    (cond (not (cell_fits c)) (Err ValueOutOfRange)
    (cond (not (is_some (change_of k x.changes)) && nat_le most_keys (length x.changes)) (Err TooManyKeys)
    (Ok (record { new = changing x k c; answer = length (changed k c x.changes) }))))

-- lock
abbrev pub held_by_other : ℕ → Option ℕ → Bool
held_by_other w None = false
held_by_other w (Some v) = not (v == w)

abbrev pub any_held : ℕ → List Record → List Change → Bool
any_held w t cs = list_any (λ c. held_by_other w (holder_in (look c.key t))) cs

-- the record of a key, held by a worker; a key without one gets one that is absent with TID 0
abbrev pub held_record : ℕ → Key → Option Record → Record
held_record w k r = record { key = k; tid = tid_in r; value = cell_in r; holder = Some w }

abbrev pub lock_keys : ℕ → List Change → List Record → List Record
lock_keys w [] t = t
lock_keys w (c ∷ cs) t = lock_keys w cs (put (held_record w c.key (look c.key t)) t)

abbrev pub locking : ℕ → Worker → Worker
locking e x = record x { phase = locked; lock_epoch = e; tid = 0 }

pub record Locked : Type 0 where
  pub new : Worker
  pub table : List Record

unfoldable pub lock_rule : ℕ → ℕ → List Record → Worker → Result Locked Refusal
lock_rule e w t x =
    cond (not (is_phase reading x.phase)) (Err WrongTicket)
    (cond (any_held w t x.changes) (Err KeyLocked)
    (cond (nat_lt most_records (length (lock_keys w x.changes t))) (Err TableFull)
    (Ok (record { new = locking e x; table = lock_keys w x.changes t }))))

-- validate
abbrev pub any_changed : ℕ → List Record → List Note → Bool
any_changed w t ns = list_any (λ n. not (tid_in (look n.key t) == n.tid) || held_by_other w (holder_in (look n.key t))) ns

abbrev pub greatest_noted : List Note → ℕ
greatest_noted [] = 0
greatest_noted (n ∷ ns) = max n.tid (greatest_noted ns)

abbrev pub greatest_written : List Record → List Change → ℕ
greatest_written t [] = 0
greatest_written t (c ∷ cs) = max (tid_in (look c.key t)) (greatest_written t cs)

-- the greatest TID that a transaction has seen
abbrev pub greatest_seen : List Record → Worker → ℕ
greatest_seen t x = max (greatest_noted x.reads) (max (greatest_written t x.changes) x.last)

-- the first TID of the lock epoch, or the one behind the greatest seen; none if the epoch's last one is seen
unfoldable pub next_tid : ℕ → ℕ → Option ℕ
next_tid e m = cond (nat_lt m (e * 65536)) (Some (e * 65536)) (cond (m == e * 65536 + 65535) None (Some (m + 1)))

abbrev pub writes_of : List Change → ℕ
writes_of cs = count_by (λ c. is_some c.cell) cs

abbrev pub erases_of : List Change → ℕ
erases_of cs = count_by (λ c. is_none c.cell) cs

-- the command bytes that a worker's transaction needs
abbrev pub needs : Worker → ℕ
needs x = needed (writes_of x.changes) (erases_of x.changes)

abbrev pub validating : Worker → ℕ → Worker
validating x t = record x { phase = validated; tid = t }

abbrev pub validate_tid : ℕ → Worker → Option ℕ → Result Worker Refusal
validate_tid taken x None = Err SequenceUsedUp
validate_tid taken x (Some t) = cond (fits room taken (needs x)) (Ok (validating x t)) (Err NoRoomInBlock)

-- taken is what the logger's block has used and reserved
unfoldable pub validate_rule : ℕ → ℕ → List Record → Worker → Result Worker Refusal
validate_rule taken w t x =
    cond (not (is_phase locked x.phase)) (Err WrongTicket)
    (cond (any_changed w t x.reads) (Err ReadsInvalid)
    (validate_tid taken x (next_tid x.lock_epoch (greatest_seen t x))))

-- install
abbrev pub install_keys : ℕ → List Change → List Record → List Record
install_keys tid [] t = t
install_keys tid (c ∷ cs) t = install_keys tid cs (put (record { key = c.key; tid = tid; value = c.cell; holder = None }) t)

abbrev pub command_of : Change → Entry
command_of c = elim c.cell [ Some v ↦ Put c.key v | None ↦ Del c.key ]

abbrev pub commands_of : List Change → List Entry
commands_of cs = map command_of cs

-- the commands of a transaction; one that wrote nothing has none
abbrev pub commands : Worker → List Entry
commands x = elim x.changes [ [] ↦ [] | c ∷ cs ↦ Txn x.tid ∷ (command_of c ∷ commands_of cs) ]

abbrev pub ended : Worker → ℕ → Worker
ended x last = record { phase = idle; reads = []; changes = []; lock_epoch = 0; tid = 0; last = last }

abbrev pub logging : Logger → Worker → Logger
logging l x = elim x.changes [ [] ↦ l | c ∷ cs ↦ record l { bytes = l.bytes ++ content (commands x); held = least (Some x.lock_epoch) l.held } ]

pub record Installed : Type 0 where
  pub new : Worker
  pub table : List Record
  pub logger : Logger

unfoldable pub install_rule : List Record → Logger → Worker → Result Installed Refusal
install_rule t l x =
    cond (is_phase validated x.phase)
    (Ok (record { new = ended x x.tid; table = install_keys x.tid x.changes t; logger = logging l x }))
    (Err WrongTicket)

-- abandon
abbrev pub unlock_record : Option Record → List Record → List Record
unlock_record None t = t
unlock_record (Some r) t = cond (r.tid == 0) (take_out r.key t) (put (record r { holder = None }) t)

abbrev pub unlock_keys : List Change → List Record → List Record
unlock_keys [] t = t
unlock_keys (c ∷ cs) t = unlock_keys cs (unlock_record (look c.key t) t)

abbrev pub abandoned : Phase → List Change → List Record → List Record
abandoned locked cs t = unlock_keys cs t
abandoned validated cs t = unlock_keys cs t
abandoned _ cs t = t

unfoldable pub abandon_rule : List Record → Worker → Result Locked Refusal
abandon_rule t x = cond (is_phase idle x.phase) (Err WrongTicket) (Ok (record { new = ended x x.last; table = abandoned x.phase x.changes t }))
