-- The state of a store with its medium.
use Rattle.std.specs.Prelude.{ℕ, ◌+◌, ◌/◌, ◌%◌, ◌^◌, min, Bool, cond, List, [], ◌∷◌, ℤ, Some, None, Option, ◌==◌, slice_index_or, slice_set}
use Rattle.base.specs.declared.key.Key.{Key}
use Rattle.medium.specs.Model.{MediumModel}
use Rattle.table.specs.Order.{same_key}
use Rattle.table.specs.declared.record.Record.{Record}

-- a value, or absence
abbrev pub Cell : Type 0
Cell = Option ℤ

pub data Phase : Type 0 where
  idle : Phase
  reading : Phase
  locked : Phase
  validated : Phase

-- a key that was read, with the TID that it had
pub record Note : Type 0 where
  pub key : Key
  pub tid : ℕ

-- a key that is to be written, or erased
pub record Change : Type 0 where
  pub key : Key
  pub cell : Cell

-- what a worker's transaction has done so far, and the worker's last installed TID
pub record Worker : Type 0 where
  pub phase : Phase
  pub reads : List Note
  -- in the order of first writing
  pub changes : List Change
  pub lock_epoch : ℕ
  pub tid : ℕ
  pub last : ℕ

-- a logger's block in the making, the least epoch of what it holds, and of what is spilled and not yet synced
pub record Logger : Type 0 where
  pub bytes : List ℕ
  pub held : Option ℕ
  pub spilled : Option ℕ

-- how far a part of a checkpoint has come: the key reached last
pub record Cursor : Type 0 where
  pub reached : Option Key
  pub done : Bool

pub data Checkpoint : Type 0 where
  none : Checkpoint
  -- every file's count when it started, and the four parts
  walking : List ℕ → List Cursor → Checkpoint
  -- every file's count when it started, the four parts' counts at the close, and the high epoch
  closed : List ℕ → List ℕ → ℕ → Checkpoint

-- an installed transaction's result that is not yet handed out
pub record Held : Type 0 where
  pub number : ℕ
  pub epoch : ℕ

pub record State : Type 0 where
  pub epoch : ℕ
  pub table : List Record
  pub workers : List Worker
  pub loggers : List Logger
  pub masks : List ℕ
  pub checkpoint : Checkpoint
  pub results : List Held
  -- how many results there were so far
  pub installs : ℕ
  pub medium : MediumModel

abbrev pub no_worker : Worker
no_worker = record { phase = idle; reads = []; changes = []; lock_epoch = 0; tid = 0; last = 0 }

abbrev pub empty_logger : Logger
empty_logger = record { bytes = []; held = None; spilled = None }

abbrev pub worker_of : State → ℕ → Worker
worker_of s w = slice_index_or s.workers w no_worker

abbrev pub logger_at : State → ℕ → Logger
logger_at s l = slice_index_or s.loggers l empty_logger

-- a key without a record is absent with TID 0, and nobody holds it
abbrev pub tid_in : Option Record → ℕ
tid_in None = 0
tid_in (Some r) = r.tid

abbrev pub cell_in : Option Record → Cell
cell_in None = None
cell_in (Some r) = r.value

abbrev pub holder_in : Option Record → Option ℕ
holder_in None = None
holder_in (Some r) = r.holder

-- the change of a key, if it was written
abbrev pub change_of : Key → List Change → Option Cell
change_of k [] = None
change_of k (c ∷ cs) = cond (same_key c.key k) (Some c.cell) (change_of k cs)

abbrev pub note_of : Key → List Note → Option ℕ
note_of k [] = None
note_of k (n ∷ ns) = cond (same_key n.key k) (Some n.tid) (note_of k ns)

-- whether a worker's bit is set in a mask
abbrev pub in_mask : ℕ → ℕ → Bool
in_mask w mask = mask / 2 ^ w % 2 == 1

-- the first logger whose mask has the worker
abbrev pub logger_from : ℕ → ℕ → List ℕ → ℕ
logger_from w l [] = l
logger_from w l (m ∷ ms) = cond (in_mask w m) l (logger_from w (l + 1) ms)

abbrev pub logger_of : State → ℕ → ℕ
logger_of s w = logger_from w 0 s.masks

abbrev pub least : Option ℕ → Option ℕ → Option ℕ
least None o = o
least (Some m) None = Some m
least (Some m) (Some n) = Some (min m n)

-- the least epoch that an item of a list has, if one has any
abbrev pub least_of : {A : Type 0} → (A → Option ℕ) → List A → Option ℕ
least_of epoch [] = None
least_of epoch (x ∷ xs) = least (epoch x) (least_of epoch xs)

-- a state with one part changed
abbrev pub with_worker : State → ℕ → Worker → State
with_worker s w x = record s { workers = slice_set s.workers w x }

abbrev pub with_table : State → List Record → State
with_table s t = record s { table = t }

abbrev pub with_logger : State → ℕ → Logger → State
with_logger s l x = record s { loggers = slice_set s.loggers l x }

abbrev pub with_epoch : State → ℕ → State
with_epoch s e = record s { epoch = e }

abbrev pub with_checkpoint : State → Checkpoint → State
with_checkpoint s c = record s { checkpoint = c }

abbrev pub with_results : State → List Held → ℕ → State
with_results s hs n = record s { results = hs; installs = n }

abbrev pub with_medium : State → MediumModel → State
with_medium s m = record s { medium = m }
