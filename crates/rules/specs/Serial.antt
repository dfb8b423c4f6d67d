-- The serial run behind a history: made from calls, arguments and answers alone.
use Rattle.std.specs.Prelude.{◌≡◌, ℕ, Bool, false, cond, List, [], ◌∷◌, ◌++◌, filter, Some, None, Ok, Err, Option, ◌==◌, nat_eq, nat_le}
use Rattle.base.specs.declared.key.Key.{Key}
use Rattle.table.specs.Order.{same_key}
use Rattle.rules.specs.declared.call.Call.{Call}
use Rattle.rules.specs.declared.call.Call.TheVariants as call
use Rattle.rules.specs.declared.call.Reply.TheVariants.{Number, Cell as CellAnswer}
use Rattle.rules.specs.declared.call.Event.{Event}
use Rattle.rules.specs.State.{Cell}
use Rattle.rules.specs.Calls.{Answer}
use Rattle.rules.specs.Recovery.{Seen}

-- what a transaction did: it saw a key's cell, or it set one
pub data Op : Type 0 where
  saw : Key → Cell → Op
  set_to : Key → Cell → Op

abbrev pub nothing : Seen
nothing k = None

abbrev pub assigned : Seen → Key → Cell → Seen
assigned t k c j = cond (same_key k j) c (t j)

abbrev pub after_ops : Seen → List Op → Seen
after_ops t [] = t
after_ops t (saw k c ∷ ops) = after_ops t ops
after_ops t (set_to k c ∷ ops) = after_ops (assigned t k c) ops

-- every read answers as it did in life
abbrev pub AsLived : Seen → List Op → Type 0
AsLived t [] = Unit {0}
AsLived t (saw k c ∷ ops) = (t k ≡ c) × AsLived t ops
AsLived t (set_to k c ∷ ops) = AsLived (assigned t k c) ops

-- a transaction from its lock on
pub record Txn : Type 0 where
  pub worker : ℕ
  pub ops : List Op
  pub epoch : ℕ
  -- the number of its result, once it is installed
  pub result : Option ℕ

-- what a history tells: the operations of each worker's open transaction, the transactions in the order of their locks,
-- and the last persist's answer
pub record Story : Type 0 where
  pub ops : ℕ → List Op
  pub line : List Txn
  pub persistent : ℕ

abbrev pub with_ops : Story → ℕ → List Op → Story
with_ops s w os = record s { ops = λ v. cond (v == w) os (s.ops v) }

abbrev pub with_line : Story → List Txn → Story
with_line s l = record s { line = l }

abbrev pub did : Story → ℕ → Op → Story
did s w o = with_ops s w (s.ops w ++ (o ∷ []))

-- whether a transaction is a worker's, and neither installed nor dropped
abbrev pub is_open : ℕ → Txn → Bool
is_open w t = elim t.result [ Some n ↦ false | None ↦ nat_eq t.worker w ]

abbrev pub ended : ℕ → ℕ → List Txn → List Txn
ended w n [] = []
ended w n (t ∷ ts) = cond (is_open w t) (record t { result = Some n } ∷ ts) (t ∷ ended w n ts)

abbrev pub dropped : ℕ → List Txn → List Txn
dropped w [] = []
dropped w (t ∷ ts) = cond (is_open w t) ts (t ∷ dropped w ts)

-- an answered call; one that is not named here adds nothing
abbrev pub told_number : Story → Call → ℕ → Story
told_number s (call.Begin w) n = with_ops s w []
told_number s (call.Write w k v) n = did s w (set_to k (Some v))
told_number s (call.Erase w k) n = did s w (set_to k None)
told_number s (call.Lock w) e = with_line s (s.line ++ (record { worker = w; ops = s.ops w; epoch = e; result = None } ∷ []))
told_number s (call.Install w) n = with_line s (ended w n s.line)
told_number s (call.Abandon w) n = with_line s (dropped w s.line)
told_number s call.Persist d = record s { persistent = d }
told_number s _ n = s

abbrev pub told_cell : Story → Call → Cell → Story
told_cell s (call.Read w k) c = did s w (saw k c)
told_cell s _ c = s

abbrev pub told_by : Story → Call → Answer → Story
told_by s c (Ok (Number n)) = told_number s c n
told_by s c (Ok (CellAnswer x)) = told_cell s c x
told_by s c (Err e) = s

abbrev pub told : Story → Event → Story
told s e = told_by s e.call e.answer

unfoldable pub story_from : Story → List Event → Story
story_from s [] = s
story_from s (e ∷ es) = story_from (told s e) es

abbrev pub before_all : Story
before_all = record { ops = λ w. []; line = []; persistent = 0 }

abbrev pub in_run : ℕ → Txn → Bool
in_run d t = elim t.result [ Some n ↦ nat_le t.epoch d | None ↦ false ]

-- the installed transactions with a lock epoch up to d, in the order of their locks
unfoldable pub serial : ℕ → List Txn → List Txn
serial d ts = filter (in_run d) ts

unfoldable pub after_run : Seen → List Txn → Seen
after_run v [] = v
after_run v (t ∷ ts) = after_run (after_ops v t.ops) ts

abbrev pub ReadsAsLived : Seen → List Txn → Type 0
ReadsAsLived v [] = Unit {0}
ReadsAsLived v (t ∷ ts) = AsLived v t.ops × ReadsAsLived (after_ops v t.ops) ts
