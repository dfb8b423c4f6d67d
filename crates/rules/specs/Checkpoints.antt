-- The fuzzy checkpoint: a walk over the table while commits go on.
use Rattle.std.specs.Prelude.{ℕ, ◌+◌, ◌%◌, Bool, true, false, cond, not, ◌&&◌, List, [], ◌∷◌, length, map, filter, drop, Some, None, Ok, Err, Option, Result, ◌==◌}
use Rattle.std.specs.List.{list_all}
use Rattle.base.specs.declared.key.Key.{Key}
use Rattle.base.specs.declared.refusal.Refusal.{Refusal}
use Rattle.base.specs.declared.refusal.Refusal.TheVariants.{CheckpointUnderWay, NoCheckpointWalking, CheckpointUnfinished}
use Rattle.block.specs.Fitting.{fits, room}
use Rattle.block.specs.Format.{content, size_of, sealed}
use Rattle.block.specs.declared.entry.Entry.{Entry}
use Rattle.block.specs.declared.entry.Entry.TheVariants.{Row, Gone}
use Rattle.medium.specs.Model.{FileModel, MediumModel, count_of}
use Rattle.medium.specs.Steps.{append_answer, append_after}
use Rattle.table.specs.Order.{behind}
use Rattle.table.specs.declared.record.Record.{Record}
use Rattle.rules.specs.State.{Cursor, Checkpoint, none, walking, closed}

abbrev pub counts : List FileModel → List ℕ
counts fs = map count_of fs

abbrev pub fresh_cursor : Cursor
fresh_cursor = record { reached = None; done = false }

abbrev pub started : List ℕ → Checkpoint
started noted = walking noted (fresh_cursor ∷ (fresh_cursor ∷ (fresh_cursor ∷ (fresh_cursor ∷ []))))

-- start is refused while a checkpoint is walking, or closed and not in force
unfoldable pub start_rule : MediumModel → Checkpoint → Result Checkpoint Refusal
start_rule m none = Ok (started (counts m.files))
start_rule m _ = Err CheckpointUnderWay

-- a record belongs to the part of its last code byte, modulo 4
abbrev pub part_of : Key → ℕ
part_of k = k.code % 256 % 4

-- a part's records behind the cursor, locked or not, but none that was never written
abbrev pub is_next : ℕ → Option Key → Record → Bool
is_next p reached r = part_of r.key == p && (behind reached r.key && not (r.tid == 0))

abbrev pub next_records : ℕ → Option Key → List Record → List Record
next_records p reached rs = filter (is_next p reached) rs

abbrev pub row_of : Record → Entry
row_of r = elim r.value [ Some v ↦ Row r.tid r.key v | None ↦ Gone r.tid r.key ]

-- as many of them as fit in one block
abbrev pub that_fit : ℕ → List Record → List Record
that_fit used [] = []
that_fit used (r ∷ rs) = cond (fits room used (size_of (row_of r))) (r ∷ that_fit (used + size_of (row_of r)) rs) []

abbrev pub rows : List Record → List Entry
rows rs = map row_of rs

abbrev pub last_key : Option Key → List Record → Option Key
last_key k [] = k
last_key k (r ∷ rs) = last_key (Some r.key) rs

pub record Stepped : Type 0 where
  pub new : Cursor
  pub medium : MediumModel
  pub number : ℕ

abbrev pub stepped_with : ℕ → Cursor → MediumModel → List Record → Result ℕ Refusal → Result Stepped Refusal
stepped_with p c m rs (Ok n) = Ok (record { new = record { reached = last_key c.reached rs; done = false }; medium = append_after m (4 + p) (sealed (4 + p) n (content (rows rs))); number = length rs })
stepped_with p c m rs (Err e) = Err e

-- with none left the part is done, and nothing is appended
abbrev pub stepped : ℕ → Cursor → MediumModel → List Record → Result Stepped Refusal
stepped p c m [] = Ok (record { new = record c { done = true }; medium = m; number = 0 })
stepped p c m (r ∷ rs) = stepped_with p c m (r ∷ rs) (append_answer m (4 + p))

unfoldable pub step_rule : ℕ → Cursor → List Record → MediumModel → Result Stepped Refusal
step_rule p c t m =
    cond c.done (Ok (record { new = c; medium = m; number = 0 }))
    (stepped p c m (that_fit 0 (next_records p c.reached t)))

-- close
abbrev pub all_done : List Cursor → Bool
all_done cs = list_all (λ c. c.done) cs

abbrev pub all_synced : List FileModel → Bool
all_synced fs = list_all (λ f. f.synced == count_of f) fs

unfoldable pub close_rule : ℕ → MediumModel → Checkpoint → Result Checkpoint Refusal
close_rule e m (walking noted cursors) =
    cond (all_done cursors && all_synced (drop 4 m.files)) (Ok (closed noted (drop 4 (counts m.files)) e)) (Err CheckpointUnfinished)
close_rule e m _ = Err NoCheckpointWalking
