-- Small nights that the rules must tell rightly.
use Rattle.std.specs.Prelude.{◌≡◌, ℕ, List, [], ◌∷◌, ◌++◌, map, replicate, pos, Some, None, Ok, Err, Option, Result, slice_index_or}
use Rattle.base.specs.Faults.{ReplayFault}
use Rattle.base.specs.declared.key.Key.{Key}
use Rattle.base.specs.declared.refusal.Refusal.{Refusal}
use Rattle.base.specs.declared.refusal.Refusal.TheVariants.{AdvanceHeldBack, NotPersistent}
use Rattle.medium.specs.Cuts.{cut_after}
use Rattle.medium.specs.Model.{MediumModel}
use Rattle.medium.specs.Sound.{fresh_of}
use Rattle.table.specs.declared.record.Record.{Record}
use Rattle.rules.specs.declared.call.Call.{Call}
use Rattle.rules.specs.declared.call.Call.TheVariants.{Begin, Read, Write, Erase, Lock, Validate, Install, Advance, Spill, Sync, Persist, Release, CheckpointStart, CheckpointStep, CheckpointClose}
use Rattle.rules.specs.declared.call.Reply.TheVariants.{Number, Cell as CellAnswer}
use Rattle.rules.specs.declared.call.Event.{Event}
use Rattle.rules.specs.State.{Cell, State}
use Rattle.rules.specs.Calls.{Answer, opened, played, history}
use Rattle.rules.specs.Nights.{replays}
use Rattle.rules.specs.Recovery.{Recovery, start_recovery, finish_rule, seen}
use Rattle.rules.specs.Serial.{story_from, before_all, serial, after_run, nothing}

-- eight files of eight blocks, and a logger for each worker
abbrev pub evening : State
evening = opened (1 ∷ 2 ∷ 4 ∷ 8 ∷ []) (fresh_of (replicate 8 8))

abbrev pub key : ℕ → Key
key n = record { kind = 0; code = n }

-- what the calls answered, one after the other
abbrev pub answers : List Event → List Answer
answers es = map (λ e. e.answer) es

abbrev pub answer_at : ℕ → List Call → Answer
answer_at n cs = slice_index_or (answers (history evening cs)) n (Ok (Number 0))

-- a cut that loses all that is unsynced
abbrev pub cut_hard : List Call → MediumModel
cut_hard cs = cut_after (played evening cs).medium [] []

abbrev pub finished : Result (List Record) Refusal → Key → Option Cell
finished (Ok t) k = Some (seen t k)
finished (Err e) k = None

abbrev pub recovered_from : MediumModel → List ℕ → Result Recovery ReplayFault → Key → Option Cell
recovered_from m fs (Ok r) k = finished (finish_rule (replays m r fs)) k
recovered_from m fs (Err e) k = None

-- two blocks of each file at most, the parts first
abbrev pub order : List ℕ
order = 7 ∷ 6 ∷ 5 ∷ 4 ∷ 3 ∷ 2 ∷ 1 ∷ 0 ∷ 0 ∷ 1 ∷ 4 ∷ []

-- what recovery finds of a key after a night and a cut, if it refuses nothing
abbrev pub found : List Call → Key → Option Cell
found cs k = recovered_from (cut_hard cs) order (start_recovery (cut_hard cs)) k

-- what the serial run ends with
abbrev pub ran : List Call → Key → Cell
ran cs k = after_run nothing (serial (story_from before_all (history evening cs)).persistent (story_from before_all (history evening cs)).line) k

-- one write from begin to install
abbrev pub writes : ℕ → ℕ → ℕ → List Call
writes w k v = Begin w ∷ Write w (key k) (pos v) ∷ Lock w ∷ Validate w ∷ Install w ∷ []

abbrev pub erases : ℕ → ℕ → List Call
erases w k = Begin w ∷ Erase w (key k) ∷ Lock w ∷ Validate w ∷ Install w ∷ []

-- all four parts walked to their ends, where each has at most one block
abbrev pub walked : List Call
walked = CheckpointStep 0 ∷ CheckpointStep 0 ∷ CheckpointStep 1 ∷ CheckpointStep 1 ∷ CheckpointStep 2 ∷ CheckpointStep 2 ∷ CheckpointStep 3 ∷ CheckpointStep 3 ∷ []

abbrev pub closing : List Call
closing = Sync 4 ∷ Sync 5 ∷ Sync 6 ∷ Sync 7 ∷ CheckpointClose ∷ []

-- a commit that survives
abbrev pub settled : List Call
settled = writes 0 7 900 ++ (Advance ∷ Spill 0 ∷ Sync 0 ∷ Persist ∷ Release 0 ∷ [])

pub record Survives : Type 0 where
  pub persisted : answer_at 8 settled ≡ Ok (Number 1)
  pub released : answer_at 9 settled ≡ Ok (Number 0)
  pub there : found settled (key 7) ≡ Some (Some (pos 900))
  pub serial : ran settled (key 7) ≡ Some (pos 900)

-- one that does not, since its block was never synced
abbrev pub unsynced : List Call
unsynced = writes 0 7 900 ++ (Advance ∷ Spill 0 ∷ Persist ∷ Release 0 ∷ [])

pub record IsLost : Type 0 where
  pub persisted : answer_at 7 unsynced ≡ Ok (Number 0)
  pub withheld : answer_at 8 unsynced ≡ Err NotPersistent
  pub gone : found unsynced (key 7) ≡ Some None
  pub serial : ran unsynced (key 7) ≡ None

-- a record installed behind the checkpoint's cursor, which the log still has
abbrev pub overtaken : List Call
overtaken =
    writes 0 8 80 ++ (Spill 0 ∷ Sync 0 ∷ CheckpointStart ∷ CheckpointStep 0 ∷ []) ++ writes 0 4 40 ++ (Spill 0 ∷ Sync 0 ∷ [])
    ++ walked ++ closing ++ (Advance ∷ Persist ∷ [])

pub record LogHasIt : Type 0 where
  pub from_part : found overtaken (key 8) ≡ Some (Some (pos 80))
  pub from_log : found overtaken (key 4) ≡ Some (Some (pos 40))
  pub serial : ran overtaken (key 4) ≡ Some (pos 40)

-- two transactions whose TID order is not the order of their locks
abbrev pub crossed : List Call
crossed =
    writes 0 1 10 ++ writes 0 1 11
    ++ (Begin 0 ∷ Write 0 (key 2) (pos 20) ∷ Lock 0 ∷ Begin 1 ∷ Write 1 (key 3) (pos 30) ∷ Lock 1 ∷ [])
    ++ (Validate 1 ∷ Install 1 ∷ Validate 0 ∷ Install 0 ∷ Advance ∷ Spill 0 ∷ Sync 0 ∷ Spill 1 ∷ Sync 1 ∷ Persist ∷ [])

pub record LockOrder : Type 0 where
  pub second : answer_at 16 crossed ≡ Ok (Number 65536)
  pub first : answer_at 18 crossed ≡ Ok (Number 65538)
  pub one : found crossed (key 2) ≡ Some (Some (pos 20))
  pub other : found crossed (key 3) ≡ Some (Some (pos 30))

-- D is held back by a locked worker
abbrev pub held_back : List Call
held_back =
    writes 1 3 30 ++ (Begin 0 ∷ Write 0 (key 2) (pos 20) ∷ Lock 0 ∷ Advance ∷ Spill 1 ∷ Sync 1 ∷ Persist ∷ Advance ∷ [])

pub record HoldsBack : Type 0 where
  pub persisted : answer_at 11 held_back ≡ Ok (Number 0)
  pub refused : answer_at 12 held_back ≡ Err AdvanceHeldBack
  pub nothing_yet : found held_back (key 3) ≡ Some None

-- a deleted key whose older write is still in the log: the checkpoint's row keeps it from coming back
abbrev pub deleted : List Call
deleted =
    writes 0 8 80 ++ erases 1 8 ++ (Spill 1 ∷ Sync 1 ∷ CheckpointStart ∷ Spill 0 ∷ Sync 0 ∷ [])
    ++ walked ++ closing ++ (Advance ∷ Persist ∷ [])

pub record StaysDeleted : Type 0 where
  pub newer : answer_at 8 deleted ≡ Ok (Number 65537)
  pub in_force : answer_at 29 deleted ≡ Ok (Number 1)
  pub absent : found deleted (key 8) ≡ Some None
  pub serial : ran deleted (key 8) ≡ None

-- a transaction that only reads releases too
abbrev pub looked : List Call
looked = Begin 2 ∷ Read 2 (key 7) ∷ Lock 2 ∷ Validate 2 ∷ Install 2 ∷ Advance ∷ Persist ∷ Release 0 ∷ []

pub record ReadOnly : Type 0 where
  pub absent : answer_at 1 looked ≡ Ok (CellAnswer None)
  pub tid : answer_at 3 looked ≡ Ok (Number 65536)
  pub released : answer_at 7 looked ≡ Ok (Number 0)

pub record SmallNights : Type 0 where
  pub a_commit_survives : Survives
  pub an_unsynced_one_is_lost : IsLost
  pub the_log_has_what_the_walk_missed : LogHasIt
  pub locks_give_the_order : LockOrder
  pub a_lock_holds_the_epoch_back : HoldsBack
  pub a_deleted_key_stays_deleted : StaysDeleted
  pub a_read_only_one_releases : ReadOnly
