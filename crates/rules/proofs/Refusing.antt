-- What a call leaves: nothing new if it is refused, the medium touched once at most, and the mark as it was unless it is a persist.
use Rattle.std.proofs.Common.{◌≡◌, ℕ, ◌+◌, false, List, get_or, ◌⊎◌, ⊎_elim, arith}
use Rattle.medium.specs.Model.{file_of, count_of}
use Rattle.medium.specs.Steps.{append_after, sync_after, retire_after, set_mark_after}
use Rattle.block.specs.Format.{content, sealed}
use Rattle.rules.specs.declared.call.Call.{Call}
use Rattle.rules.specs.declared.call.Call.TheVariants as call
use Rattle.rules.specs.State.{Cursor, Checkpoint, walking, State, logger_at}
use Rattle.rules.specs.Logging.{spill_rule, persistent, new_mark}
use Rattle.rules.specs.Checkpoints.{fresh_cursor, step_rule, that_fit, next_records, rows}
use Rattle.rules.specs.Calls.{rule}
use Rattle.rules.specs.Laws.{is_persist, RefusalsChangeNothing, untouched, appended, synced, retired, marked, OneChangeAtMost}

pub refusals_change_nothing : RefusalsChangeNothing
unfolding rule spill_rule step_rule
refusals_change_nothing s c e h = grind arith

-- the block that a call may append
abbrev log_block : State → ℕ → List ℕ
log_block s l = sealed l (count_of (file_of s.medium l)) (logger_at s l).bytes

abbrev cursor_of : Checkpoint → ℕ → Cursor
cursor_of (walking noted cs) p = get_or cs p fresh_cursor
cursor_of _ p = fresh_cursor

abbrev part_block : State → ℕ → List ℕ
part_block s p = sealed (4 + p) (count_of (file_of s.medium (4 + p))) (content (rows (that_fit 0 (next_records p (cursor_of s.checkpoint p).reached s.table))))

-- a medium that a call leaves as it was, or as one call of its own left it
spill_once : (s : State) (l : ℕ) → let m = (rule s (call.Spill l)).state.medium in (m ≡ s.medium) ⊎ (m ≡ append_after s.medium l (log_block s l))
unfolding rule spill_rule
spill_once s l = grind arith

step_once : (s : State) (p : ℕ) → let m = (rule s (call.CheckpointStep p)).state.medium in (m ≡ s.medium) ⊎ (m ≡ append_after s.medium (4 + p) (part_block s p))
unfolding rule step_rule
step_once s p = grind arith

sync_once : (s : State) (f : ℕ) → let m = (rule s (call.Sync f)).state.medium in (m ≡ s.medium) ⊎ (m ≡ sync_after s.medium f)
unfolding rule
sync_once s f = grind arith

retire_once : (s : State) (f : ℕ) → let m = (rule s (call.Retire f)).state.medium in (m ≡ s.medium) ⊎ (m ≡ retire_after s.medium f (get_or s.medium.mark.starts f 0))
unfolding rule
retire_once s f = grind arith

persist_once : (s : State) → let m = (rule s call.Persist).state.medium in (m ≡ s.medium) ⊎ (m ≡ set_mark_after s.medium (new_mark (persistent s.epoch s.workers s.loggers) s.medium s.checkpoint))
unfolding rule
persist_once s = grind arith

pub one_change_at_most : OneChangeAtMost
unfolding rule
one_change_at_most s (call.Spill l) = ⊎_elim untouched (appended _ _) (spill_once s l)
one_change_at_most s (call.Sync f) = ⊎_elim untouched (synced _) (sync_once s f)
one_change_at_most s call.Persist = ⊎_elim untouched (marked _) (persist_once s)
one_change_at_most s (call.CheckpointStep p) = ⊎_elim untouched (appended _ _) (step_once s p)
one_change_at_most s (call.Retire f) = ⊎_elim untouched (retired _ _) (retire_once s f)
one_change_at_most s c = untouched (grind arith)

-- only a persist sets the mark, to the epoch that it answers
pub same_marks : (s : State) (c : Call) → is_persist c ≡ false → (rule s c).state.medium.mark ≡ s.medium.mark
unfolding rule spill_rule step_rule
same_marks s c h = grind arith

pub persist_marks : (s : State) → (rule s call.Persist).state.medium.mark.epoch ≡ persistent s.epoch s.workers s.loggers
unfolding rule
persist_marks s = grind arith
