-- One rule for each call, from state and arguments to state and answer.
use Rattle.std.specs.Prelude.{ℕ, ◌+◌, ◌-◌, Bool, cond, not, ◌&&◌, List, [], ◌∷◌, ◌++◌, length, replicate, sum_by, Some, None, Ok, Err, Option, Result, ◌==◌, bit_or, count_ones, nat_lt, slice_index, slice_index_or, slice_set}
use Rattle.std.specs.List.{list_all}
use Rattle.base.specs.declared.refusal.Refusal.{Refusal}
use Rattle.base.specs.declared.refusal.Refusal.TheVariants.{MasksUnfit, MediumNotFresh, NoSuchIndex, NoCheckpointWalking}
use Rattle.medium.specs.Model.{FileModel, MediumModel, file_of, count_of}
use Rattle.medium.specs.Sound.{zeros}
use Rattle.medium.specs.Steps.{sync_answer, sync_after, retire_answer, retire_after, set_mark_after}
use Rattle.table.specs.Records.{look}
use Rattle.rules.specs.declared.call.Call.{Call}
use Rattle.rules.specs.declared.call.Call.TheVariants as call
use Rattle.rules.specs.declared.call.Reply.{Reply}
use Rattle.rules.specs.declared.call.Reply.TheVariants.{Number, Cell as Seen}
use Rattle.rules.specs.declared.call.Event.{Event}
use Rattle.rules.specs.State.{Worker, Cursor, Checkpoint, none, walking, State, no_worker, empty_logger, worker_of, logger_at, logger_of, cell_in, with_worker, with_table, with_logger, with_epoch, with_checkpoint, with_results, with_medium}
use Rattle.rules.specs.Transactions.{Done, Read, Locked, Installed, begin_rule, read_rule, change_rule, lock_rule, validate_rule, install_rule, abandon_rule}
use Rattle.rules.specs.Logging.{advance_rule, reserved_from, Spilled, spill_rule, lasting, persistent, new_mark, same_mark, in_force, release_rule, void_rule, without}
use Rattle.rules.specs.Checkpoints.{fresh_cursor, start_rule, Stepped, step_rule, close_rule}

-- open: every worker has one logger, and the medium is fresh
abbrev pub ones_in : List ℕ → ℕ
ones_in ms = sum_by count_ones ms

abbrev pub joined_masks : List ℕ → ℕ
joined_masks [] = 0
joined_masks (m ∷ ms) = bit_or m (joined_masks ms)

abbrev pub masks_fit : List ℕ → Bool
masks_fit ms = ones_in ms == 4 && joined_masks ms == 15

abbrev pub all_empty : List FileModel → Bool
all_empty fs = list_all (λ f. f.first == 0 && count_of f == 0) fs

abbrev pub is_fresh : MediumModel → Bool
is_fresh m = all_empty m.files && same_mark m.mark zeros

abbrev pub opened : List ℕ → MediumModel → State
opened ms m = record { epoch = 1; table = []; workers = replicate 4 no_worker; loggers = replicate 4 empty_logger; masks = ms; checkpoint = none; results = []; installs = 0; medium = m }

unfoldable pub open_rule : List ℕ → MediumModel → Result State Refusal
open_rule ms m = cond (not (masks_fit ms)) (Err MasksUnfit) (cond (not (is_fresh m)) (Err MediumNotFresh) (Ok (opened ms m)))

-- a reply, or a refusal
abbrev pub Answer : Type 0
Answer = Result Reply Refusal

pub record Outcome : Type 0 where
  pub state : State
  pub answer : Answer

-- a refused call leaves the state as it was
abbrev pub refused : State → Refusal → Outcome
refused s e = record { state = s; answer = Err e }

abbrev pub answered : State → ℕ → Outcome
answered s n = record { state = s; answer = Ok (Number n) }

-- workers, loggers and parts are numbered from 0 to 3, before all else
abbrev pub up_to_3 : State → ℕ → Outcome → Outcome
up_to_3 s n o = cond (nat_lt 3 n) (refused s NoSuchIndex) o

abbrev pub begin_call : State → ℕ → Result Worker Refusal → Outcome
begin_call s w (Ok x) = answered (with_worker s w x) 0
begin_call s w (Err e) = refused s e

abbrev pub read_call : State → ℕ → Result Read Refusal → Outcome
read_call s w (Ok r) = record { state = with_worker s w r.new; answer = Ok (Seen r.cell) }
read_call s w (Err e) = refused s e

abbrev pub change_call : State → ℕ → Result (Done Worker) Refusal → Outcome
change_call s w (Ok d) = answered (with_worker s w d.new) d.answer
change_call s w (Err e) = refused s e

abbrev pub lock_call : State → ℕ → Result Locked Refusal → Outcome
lock_call s w (Ok l) = answered (with_table (with_worker s w l.new) l.table) s.epoch
lock_call s w (Err e) = refused s e

abbrev pub validate_call : State → ℕ → Result Worker Refusal → Outcome
validate_call s w (Ok x) = answered (with_worker s w x) x.tid
validate_call s w (Err e) = refused s e

-- install answers the number of the held result
abbrev pub install_call : State → ℕ → Result Installed Refusal → Outcome
install_call s w (Ok i) =
    answered
    (with_results (with_logger (with_table (with_worker s w i.new) i.table) (logger_of s w) i.logger)
    (s.results ++ (record { number = s.installs; epoch = (worker_of s w).lock_epoch } ∷ [])) (s.installs + 1))
    s.installs
install_call s w (Err e) = refused s e

abbrev pub abandon_call : State → ℕ → Result Locked Refusal → Outcome
abandon_call s w (Ok l) = answered (with_table (with_worker s w l.new) l.table) 0
abandon_call s w (Err e) = refused s e

-- what a logger's block has used and reserved
abbrev pub taken_in : State → ℕ → ℕ
taken_in s l = length (logger_at s l).bytes + reserved_from (logger_of s) l 0 s.workers

abbrev pub advance_call : State → Result ℕ Refusal → Outcome
advance_call s (Ok e) = answered (with_epoch s e) e
advance_call s (Err e) = refused s e

abbrev pub spill_call : State → ℕ → Result Spilled Refusal → Outcome
spill_call s l (Ok p) = answered (with_medium (with_logger s l p.new) p.medium) p.number
spill_call s l (Err e) = refused s e

abbrev pub sync_call : State → ℕ → Result ℕ Refusal → Outcome
sync_call s f (Ok n) = answered (with_medium (cond (nat_lt f 4) (with_logger s f (lasting (logger_at s f))) s) (sync_after s.medium f)) n
sync_call s f (Err e) = refused s e

-- persist sets the mark if it differs; a checkpoint that comes into force is over
abbrev pub persist_at : State → ℕ → Outcome
persist_at s d =
    answered
    (with_checkpoint
    (cond (same_mark (new_mark d s.medium s.checkpoint) s.medium.mark) s (with_medium s (set_mark_after s.medium (new_mark d s.medium s.checkpoint))))
    (cond (in_force d s.checkpoint) none s.checkpoint))
    d

abbrev pub spent : State → ℕ → Option Refusal → Outcome
spent s n None = answered (with_results s (without n s.results) s.installs) 0
spent s n (Some e) = refused s e

abbrev pub checkpoint_call : State → ℕ → Result Checkpoint Refusal → Outcome
checkpoint_call s n (Ok c) = answered (with_checkpoint s c) n
checkpoint_call s n (Err e) = refused s e

abbrev pub step_call : State → ℕ → List ℕ → List Cursor → Result Stepped Refusal → Outcome
step_call s p noted cursors (Ok t) = answered (with_medium (with_checkpoint s (walking noted (slice_set cursors p t.new))) t.medium) t.number
step_call s p noted cursors (Err e) = refused s e

abbrev pub step_in : State → ℕ → Checkpoint → Outcome
step_in s p (walking noted cursors) = step_call s p noted cursors (step_rule p (slice_index_or cursors p fresh_cursor) s.table s.medium)
step_in s p _ = refused s NoCheckpointWalking

-- retire drops what lies in front of the marked start
abbrev pub retire_call : State → ℕ → Result ℕ Refusal → Outcome
retire_call s f (Ok n) = answered (with_medium s (retire_after s.medium f (slice_index s.medium.mark.starts f))) (slice_index s.medium.mark.starts f - (file_of s.medium f).first)
retire_call s f (Err e) = refused s e

unfoldable pub rule : State → Call → Outcome
rule s (call.Begin w) = up_to_3 s w (begin_call s w (begin_rule (worker_of s w)))
rule s (call.Read w k) = up_to_3 s w (read_call s w (read_rule s.table (worker_of s w) k))
rule s (call.Write w k v) = up_to_3 s w (change_call s w (change_rule (worker_of s w) k (Some v)))
rule s (call.Erase w k) = up_to_3 s w (change_call s w (change_rule (worker_of s w) k None))
rule s (call.Lock w) = up_to_3 s w (lock_call s w (lock_rule s.epoch w s.table (worker_of s w)))
rule s (call.Validate w) = up_to_3 s w (validate_call s w (validate_rule (taken_in s (logger_of s w)) w s.table (worker_of s w)))
rule s (call.Install w) = up_to_3 s w (install_call s w (install_rule s.table (logger_at s (logger_of s w)) (worker_of s w)))
rule s (call.Abandon w) = up_to_3 s w (abandon_call s w (abandon_rule s.table (worker_of s w)))
rule s call.Advance = advance_call s (advance_rule s.epoch s.workers)
rule s (call.Spill l) = up_to_3 s l (spill_call s l (spill_rule l (logger_at s l) s.medium))
rule s (call.Sync f) = sync_call s f (sync_answer s.medium f)
rule s call.Persist = persist_at s (persistent s.epoch s.workers s.loggers)
rule s (call.Release n) = spent s n (release_rule s.medium.mark.epoch n s.results)
rule s (call.Void n) = spent s n (void_rule n s.results)
rule s call.CheckpointStart = checkpoint_call s 0 (start_rule s.medium s.checkpoint)
rule s (call.CheckpointStep p) = up_to_3 s p (step_in s p s.checkpoint)
rule s call.CheckpointClose = checkpoint_call s s.epoch (close_rule s.epoch s.medium s.checkpoint)
rule s (call.Retire f) = retire_call s f (retire_answer s.medium f (slice_index s.medium.mark.starts f))
rule s (call.Value k) = record { state = s; answer = Ok (Seen (cell_in (look k s.table))) }

-- a list of calls, played from a state: what it leaves, and what was answered
unfoldable pub played : State → List Call → State
played s [] = s
played s (c ∷ cs) = played (rule s c).state cs

unfoldable pub history : State → List Call → List Event
history s [] = []
history s (c ∷ cs) = record { call = c; answer = (rule s c).answer } ∷ history (rule s c).state cs
