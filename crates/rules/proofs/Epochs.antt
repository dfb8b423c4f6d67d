-- The marked epoch lies before all that is under way, and never falls.
use Rattle.std.proofs.Common.{◌≡◌, ℕ, ◌<◌, ◌≤◌, All, List, get_or, [], ◌∷◌, Option, ◌↔◌, ap, None, IfOk, Result, ⊎_elim, length, refl, arith}
use Rattle.std.proofs.lemmas.Bool.{cases_lt}
use Rattle.std.proofs.lemmas.Grind.{elements}
use Rattle.std.proofs.lemmas.List.Elements.{All-nil, All-cons, All-head, All-tail, All-replicate, All-weaker}
use Rattle.std.proofs.lemmas.List.{get_or_past}
use Rattle.base.specs.declared.refusal.Refusal.{Refusal}
use Rattle.medium.specs.Model.{MediumModel}
use Rattle.medium.specs.Steps.{append_after, sync_after, retire_after}
use Rattle.medium.specs.declared.mark.Mark.{Mark}
use Rattle.table.specs.declared.record.Record.{Record}
use Rattle.rules.proofs.Refusing.{same_marks, persist_marks}
use Rattle.rules.specs.Calls.{up_to_3, install_call, rule, played}
use Rattle.rules.specs.Checkpoints.{step_rule}
use Rattle.rules.specs.Laws.{Above, LiesBefore, Pending, EpochNeverFalls, OpensSo}
use Rattle.rules.specs.Logging.{held_epoch, advance_rule, spill_rule, least_of_workers, least_of_loggers, least_or, persistent, new_mark}
use Rattle.rules.specs.State.{Worker, Logger, Checkpoint, State, no_worker, empty_logger, worker_of, logger_at, logger_of, least, least_of}
use Rattle.rules.specs.Transactions.{Installed, begin_rule, read_rule, change_rule, lock_rule, validate_rule, install_rule, abandon_rule}
use Rattle.rules.specs.declared.call.Call.TheVariants as call
use Rattle.rules.specs.declared.call.Call.{Call}

-- no call of the medium but set-mark changes the mark
pub mark_append : (m : MediumModel) (f : ℕ) (b : List ℕ) → (append_after m f b).mark ≡ m.mark
mark_append m f b = grind arith

pub mark_sync : (m : MediumModel) (f : ℕ) → (sync_after m f).mark ≡ m.mark
mark_sync m f = grind arith

pub mark_retire : (m : MediumModel) (f n : ℕ) → (retire_after m f n).mark ≡ m.mark
mark_retire m f n = grind arith

-- a persist marks the epoch that it finds
pub new_epoch : (s : State) (n : ℕ) (k : Checkpoint) → (new_mark n s.medium k).epoch ≡ n
new_epoch s n k = grind arith

-- what holds of all and of the default holds of any item
any_item : {A : Type 0} (P : A → Type 0) (xs : List A) (i : ℕ) (d : A) → All P xs → P d → P (get_or xs i d)
any_item P xs i d h p = ⊎_elim (h i d) (λ l. rw (get_or_past xs i d l) p) (cases_lt i (length xs))

-- a call after which an epoch still lies before all that is under way
abbrev Keeps : ℕ → State → Call → Type 0
Keeps d s c = LiesBefore d s.epoch s.workers s.loggers → LiesBefore d (rule s c).state.epoch (rule s c).state.workers (rule s c).state.loggers

-- an installed worker holds no epoch, and its logger that of the commands
install_holds : (d : ℕ) (t : List Record) (g : Logger) (x : Worker) → Above d (held_epoch x) → Above d g.held × Above d g.spilled → IfOk (install_rule t g x) (λ y. (held_epoch y.new ≡ None) × Above d y.logger.held × Above d y.logger.spilled)
unfolding install_rule
install_holds d t g x a b = grind arith

installs : (d : ℕ) (s : State) (w : ℕ) (r : Result Installed Refusal) → IfOk r (λ y. (held_epoch y.new ≡ None) × Above d y.logger.held × Above d y.logger.spilled) → let t = (up_to_3 s w (install_call s w r)).state in LiesBefore d s.epoch s.workers s.loggers → LiesBefore d t.epoch t.workers t.loggers
installs d s w r a h = grind (arith, elements)

install_keeps : (d : ℕ) (s : State) (w : ℕ) → Keeps d s (call.Install w)
unfolding rule
install_keeps d s w h =
    let worker = any_item (λ x. Above d (held_epoch x)) s.workers w no_worker h.workers tt in
    let logger = any_item (λ g. Above d g.held × Above d g.spilled) s.loggers (logger_of s w) empty_logger h.loggers (tt, tt) in
    installs d s w _ (install_holds d s.table (logger_at s (logger_of s w)) (worker_of s w) worker logger) h

keeps : (d : ℕ) (s : State) (c : Call) → Keeps d s c
unfolding rule begin_rule read_rule change_rule lock_rule validate_rule abandon_rule advance_rule spill_rule step_rule
keeps d s (call.Install w) h = install_keeps d s w h
keeps d s c h = grind (arith, elements)

above_least : (d : ℕ) (o q : Option ℕ) → Above d (least o q) ↔ (Above d o × Above d q)
above_least d o q = grind arith

above_each : {A : Type 0} (d : ℕ) (epoch : A → Option ℕ) (xs : List A) → Above d (least_of epoch xs) ↔ All (λ x. Above d (epoch x)) xs
above_each {A} d epoch [] = (λ h. All-nil (λ x. Above d (epoch x)), λ h. tt)
above_each {A} d epoch (x ∷ xs) =
    let P = λ (y : A). Above d (epoch y) in
    let first = above_least d (epoch x) (least_of epoch xs) in
    let rest = above_each d epoch xs in
    (λ h. All-cons P x xs (first.0 h).0 (rest.0 (first.0 h).1), λ h. first.1 (All-head P x xs h, rest.1 (All-tail P x xs h)))

above_or : (d e : ℕ) (o : Option ℕ) → d < least_or e o ↔ (d < e × Above d o)
above_or d e o = grind arith

-- an epoch lies before all that is under way exactly if it lies before the least of it
pub before_least : (d e : ℕ) (ws : List Worker) (gs : List Logger) → LiesBefore d e ws gs ↔ d < least_or e (least (least_of_workers ws) (least_of_loggers gs))
before_least d e ws gs =
    let all = above_or d e (least (least_of_workers ws) (least_of_loggers gs)) in
    let both = above_least d (least_of_workers ws) (least_of_loggers gs) in
    let workers = above_each d held_epoch ws in
    let loggers = above_each d (λ (g : Logger). least g.held g.spilled) gs in
    let parts = λ (g : Logger). above_least d g.held g.spilled in
    let P = λ (g : Logger). Above d g.held × Above d g.spilled in
    let Q = λ (g : Logger). Above d (least g.held g.spilled) in (
      λ h. all.1 (h.current, both.1 (workers.1 h.workers, loggers.1 (All-weaker P Q (λ g. (parts g).1) gs h.loggers))),
      λ h. let l = both.0 (all.0 h).1 in record { current = (all.0 h).0; workers = workers.0 l.0; loggers = All-weaker Q P (λ g. (parts g).0) gs (loggers.0 l.1) },
    )

-- a persist finds an epoch that is no lower, and itself lies before all that is under way
pub persisted : (d e : ℕ) (ws : List Worker) (gs : List Logger) → LiesBefore d e ws gs → (d ≤ persistent e ws gs) × LiesBefore (persistent e ws gs) e ws gs
unfolding persistent
persisted d e ws gs h = let l = (before_least d e ws gs).0 h in (omega arith, (before_least _ e ws gs).1 (omega arith))

pub onward : (s : State) (c : Call) → Pending s → (s.medium.mark.epoch ≤ (rule s c).state.medium.mark.epoch) × Pending (rule s c).state
onward s call.Persist h =
    let p = persisted s.medium.mark.epoch s.epoch s.workers s.loggers h in
    rw (persist_marks s) (p.0, keeps _ s call.Persist p.1)
onward s c h = rw (same_marks s c refl) (omega arith, keeps _ s c h)

pub epoch_never_falls : EpochNeverFalls
unfolding played
epoch_never_falls s h [] = (omega arith, h)
epoch_never_falls s h (c ∷ cs) =
    let o = onward s c h in
    let r = epoch_never_falls (rule s c).state o.1 cs in
    (omega arith, r.1)

pub opens_so : OpensSo
opens_so masks m f =
    let z : m.mark.epoch ≡ 0 = ap (λ (k : Mark). k.epoch) f.mark in
    record {
      current = omega arith;
      workers = All-replicate (λ x. Above m.mark.epoch (held_epoch x)) 4 no_worker tt;
      loggers = All-replicate (λ g. Above m.mark.epoch g.held × Above m.mark.epoch g.spilled) 4 empty_logger (tt, tt);
    }
