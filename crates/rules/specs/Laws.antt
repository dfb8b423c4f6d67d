-- Laws over all rules.
use Rattle.std.specs.Prelude.{◌≡◌, ℕ, ◌<◌, ◌≤◌, Bool, true, false, List, All, Some, None, Err, Option}
use Rattle.base.specs.declared.refusal.Refusal.{Refusal}
use Rattle.medium.specs.Model.{MediumModel}
use Rattle.medium.specs.Steps.{append_after, sync_after, retire_after, set_mark_after}
use Rattle.medium.specs.declared.mark.Mark.{Mark}
use Rattle.rules.specs.declared.call.Call.{Call}
use Rattle.rules.specs.declared.call.Call.TheVariants as call
use Rattle.rules.specs.State.{Worker, Logger, State, tid_in}
use Rattle.medium.specs.Sound.{Fresh}
use Rattle.rules.specs.Logging.{held_epoch}
use Rattle.rules.specs.Calls.{rule, played, history, opened}
use Rattle.rules.specs.Serial.{Story, story_from}
use Rattle.rules.specs.Recovery.{Version, offered}
use Rattle.table.specs.Order.{sorted}
use Rattle.table.specs.Records.{look}
use Rattle.table.specs.declared.record.Record.{Record}

-- a refused call leaves everything as it was
abbrev pub RefusalsChangeNothing : Type 0
RefusalsChangeNothing = (s : State) (c : Call) (e : Refusal) → (rule s c).answer ≡ Err e → (rule s c).state ≡ s

-- a medium after one call of its own, or none
pub data Touched (m n : MediumModel) : Type 0 where
  untouched : n ≡ m → Touched m n
  appended : (file : ℕ) (block : List ℕ) → n ≡ append_after m file block → Touched m n
  synced : (file : ℕ) → n ≡ sync_after m file → Touched m n
  retired : (file number : ℕ) → n ≡ retire_after m file number → Touched m n
  marked : (mark : Mark) → n ≡ set_mark_after m mark → Touched m n

-- a call of the store changes the medium at most once
abbrev pub OneChangeAtMost : Type 0
OneChangeAtMost = (s : State) (c : Call) → Touched s.medium (rule s c).state.medium

-- one TID writes a key once
abbrev pub Compatible : Version → Version → Type 0
Compatible u v = u.key ≡ v.key → u.tid ≡ v.tid → u.cell ≡ v.cell

-- two versions may be replayed in either order
abbrev pub EitherOrder : Type 0
EitherOrder = (u v : Version) (t : List Record) → sorted t ≡ true → Compatible u v → offered u (offered v t) ≡ offered v (offered u t)

-- a version whose TID is not larger than that of its key's record changes nothing
abbrev pub OnlyLargerReplaces : Type 0
OnlyLargerReplaces = (v : Version) (t : List Record) → v.tid ≤ tid_in (look v.key t) → offered v t ≡ t

-- behind an epoch, or nothing at all
abbrev pub Above : ℕ → Option ℕ → Type 0
Above d None = Unit {0}
Above d (Some n) = d < n

-- an epoch that lies before everything that is still under way: the current epoch, what workers hold, what is not yet synced
pub record LiesBefore (d e : ℕ) (ws : List Worker) (gs : List Logger) : Type 0 where
  pub current : d < e
  pub workers : All (λ x. Above d (held_epoch x)) ws
  pub loggers : All (λ g. Above d g.held × Above d g.spilled) gs

-- the marked epoch does
abbrev pub Pending : State → Type 0
Pending s = LiesBefore s.medium.mark.epoch s.epoch s.workers s.loggers

-- from a state whose marked epoch lies before all that is under way, as a fresh one's does, the marked epoch never falls
abbrev pub EpochNeverFalls : Type 0
EpochNeverFalls = (s : State) → Pending s → (cs : List Call) → (s.medium.mark.epoch ≤ (played s cs).medium.mark.epoch) × Pending (played s cs)

-- a store opened on a fresh medium is such a state
abbrev pub OpensSo : Type 0
OpensSo = (masks : List ℕ) (m : MediumModel) → Fresh m → Pending (opened masks m)

abbrev pub is_persist : Call → Bool
is_persist call.Persist = true
is_persist _ = false

-- the last persist's answer is the marked epoch
abbrev pub MarkedAsAnswered : Type 0
MarkedAsAnswered = (s : State) (st : Story) (cs : List Call) → st.persistent ≡ s.medium.mark.epoch → (story_from st (history s cs)).persistent ≡ (played s cs).medium.mark.epoch
