-- A night: a list of calls on a store opened on a fresh medium, and where the power failed. Words of the survival
-- theorem, which is still to be shown.
use Rattle.std.specs.Prelude.{◌≡◌, ℕ, true, cond, List, [], ◌∷◌, ◌++◌, Some, None, Ok, Err, Option, Result, nat_lt}
use Rattle.base.specs.Faults.{ReplayFault}
use Rattle.medium.specs.Cuts.{Cut}
use Rattle.medium.specs.Model.{MediumModel}
use Rattle.medium.specs.Sound.{Sound, Fresh}
use Rattle.rules.specs.declared.call.Call.{Call}
use Rattle.rules.specs.declared.call.Event.{Event}
use Rattle.rules.specs.Calls.{masks_fit, opened, played, history}
use Rattle.rules.specs.Recovery.{Recovery, Replayed, replay_rule}
use Rattle.rules.specs.Serial.{Txn, story_from, before_all, serial}

pub record Night : Type 0 where
  pub masks : List ℕ
  pub medium : MediumModel
  pub calls : List Call
  -- a call that the cut kept from answering, after its one change of the medium, if there is one;
  -- a cut before that change is a cut between two calls
  pub cut_short : Option Call
  pub opens : masks_fit masks ≡ true
  pub sound : Sound medium
  pub fresh : Fresh medium

-- all calls that reached the medium
abbrev pub reached : Night → List Call
reached n = elim n.cut_short [ Some c ↦ n.calls ++ (c ∷ []) | None ↦ n.calls ]

abbrev pub lived : Night → List Event
lived n = history (opened n.masks n.medium) n.calls

-- what a cut may leave
abbrev pub Leaves : Night → MediumModel → Type 0
Leaves n m = Cut (played (opened n.masks n.medium) (reached n)).medium m

-- the epoch that the rules give: the last persist's answer, also of one that was cut short
abbrev pub last_persisted : Night → ℕ
last_persisted n = (story_from before_all (history (opened n.masks n.medium) (reached n))).persistent

-- the serial run: transactions whose install was answered, through that epoch
abbrev pub run : Night → List Txn
run n = serial (last_persisted n) (story_from before_all (lived n)).line

-- files are replayed in any order; a file with no block left, and no file at all, is refused and changes nothing
abbrev pub replayed_with : Recovery → Result Replayed ReplayFault → Recovery
replayed_with r (Ok x) = x.new
replayed_with r (Err e) = r

unfoldable pub replays : MediumModel → Recovery → List ℕ → Recovery
replays m r [] = r
replays m r (f ∷ fs) = replays m (cond (nat_lt 7 f) r (replayed_with r (replay_rule m r f))) fs
