-- The last persist's answer is the marked epoch.
use Rattle.std.proofs.Common.{◌≡◌, false, [], ◌∷◌, sym, refl, arith}
use Rattle.rules.specs.declared.call.Call.{Call}
use Rattle.rules.specs.declared.call.Call.TheVariants as call
use Rattle.rules.specs.State.{State}
use Rattle.rules.specs.Calls.{Answer, rule, played, history}
use Rattle.rules.specs.Laws.{is_persist, MarkedAsAnswered}
use Rattle.rules.specs.Serial.{Story, told_by, story_from}
use Rattle.rules.proofs.Refusing.{persist_marks, same_marks}

-- only a persist tells of the persistent epoch
quiet : (st : Story) (c : Call) (a : Answer) → is_persist c ≡ false → (told_by st c a).persistent ≡ st.persistent
quiet st c a h = grind arith

one_call : (s : State) (st : Story) (c : Call) → st.persistent ≡ s.medium.mark.epoch → (told_by st c (rule s c).answer).persistent ≡ (rule s c).state.medium.mark.epoch
unfolding rule
one_call s st call.Persist e = sym (persist_marks s)
one_call s st c e = cc (quiet st c (rule s c).answer refl, same_marks s c refl)

pub marked_as_answered : MarkedAsAnswered
unfolding played history story_from
marked_as_answered s st [] e = e
marked_as_answered s st (c ∷ cs) e = marked_as_answered (rule s c).state (told_by st c (rule s c).answer) cs (one_call s st c e)
