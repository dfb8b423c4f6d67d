-- A group by its text.
use Rattle.std.specs.Prelude.{ℕ, cond, List, Ok, Err, Result}
use Rattle.base.specs.Codes.{before_zero, group_text}
use Rattle.base.specs.declared.group.Group.{Group}
use Rattle.base.specs.declared.refusal.Refusal.{Refusal}
use Rattle.base.specs.declared.refusal.Refusal.TheVariants.{BadGroupText}

abbrev pub text_of : Group → List ℕ
text_of g = before_zero g.bytes

-- an answer, by the text of its group
abbrev pub texts : Result Group Refusal → Result (List ℕ) Refusal
texts (Ok g) = Ok (text_of g)
texts (Err e) = Err e

-- a text is taken exactly if it may name a group
abbrev pub named : List ℕ → Result (List ℕ) Refusal
named bs = cond (group_text bs) (Ok bs) (Err BadGroupText)
