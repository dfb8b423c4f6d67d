use Rattle.std.proofs.Common.{◌≡◌, ℕ, not, eqb, List, [], ◌∷◌, refl, arith}
use Rattle.std.specs.List.{list_any}
use Rattle.std.proofs.lemmas.Bool.Decides.{nat_tests}
use Rattle.base.specs.Codes.{no_zero}
use Rattle.base.proofs.group.naming.is_name.Goals as goal

no_zero-any : (xs : List ℕ) → not (list_any (λ y. eqb y 0) xs) ≡ no_zero xs
no_zero-any [] = refl
no_zero-any (x ∷ xs) = let rest = no_zero-any xs in grind (arith, nat_tests)

pub returns-then-short : goal.returns-then-short
returns-then-short c = let e = no_zero-any c.args.text.now in let v = c.contains.ensures.value in let full = c.if-not-is_empty.branch in let few = c.if-short.true in grind (arith, nat_tests)
