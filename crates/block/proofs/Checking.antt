-- What each check of a block finds.
use Rattle.std.proofs.Common.{◌≡◌, ℕ, ◌+◌, ◌<◌, ◌≤◌, Bool, true, false, cond, not, eqb, ltb, List, [], ◌∷◌, refl, length, get_or, take, drop, Some, None, Ok, Err, Option, Result, ap, ◌∙◌, arith}
use Rattle.std.specs.Option.{option_map}
use Rattle.std.specs.List.{position_from, position_or_len}
use Rattle.std.proofs.lemmas.Iterator.Adapters.{position_from-zero}
use Rattle.std.proofs.lemmas.Bool.Decides.{nat_tests}
use Rattle.base.specs.declared.refusal.Refusal.{Refusal}
use Rattle.base.specs.declared.refusal.Refusal.TheVariants.{NoSuchIndex}
use Rattle.block.specs.Checks.{nonzero}

-- the first byte that is not zero, by its place among the bytes
nonzero_place : (at i : ℕ) (bs : List ℕ) → option_map (λ k. at + k) (position_from (λ b. not (eqb b 0)) i bs) ≡ nonzero (at + i) bs
nonzero_place at i [] = refl
nonzero_place at i (b ∷ bs) =
    let on : at + (i + 1) ≡ at + i + 1 = omega arith in
    by (eqb b 0) (nonzero_place at (i + 1) bs ∙ ap (λ n. nonzero n bs) on)
  where
    by : (t : Bool) → option_map (λ k. at + k) (position_from (λ b. not (eqb b 0)) (i + 1) bs) ≡ nonzero (at + i + 1) bs → option_map (λ k. at + k) (cond (not t) (Some i) (position_from (λ b. not (eqb b 0)) (i + 1) bs)) ≡ cond t (nonzero (at + i + 1) bs) (Some (at + i))
    by true h = h
    by false h = refl

pub nonzero_from : (at : ℕ) (bs : List ℕ) (r : Option ℕ) → r ≡ cond (ltb (position_or_len (λ b. not (eqb b 0)) bs) (length bs)) (Some (position_or_len (λ b. not (eqb b 0)) bs)) None → option_map (λ k. at + k) r ≡ nonzero at bs
nonzero_from at bs r is =
    let none : at + 0 ≡ at = omega arith in
    ap (option_map (λ k. at + k)) (is ∙ position_from-zero (λ b. not (eqb b 0)) bs) ∙ nonzero_place at 0 bs ∙ ap (λ n. nonzero n bs) none

-- a file that is refused or not by its number
pub listed_file : (file : ℕ) → ◌≡◌ {A = Result (Unit {0}) Refusal} (Ok tt) (cond (ltb 7 file) (Err NoSuchIndex) (Ok tt)) → file ≤ 7
listed_file file h = grind (arith, nat_tests)
