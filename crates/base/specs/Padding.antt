-- A padded text gives its text back.
use Rattle.std.specs.Prelude.{◌≡◌, ℕ, zero, suc, ◌-◌, ◌≤◌, true, false, not, List, [], ◌∷◌, ◌++◌, length, take, replicate, Ok, ◌≢◌, refl, ◌==◌}
use Rattle.std.proofs.Common.{sym, ap, ◌∙◌, arith, length-append}
use Rattle.std.proofs.lemmas.Bool.{and_parts, and_from, leb-true, le-leb}
use Rattle.std.proofs.lemmas.List.{take_at, length-replicate}
use Rattle.std.proofs.lemmas.Bool.Decides.{nat_tests}
use Rattle.base.specs.Bytes.{Bytes}
use Rattle.base.specs.Codes.{no_zero, before_zero, group_text, padded, group_code}
use Rattle.base.specs.Groups.{named}
use Rattle.base.specs.Spelling.{same_bytes}

zeros_first : (m y : ℕ) (ys : List ℕ) (n : ℕ) → no_zero (y ∷ ys) ≡ true → replicate m 0 ≢ (y ∷ ys) ++ replicate n 0
zeros_first zero y ys n h e = let z : ◌≡◌ {A = ℕ} 0 1 = cc in omega arith
zeros_first (suc m) y ys n h e = let z : y ≡ 0 = cc in grind (arith, nat_tests)

-- texts without a zero that differ stay different behind any zeros
unpad : (xs ys : List ℕ) (m n : ℕ) → no_zero xs ≡ true → no_zero ys ≡ true → xs ++ replicate m 0 ≡ ys ++ replicate n 0 → xs ≡ ys
unpad [] [] m n h k e = refl
unpad [] (y ∷ ys) m n h k e = absurd (zeros_first m y ys n k e)
unpad (x ∷ xs) [] m n h k e = absurd (zeros_first n x xs m h (sym e))
unpad (x ∷ xs) (y ∷ ys) m n h k e =
    let here : x ≡ y = cc in
    let rest : xs ++ replicate m 0 ≡ ys ++ replicate n 0 = cc in
    λ i. here i ∷ unpad xs ys m n (and_parts _ _ h).1 (and_parts _ _ k).1 rest i

pub short_text : (xs : List ℕ) → group_text xs ≡ true → length xs ≤ 16
short_text xs h = leb-true (length xs) 16 (and_parts _ _ (and_parts _ _ h).0).1

length-padded : (xs : List ℕ) → group_text xs ≡ true → length (padded xs) ≡ 16
length-padded xs h =
    let l = length-append xs (replicate (16 - length xs) 0) in
    let r : length (replicate {A = ℕ} (16 - length xs) 0) ≡ 16 - length xs = length-replicate (16 - length xs) 0 in
    let b = short_text xs h in
    omega arith

-- groups with one code have one text
pub same_text : (xs ys bs cs : List ℕ) → group_text xs ≡ true → group_text ys ≡ true → padded xs ≡ bs → padded ys ≡ cs → Bytes bs → Bytes cs → group_code xs ≡ group_code ys → xs ≡ ys
same_text xs ys bs cs h k p q small small' e =
    let small-x : Bytes (padded xs) = rw p small in
    let small-y : Bytes (padded ys) = rw q small' in
    unpad xs ys (16 - length xs) (16 - length ys) (and_parts _ _ h).1 (and_parts _ _ k).1
    (same_bytes 16 (padded xs) (padded ys) (length-padded xs h) (length-padded ys k) small-x small-y e)

-- a padded text ends at the first zero
pub text_back : (xs : List ℕ) (n : ℕ) → no_zero xs ≡ true → before_zero (xs ++ replicate n 0) ≡ xs
text_back [] zero h = refl
text_back [] (suc n) h = refl
text_back (x ∷ xs) n h =
    let z : (x == 0) ≡ false = grind (arith, nat_tests) in
    rw z (ap (λ t. x ∷ t) (text_back xs n (and_parts _ _ h).1))

pub text_from : (xs : List ℕ) → 1 ≤ length xs → length xs ≤ 16 → false ≡ not (no_zero xs) → group_text xs ≡ true
text_from xs low high h =
    let z : no_zero xs ≡ true = grind (arith, nat_tests) in
    and_from _ _ (and_from _ _ (le-leb 1 (length xs) low) (le-leb (length xs) 16 high)) z

pub front_padded : (xs bs : List ℕ) → bs ≡ padded xs → take (length xs) bs ≡ xs
front_padded xs bs e = ap (take (length xs)) e ∙ take_at xs (replicate (16 - length xs) 0) (length xs) refl

pub named_from : (xs : List ℕ) → group_text xs ≡ true → Ok xs ≡ named xs
named_from xs h = rw h refl
