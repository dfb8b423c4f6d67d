-- Numbers and the bytes that spell them: each gives the other back.
use Rattle.std.specs.Prelude.{◌≡◌, ℕ, zero, suc, ◌+◌, ◌*◌, ◌/◌, ◌%◌, ◌^◌, ◌<◌, ◌≤◌, List, [], ◌∷◌, ◌++◌, length, take, drop, ◌≢◌, slice_index, slice_index_or, refl}
use Rattle.std.proofs.Common.{append_assoc, sym, ap, ◌∙◌, mod-eq_of_lt, mod-lt, mul-le-mul_right, suc-mul, arith, length-append, length-drop, ⊎_elim}
use Rattle.std.proofs.Math.Nat.{mod-one}
use Rattle.std.proofs.Math.Arith.{mod-mul}
use Rattle.std.proofs.lemmas.List.{get_or_at, get_or-drop, length-take-le, nil_from_length, append-nil}
use Rattle.std.proofs.lemmas.Bool.{cases_lt}
use Rattle.base.specs.Bytes.{be, be_at, Bytes}

pos_pow : (k : ℕ) → 0 < 256 ^ k
pos_pow zero = omega arith
pos_pow (suc k) = let p = pos_pow k in omega arith

pub length-be : (k n : ℕ) → length (be k n) ≡ k
length-be zero n = refl
length-be (suc k) n = ap suc (length-be k n)

pub be_small : (k n : ℕ) → Bytes (be k n)
be_small zero n i = omega arith
be_small (suc k) n zero = mod-lt (n / 256 ^ k) (omega arith)
be_small (suc k) n (suc i) = be_small k n i

read_mod : (k n : ℕ) (before after : List ℕ) → be_at k (length before) (before ++ (be k n ++ after)) ≡ n % 256 ^ k
read_mod zero n before after = sym (mod-one n)
read_mod (suc k) n before after =
    let x = n / 256 ^ k % 256 in
    let here : slice_index_or (before ++ (x ∷ (be k n ++ after))) (length before) 0 ≡ x = get_or_at before x (be k n ++ after) 0 (length before) refl in
    let long : length (before ++ (x ∷ [])) ≡ length before + 1 = length-append before (x ∷ []) in
    let rest : be_at k (length before + 1) (before ++ (x ∷ (be k n ++ after))) ≡ n % 256 ^ k =
    (λ i. be_at k (sym long i) (sym (append_assoc before (x ∷ []) (be k n ++ after)) i)) ∙ read_mod k n (before ++ (x ∷ [])) after in
    let step : 256 * 256 ^ k ≡ 256 ^ suc k = omega arith in
    (λ i. here i * 256 ^ k + rest i) ∙ sym (mod-mul n {m = 256} {c = 256 ^ k} (omega arith) (pos_pow k)) ∙ ap (λ m. n % m) step

-- what is written is read back, among other bytes
pub reads_back : (k n : ℕ) (before after : List ℕ) → n < 256 ^ k → be_at k (length before) (before ++ (be k n ++ after)) ≡ n
reads_back k n before after lt = read_mod k n before after ∙ mod-eq_of_lt lt

-- one byte further
pub be_at-cons : (k i b : ℕ) (bs : List ℕ) → be_at k (suc i) (b ∷ bs) ≡ be_at k i bs
be_at-cons zero i b bs = refl
be_at-cons (suc k) i b bs = let h = be_at-cons k (i + 1) b bs in let e : suc i + 1 ≡ suc (i + 1) = omega arith in (λ t. slice_index bs i * 256 ^ k + (ap (λ j. be_at k j (b ∷ bs)) e ∙ h) t)

pub be_at-drop : (k i : ℕ) (bs : List ℕ) → be_at k i bs ≡ be_at k 0 (drop i bs)
be_at-drop k zero bs = refl
be_at-drop k (suc i) [] = past k (suc i)
  where
    past : (k i : ℕ) → be_at k i [] ≡ be_at k 0 []
    past zero i = refl
    past (suc k) i = ap (λ r. 0 * 256 ^ k + r) (past k (i + 1) ∙ sym (past k (0 + 1)))
be_at-drop k (suc i) (b ∷ bs) = be_at-cons k i b bs ∙ be_at-drop k i bs

-- a digit in front of what is below the base power
low_digit : (p x r : ℕ) → x < 256 → r < p → x * p + r < 256 * p
low_digit p x r h l = let step = mul-le-mul_right {m = suc x} {n = 256} p h in omega (arith, suc-mul x p)

less_digit : (p x y r s : ℕ) → r < p → x < y → x * p + r ≢ y * p + s
less_digit p x y r s l h e = let step = mul-le-mul_right {m = suc x} {n = y} p h in omega (arith, suc-mul x p)

same_digit : (p x y r s : ℕ) → r < p → s < p → x * p + r ≡ y * p + s → x ≡ y
same_digit p x y r s l m e =
    ⊎_elim (λ h. absurd (less_digit p x y r s l h e))
    (λ h. ⊎_elim (λ g. absurd (less_digit p y x s r m g (sym e))) (λ g. omega arith) (cases_lt y x))
    (cases_lt x y)

pub be_at_lt : (k i : ℕ) (bs : List ℕ) → Bytes bs → be_at k i bs < 256 ^ k
be_at_lt zero i bs small = omega arith
be_at_lt (suc k) i bs small =
    let r = be_at_lt k (i + 1) bs small in
    let top = low_digit (256 ^ k) (slice_index bs i) (be_at k (i + 1) bs) (small i) r in
    omega arith

-- bytes that spell the same number are the same
pub same_bytes : (k : ℕ) (xs ys : List ℕ) → length xs ≡ k → length ys ≡ k → Bytes xs → Bytes ys → be_at k 0 xs ≡ be_at k 0 ys → xs ≡ ys
same_bytes zero xs ys a b small small' e = nil_from_length xs a ∙ sym (nil_from_length ys b)
same_bytes (suc k) [] ys a b small small' e = absurd (let z : ◌≡◌ {A = ℕ} 0 1 = omega arith in omega arith)
same_bytes (suc k) (x ∷ xs) [] a b small small' e = absurd (let z : ◌≡◌ {A = ℕ} 0 1 = omega arith in omega arith)
same_bytes (suc k) (x ∷ xs) (y ∷ ys) a b small small' e =
    let r = be_at_lt k 1 (x ∷ xs) small in
    let s = be_at_lt k 1 (y ∷ ys) small' in
    let here : x ≡ y = same_digit (256 ^ k) x y (be_at k 1 (x ∷ xs)) (be_at k 1 (y ∷ ys)) r s e in
    let same : x * 256 ^ k ≡ y * 256 ^ k = ap (λ d. d * 256 ^ k) here in
    let rest : be_at k 0 xs ≡ be_at k 0 ys = sym (be_at-cons k 0 x xs) ∙ (let q : be_at k 1 (x ∷ xs) ≡ be_at k 1 (y ∷ ys) = omega arith in q) ∙ be_at-cons k 0 y ys in
    λ i. here i ∷ same_bytes k xs ys (omega arith) (omega arith) (λ j. small (suc j)) (λ j. small' (suc j)) rest i

pub take_small : (k : ℕ) (bs : List ℕ) → Bytes bs → Bytes (take k bs)
take_small zero bs small i = omega arith
take_small (suc k) [] small i = omega arith
take_small (suc k) (b ∷ bs) small zero = small 0
take_small (suc k) (b ∷ bs) small (suc i) = take_small k bs (λ j. small (suc j)) i

pub drop_small : (k : ℕ) (bs : List ℕ) → Bytes bs → Bytes (drop k bs)
drop_small k bs small i = rw get_or-drop (small (k + i))

-- only what stands in the first k bytes matters
take_at_0 : (k : ℕ) (bs : List ℕ) → k ≤ length bs → be_at k 0 (take k bs) ≡ be_at k 0 bs
take_at_0 zero bs h = refl
take_at_0 (suc k) [] h = refl
take_at_0 (suc k) (b ∷ bs) h =
    let rest : be_at k 1 (b ∷ take k bs) ≡ be_at k 1 (b ∷ bs) = be_at-cons k 0 b (take k bs) ∙ take_at_0 k bs (omega arith) ∙ sym (be_at-cons k 0 b bs) in
    ap (λ r. b * 256 ^ k + r) rest

-- a number read from bytes is written as these bytes
pub writes_back : (k i : ℕ) (bs : List ℕ) → Bytes bs → i + k ≤ length bs → be k (be_at k i bs) ≡ take k (drop i bs)
writes_back k i bs small within =
    let n = be_at k i bs in
    let part = drop i bs in
    let long : k ≤ length part = simp length-drop (omega arith) in
    let value : be_at k 0 (be k n) ≡ n = ap (be_at k 0) (sym (append-nil (be k n))) ∙ reads_back k n [] [] (be_at_lt k i bs small) in
    same_bytes k (be k n) (take k part) (length-be k n) (length-take-le k part long) (be_small k n) (take_small k part (drop_small i bs small))
    (value ∙ be_at-drop k i bs ∙ sym (take_at_0 k part long))
