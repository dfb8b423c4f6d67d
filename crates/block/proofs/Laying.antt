-- What a draft holds after some bytes more.
use Rattle.std.proofs.Common.{◌≡◌, ℕ, zero, suc, ◌+◌, ◌-◌, ◌/◌, ◌%◌, ◌^◌, ◌≤◌, List, ◌∷◌, ◌++◌, length, take, drop, replicate, refl, sym, ap, ◌∙◌, append_assoc, arith, length-append, length-drop, rules}
use Rattle.std.specs.Int.{byte_at, bytes_high_first}
use borrow.Rule.Slice.PartMut.{put_mid}
use lib.ListN.{length-replicate}
use Rattle.base.specs.Bytes.{be}
use Rattle.block.specs.Fletcher.{fletcher16}
use Rattle.std.proofs.lemmas.List.{places, drop-drop, drop-take, drop-replicate, drop-append-le, length-take-le, replicate-append-replicate, take-append-drop, take_at, drop_at, append-nil}
use Rattle.block.specs.Format.{header, summed, sealed}
use Rattle.std.proofs.lemmas.Slice.{drop-put_mid, take-put_mid}

-- a draft has as many bytes as it says
pub length-written : (xs : List ℕ) (used : ℕ) → length xs ≡ 512 → used ≤ 502 → length (take used (drop 8 xs)) ≡ used
length-written xs used whole room = length-take-le used (drop 8 xs) (simp length-drop (omega arith))

module _ (xs ys part : List ℕ) (used k n : ℕ) (whole : length xs ≡ 512) (size : length part ≡ n) (more : used + n ≤ 502) (is : ys ≡ part) (span : k ≡ n) where
  abbrev pub new : List ℕ
  new = put_mid (8 + used) k xs ys

  pub laid_whole : length new ≡ 512
  laid_whole = let l : length ys ≡ n = ap length is ∙ size in search (rules, places)

  pub laid_clear : drop (8 + used) xs ≡ replicate (504 - used) 0 → drop (8 + (used + n)) new ≡ replicate (504 - (used + n)) 0
  laid_clear clear =
      let l : length ys ≡ n = ap length is ∙ size in
      let at : 8 + (used + n) ≡ 8 + used + n = omega arith in
      let less : 504 - used - n ≡ 504 - (used + n) = omega arith in
      drop-put_mid (8 + used) k xs ys (8 + (used + n)) (omega arith) (omega arith) (omega arith)
      ∙ ap (λ j. drop j xs) at ∙ sym (drop-drop n (8 + used) xs) ∙ ap (drop n) clear ∙ drop-replicate n (504 - used) 0 ∙ ap (λ j. replicate j 0) less

  pub laid_bytes : take (used + n) (drop 8 new) ≡ take used (drop 8 xs) ++ part
  laid_bytes =
      let l : length ys ≡ n = ap length is ∙ size in
      let long : 8 ≤ length (take (8 + used) xs) = let t = length-take-le (8 + used) xs (omega arith) in omega arith in
      sym (drop-take 8 (used + n) new) ∙ ap (drop 8) (take-put_mid (8 + used) k xs ys (8 + (used + n)) (omega arith) (omega arith))
      ∙ drop-append-le 8 (take (8 + used) xs) ys long ∙ (λ i. drop-take 8 used xs i ++ is i)

-- two parts one after the other, of which the second is laid down as p
pub joins : (w a b : List ℕ) {v u p : List ℕ} → v ≡ w ++ a → u ≡ v ++ p → p ≡ b → u ≡ w ++ (a ++ b)
joins w a b {v} {u} {p} d e h = e ∙ (λ i. d i ++ h i) ∙ append_assoc w a b

same_top : (k n : ℕ) → byte_at k n ≡ n / 256 ^ k % 256
same_top zero n = omega arith
same_top (suc k) n = refl

-- the bytes that `to_be_bytes` gives
pub be_same : (k n : ℕ) → bytes_high_first k n ≡ be k n
be_same zero n = refl
be_same (suc k) n = λ i. same_top k n i ∷ be_same k n i

zeros_split : (used : ℕ) → used ≤ 502 → replicate {A = ℕ} (504 - used) 0 ≡ replicate (502 - used) 0 ++ replicate 2 0
zeros_split used h = let e : 504 - used ≡ 502 - used + 2 = omega arith in ap (λ n. replicate n 0) e ∙ sym (replicate-append-replicate (502 - used) 2 0)

pub length-summed : (file number : ℕ) (cs : List ℕ) → length cs ≤ 502 → length (summed file number cs) ≡ 510
length-summed file number cs h =
    let a = length-append cs (replicate (502 - length cs) 0) in
    let r : length (replicate {A = ℕ} (502 - length cs) 0) ≡ 502 - length cs = length-replicate (502 - length cs) 0 in
    omega arith

-- a sealed draft is the block of its command bytes
module _ (xs : List ℕ) (used file number : ℕ) (whole : length xs ≡ 512) (room : used ≤ 502) (clear : drop (8 + used) xs ≡ replicate (504 - used) 0) where
  abbrev w : List ℕ
  w = take used (drop 8 xs)

  long : length w ≡ used
  long = length-written xs used whole room

  -- the commands, the padding, and the place of the sum
  behind : drop 8 xs ≡ w ++ (replicate (502 - length w) 0 ++ replicate 2 0)
  behind =
      sym (take-append-drop used (drop 8 xs))
      ∙ ap (λ l. w ++ l) (drop-drop used 8 xs ∙ clear ∙ zeros_split used room ∙ ap (λ n. replicate (502 - n) 0 ++ replicate 2 0) (sym long))

  pub headed : (hs : List ℕ) → hs ≡ header file used number → hs ++ drop 8 xs ≡ summed file number w ++ replicate 2 0
  headed hs e =
      let h = header file (length w) number in
      let z = replicate (502 - length w) 0 in
      let same : hs ≡ h = e ∙ ap (λ n. header file n number) (sym long) in
      (λ i. same i ++ behind i) ∙ ap (λ l. h ++ l) (sym (append_assoc w z (replicate 2 0))) ∙ sym (append_assoc h (w ++ z) (replicate 2 0))

  pub sealed_from : (block part : List ℕ) (sum : ℕ) → block ≡ summed file number w ++ replicate 2 0 → sum ≡ fletcher16 (take 510 block) → part ≡ be 2 sum → put_mid 510 2 block part ≡ sealed file number w
  unfolding sealed
  sealed_from block part sum is summing bytes =
      let front = summed file number w in
      let length_front = length-summed file number w (omega (arith, long)) in
      let t : take 510 block ≡ front = ap (take 510) is ∙ take_at front (replicate 2 0) 510 length_front in
      let d : drop 510 block ≡ replicate 2 0 = ap (drop 510) is ∙ drop_at front (replicate 2 0) 510 length_front in
      let b : part ≡ be 2 (fletcher16 front) = bytes ∙ ap (λ n. be 2 n) (summing ∙ ap fletcher16 t) in
      (λ i. t i ++ (b i ++ drop 2 (d i))) ∙ ap (λ l. front ++ l) (append-nil (be 2 (fletcher16 front)))
