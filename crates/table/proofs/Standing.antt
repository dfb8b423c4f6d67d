-- The place of a key, as a binary search leaves it.
use Rattle.std.proofs.Common.{◌≡◌, ℕ, zero, suc, ◌<◌, ◌≤◌, true, false, List, [], ◌∷◌, length, get_or, set, Some, Result, Ok, Err, sym, refl, ap, ◌∙◌, inl, inr, add-one, arith}
use Rattle.std.specs.List.{slice_get, insert, remove}
use Rattle.std.specs.List.Sorted.{IsSearchInRange, IsBinarySearchResult, IsNonDecreasingBy, IsPartitionPoint, IsPartitionedBy}
use Rattle.std.specs.Ordering.{ordering_index}
use Rattle.std.proofs.lemmas.Bool.{and_parts, cases_lt}
use Rattle.std.proofs.lemmas.Option.{slice_get-get_or}
use Rattle.base.specs.declared.key.Key.{Key}
use Rattle.table.specs.declared.record.Record.{Record}
use Rattle.table.specs.Order.{before, same_key, behind, all_behind, sorted}
use Rattle.table.specs.Records.{look, has, put, take_out, next_behind}
use Rattle.table.specs.Places.{Stands, Lacks, Placed}
use Rattle.table.proofs.Keys.{key_cmp, key_ranks, key_cmp_rises, same_key_refl, same_key_sym, before_irrefl, before_apart, before_asym, before_trans, before_other}
use Rattle.table.proofs.Looks.{sorted_head, sorted_tail, has-behind, look_missing}
use Rattle.table.proofs.Members.{nth_behind}
use Rattle.table.proofs.Shapes.{sorted-put, sorted-take_out, here_behind, first_before, take_out_missing}

behind_at : (k : Key) (rs : List Record) (i : ℕ) (d : Record) → i < length rs → all_behind k rs ≡ true → before k (get_or rs i d).key ≡ true
behind_at k rs i d lt h = nth_behind k rs i (get_or rs i d) h (slice_get-get_or rs i d lt)

-- in a sorted list each record comes before every later one
earlier_before : (rs : List Record) (i j : ℕ) (d : Record) → sorted rs ≡ true → i < j → j < length rs → before (get_or rs i d).key (get_or rs j d).key ≡ true
earlier_before [] i j d o lt h = absurd (omega arith)
earlier_before (r ∷ rs) i zero d o lt h = absurd (omega arith)
earlier_before (r ∷ rs) zero (suc j) d o lt h = behind_at r.key rs j d (omega arith) (sorted_head r rs o)
earlier_before (r ∷ rs) (suc i) (suc j) d o lt h = earlier_before rs i j d (sorted_tail r rs o) (omega arith) (omega arith)

module _ (k : Key) where
  next_in_tail : (rs : List Record) → all_behind k rs ≡ true → slice_get rs 0 ≡ next_behind (Some k) rs
  unfolding next_behind all_behind behind
  next_in_tail [] h = refl
  next_in_tail (r ∷ rs) h = let b : before k r.key ≡ true = (and_parts _ _ h).0 in simp b

  stands : (rs : List Record) (i : ℕ) → sorted rs ≡ true → i < length rs → ((d : Record) → (get_or rs i d).key ≡ k) → Stands k rs i
  unfolding has look put take_out next_behind behind
  stands [] i o lt at = absurd (omega arith)
  stands (s ∷ ss) zero o lt at =
      let y : same_key s.key k ≡ true = rw (at s) (same_key_refl k) in
      let b : before k s.key ≡ false = rw (at s) (before_irrefl k) in
      let put_is : (r : Record) → r.key ≡ k → r ∷ ss ≡ put r (s ∷ ss) = λ r e. simp (e, y) in
      let out_is : ss ≡ take_out k (s ∷ ss) = simp y in
      record {
        below = lt;
        there = simp y;
        found = λ r e. simp y (ap Some e);
        next = simp b (next_in_tail ss (here_behind k s ss (at s) o));
        replaced = put_is;
        taken = out_is;
        still_replaced = λ r e. ap sorted (put_is r e) ∙ sorted-put r (s ∷ ss) o;
        still_taken = sorted_tail s ss o;
      }
  stands (s ∷ ss) (suc i) o lt at =
      let t = stands ss i (sorted_tail s ss o) (omega arith) at in
      let b : before s.key k ≡ true = rw (← at s) (behind_at s.key ss i s (omega arith) (sorted_head s ss o)) in
      let n : same_key s.key k ≡ false = before_apart s.key k b in
      let a : before k s.key ≡ false = before_asym s.key k b in
      let put_is : (r : Record) → r.key ≡ k → set (s ∷ ss) (suc i) r ≡ put r (s ∷ ss) = λ r e. simp (e, n, a) (ap (λ (x : List Record). s ∷ x) (t.replaced r e)) in
      let out_is : remove (s ∷ ss) (suc i) ≡ take_out k (s ∷ ss) = simp n (ap (λ (x : List Record). s ∷ x) t.taken) in
      record {
        below = lt;
        there = simp n t.there;
        found = λ r e. simp n (t.found r e);
        next = simp (a, add-one) (simp add-one at t.next);
        replaced = put_is;
        taken = out_is;
        still_replaced = λ r e. ap sorted (put_is r e) ∙ sorted-put r (s ∷ ss) o;
        still_taken = ap sorted out_is ∙ sorted-take_out k (s ∷ ss) o;
      }

  -- a place that has all before k on its left and all behind k on its right
  abbrev IsGap : List Record → ℕ → Type 0
  IsGap rs i = IsPartitionPoint (λ (x : Record). before x.key k ≡ true) (λ (x : Record). before k x.key ≡ true) rs i

  gap : (rs : List Record) (i : ℕ) → sorted rs ≡ true → i ≤ length rs → has k rs ≡ false → slice_get rs i ≡ next_behind (Some k) rs → ((r : Record) → r.key ≡ k → insert rs i r ≡ put r rs) → Lacks k rs i
  gap rs i o le none next put_is =
      record {
        upto = le;
        absent = none;
        missing = sym (look_missing k rs none);
        next = next;
        added = put_is;
        same = sym (take_out_missing k rs none);
        still_added = λ r e. ap sorted (put_is r e) ∙ sorted-put r rs o;
      }

  lacks : (rs : List Record) (i : ℕ) → sorted rs ≡ true → i ≤ length rs → IsGap rs i → Lacks k rs i
  unfolding has look put take_out next_behind behind
  lacks [] zero o le parted = gap [] 0 o le refl refl (λ r e. refl)
  lacks [] (suc i) o le parted = absurd (omega arith)
  lacks (s ∷ ss) zero o le parted =
      let b = parted.1 0 s (omega arith) (omega arith) in
      let h = first_before k s ss b o in
      let n = same_key_sym s.key k ∙ before_apart k s.key b in
      gap (s ∷ ss) 0 o le (has-behind k (s ∷ ss) h) (next_in_tail (s ∷ ss) h) (λ r e. simp (e, n, b))
  lacks (s ∷ ss) (suc i) o le parted =
      let tail : IsGap ss i = (λ j d l u. parted.0 (suc j) d (omega arith) (omega arith), λ j d l u. parted.1 (suc j) d (omega arith) (omega arith)) in
      let t = lacks ss i (sorted_tail s ss o) (omega arith) tail in
      let b = parted.0 0 s (omega arith) (omega arith) in
      let n = before_apart s.key k b in
      let a = before_asym s.key k b in
      gap (s ∷ ss) (suc i) o le (simp n t.absent) (simp a t.next) (λ r e. simp (e, n, a) (ap (λ (x : List Record). s ∷ x) (t.added r e)))

  -- the answers of the search rise along a sorted list
  rises : (rs : List Record) → sorted rs ≡ true → IsNonDecreasingBy (λ (x : Record). ordering_index (key_cmp x.key k)) rs
  rises rs o i j d le lt =
      elim (cases_lt i j) [
        | inl l ↦ key_cmp_rises (get_or rs i d).key (get_or rs j d).key k (earlier_before rs i j d o l lt)
        | inr l ↦ let same : i ≡ j = omega arith in rw same (omega arith)
      ]

  pub searched : (rs : List Record) (r : Result ℕ ℕ) → sorted rs ≡ true → IsSearchInRange r (length rs) → IsBinarySearchResult (λ (x : Record). key_cmp x.key k) rs r → Placed k rs r
  searched rs (Ok i) o lt at = stands rs i o lt (λ d. key_ranks _ _ _ (sym (at d)))
  searched rs (Err i) o le parted =
      let split = parted (rises rs o) in
      lacks rs i o le (λ j d l u. key_ranks _ _ _ (sym (split.0 j d l u)), λ j d l u. key_ranks _ _ _ (sym (split.1 j d l u)))

  -- no key that comes before k stands behind one that does not
  pub parts : (rs : List Record) → sorted rs ≡ true → IsPartitionedBy (λ (x : Record). before x.key k) rs
  parts rs o i j d le lt h =
      elim (cases_lt i j) [
        | inl l ↦ before_trans (get_or rs i d).key (get_or rs j d).key k (earlier_before rs i j d o l lt) h
        | inr l ↦ let same : i ≡ j = omega arith in rw same h
      ]

  -- where a search for less ends: at the record of the key, or where no such record stands
  pub cut_stands : (rs : List Record) (i : ℕ) (r : Record) → sorted rs ≡ true → i < length rs → ((d : Record) → r ≡ get_or rs i d) → r.key ≡ k → Stands k rs i
  cut_stands rs i r o lt at e = stands rs i o lt (λ d. sym (ap (λ (x : Record). x.key) (at d)) ∙ e)

  pub cut_lacks : (rs : List Record) (i : ℕ) → sorted rs ≡ true → i ≤ length rs → IsPartitionPoint (λ (x : Record). before x.key k ≡ true) (λ (x : Record). before x.key k ≡ false) rs i → (i < length rs → (d : Record) → same_key (get_or rs i d).key k ≡ false) → Lacks k rs i
  cut_lacks rs i o le parted other =
      lacks rs i o le (
        parted.0,
        λ j d l u.
            let first = before_other (get_or rs i d).key k (parted.1 i d (omega arith) (omega arith)) (other (omega arith) d) in
            elim (cases_lt i j) [
              | inl b ↦ before_trans k (get_or rs i d).key (get_or rs j d).key first (earlier_before rs i j d o b u)
              | inr b ↦ let same : i ≡ j = omega arith in rw same at first
            ],
      )
