-- The order and the length of a list of records after a change, and when two lists are equal.
use Rattle.std.proofs.Common.{◌≡◌, ◌+◌, true, false, List, [], ◌∷◌, length, Some, sym, refl, ap, ◌∙◌, arith}
use Rattle.std.proofs.lemmas.Bool.{and_from, false≢true}
use Rattle.std.proofs.lemmas.Grind.{common_steps}
use Rattle.base.specs.declared.key.Key.{Key}
use Rattle.table.specs.declared.record.Record.{Record}
use Rattle.table.specs.Order.{before, all_behind, sorted}
use Rattle.table.specs.Records.{look, has, put, take_out}
use Rattle.table.proofs.Keys.{same_key_refl, same_key_true, before_other, ahead, here, past, ways}
use Rattle.table.proofs.Looks.{sorted_head, sorted_tail, all_behind-before, look-behind, has-behind}

pub sorted-nil : sorted [] ≡ true
sorted-nil = refl

pub sorted-cons : (r : Record) (rs : List Record) → all_behind r.key rs ≡ true → sorted rs ≡ true → sorted (r ∷ rs) ≡ true
sorted-cons r rs h t = and_from _ _ h t

pub behind-nil : (k : Key) → all_behind k [] ≡ true
unfolding all_behind
behind-nil k = refl

-- a key before the first of a sorted list is before all
pub rest_behind : (k : Key) (r : Record) (rs : List Record) → before k r.key ≡ true → sorted (r ∷ rs) ≡ true → all_behind k rs ≡ true
rest_behind k r rs b h = all_behind-before k r.key rs b (sorted_head r rs h)

pub first_before : (k : Key) (r : Record) (rs : List Record) → before k r.key ≡ true → sorted (r ∷ rs) ≡ true → all_behind k (r ∷ rs) ≡ true
unfolding all_behind
first_before k r rs b h = and_from _ _ b (rest_behind k r rs b h)

-- the tail of a sorted list is behind the first's key
pub here_behind : (k : Key) (r : Record) (rs : List Record) → r.key ≡ k → sorted (r ∷ rs) ≡ true → all_behind k rs ≡ true
here_behind k r rs e h = rw (← e) (sorted_head r rs h)

all_behind-put : (k : Key) (r : Record) (rs : List Record) → before k r.key ≡ true → all_behind k rs ≡ true → all_behind k (put r rs) ≡ true
unfolding put all_behind
all_behind-put k r [] b h = simp b
all_behind-put k r (s ∷ ss) b h = grind (arith, common_steps, all_behind-put k r ss b)

pub sorted-put : (r : Record) (rs : List Record) → sorted rs ≡ true → sorted (put r rs) ≡ true
unfolding put all_behind
sorted-put r [] h = refl
sorted-put r (s ∷ ss) h =
    grind (arith, common_steps, same_key_true s.key r.key, before_other s.key r.key, all_behind-before r.key s.key ss, all_behind-put s.key r ss, sorted-put r ss)

all_behind-take_out : (k j : Key) (rs : List Record) → all_behind k rs ≡ true → all_behind k (take_out j rs) ≡ true
unfolding take_out all_behind
all_behind-take_out k j [] h = h
all_behind-take_out k j (r ∷ rs) h = grind (arith, common_steps, all_behind-take_out k j rs)

pub sorted-take_out : (k : Key) (rs : List Record) → sorted rs ≡ true → sorted (take_out k rs) ≡ true
unfolding take_out
sorted-take_out k [] h = h
sorted-take_out k (r ∷ rs) h = grind (arith, common_steps, all_behind-take_out r.key k rs, sorted-take_out k rs)

-- a record whose key was there takes the old one's place
pub length-put-has : (r : Record) (rs : List Record) → sorted rs ≡ true → has r.key rs ≡ true → length (put r rs) ≡ length rs
unfolding put has
length-put-has r [] s h = absurd (false≢true h)
length-put-has r (s ∷ ss) o h = grind (arith, common_steps, length-put-has r ss, has-behind r.key ss, all_behind-before r.key s.key ss)

pub length-put_new : (r : Record) (rs : List Record) → has r.key rs ≡ false → length (put r rs) ≡ length rs + 1
unfolding put has
length-put_new r [] h = refl
length-put_new r (s ∷ ss) h = grind (arith, common_steps, length-put_new r ss)

pub length-take_out-has : (k : Key) (rs : List Record) → has k rs ≡ true → length (take_out k rs) + 1 ≡ length rs
unfolding take_out has
length-take_out-has k [] h = absurd (false≢true h)
length-take_out-has k (r ∷ rs) h = grind (arith, common_steps, length-take_out-has k rs)

-- a key that is not there takes nothing out
pub take_out_missing : (k : Key) (rs : List Record) → has k rs ≡ false → take_out k rs ≡ rs
unfolding take_out has
take_out_missing k [] h = refl
take_out_missing k (r ∷ rs) h = grind (arith, common_steps, take_out_missing k rs)

look_first : (r : Record) (rs : List Record) → look r.key (r ∷ rs) ≡ Some r
unfolding look
look_first r rs = simp same_key_refl

-- the tails of two lists with one first record have equal look-ups where the lists have
same_tails : (r : Record) (rs ss : List Record) → sorted (r ∷ rs) ≡ true → sorted (r ∷ ss) ≡ true → ((k : Key) → look k (r ∷ rs) ≡ look k (r ∷ ss)) → (k : Key) → look k rs ≡ look k ss
unfolding look
same_tails r rs ss o u h k = grind (arith, common_steps, h k, same_key_true r.key k, look-behind r.key rs, look-behind r.key ss)

-- a first record whose key is before all of another list is not found there
not_there : (r : Record) (rs ss : List Record) → all_behind r.key ss ≡ true → ((k : Key) → look k (r ∷ rs) ≡ look k ss) → ⊥
unfolding look
not_there r rs ss b h = grind (arith, common_steps, h r.key, same_key_refl r.key, look-behind r.key ss b)

-- two sorted lists in which every look-up finds the same are equal
pub same_from_look : (rs ss : List Record) → sorted rs ≡ true → sorted ss ≡ true → ((k : Key) → look k rs ≡ look k ss) → rs ≡ ss
same_from_look [] [] o u h = refl
same_from_look [] (s ∷ ss) o u h = absurd (not_there s ss [] (behind-nil s.key) (λ k. sym (h k)))
same_from_look (r ∷ rs) [] o u h = absurd (not_there r rs [] (behind-nil r.key) h)
same_from_look (r ∷ rs) (s ∷ ss) o u h =
    elim (ways r.key s.key) [
      | ahead x n a ↦ absurd (not_there r rs (s ∷ ss) (first_before r.key s ss x u) h)
      | here e y x a ↦
          let f : Some r ≡ Some s = sym (look_first r rs) ∙ h r.key ∙ ap (λ (k : Key). look k (s ∷ ss)) e ∙ look_first s ss in
          let q : r ≡ s = cc in
          let t = same_from_look rs ss (sorted_tail r rs o) (sorted_tail s ss u) (same_tails r rs ss o (rw q u) (λ k. h k ∙ ap (λ (x : Record). look k (x ∷ ss)) (sym q))) in
          λ i. q i ∷ t i
      | past x n a ↦ absurd (not_there s ss (r ∷ rs) (first_before s.key r rs a o) (λ k. sym (h k)))
    ]
