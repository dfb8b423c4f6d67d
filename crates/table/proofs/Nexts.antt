-- A walk: the record that comes next is the least behind the key reached.
use Rattle.std.proofs.Common.{◌≡◌, true, false, List, [], ◌∷◌, Some, None, Option, sym, refl, ap, ◌∙◌, subst, inl, inr, arith}
use Rattle.std.specs.List.{slice_get}
use Rattle.std.proofs.lemmas.Option.{none-some}
use Rattle.std.proofs.lemmas.Grind.{common_steps}
use Rattle.std.proofs.lemmas.Bool.{cases_Bool}
use Rattle.base.specs.declared.key.Key.{Key}
use Rattle.table.specs.declared.record.Record.{Record}
use Rattle.table.specs.Order.{before, behind, all_behind, sorted}
use Rattle.table.specs.Records.{look, put, next_behind, still_behind}
use Rattle.table.proofs.Keys.{same_key_refl, same_key_true, before_irrefl, before_trans, before_asym, before_other, before_apart, ahead, here, past, ways}
use Rattle.table.proofs.Looks.{sorted_head, sorted_tail, look-put_other, look-behind}
use Rattle.table.proofs.Shapes.{sorted-put, first_before, rest_behind, here_behind}

pub behind_none : (k : Key) → behind None k ≡ true
unfolding behind
behind_none k = refl

pub behind_some : (j k : Key) → behind (Some j) k ≡ before j k
unfolding behind
behind_some j k = refl

-- a walk begins at the first record
pub next_first : (rs : List Record) → next_behind None rs ≡ slice_get rs 0
unfolding next_behind behind
next_first [] = refl
next_first (r ∷ rs) = refl

-- what is behind a place stays so farther on
pub behind_trans : (o : Option Key) (j k : Key) → behind o j ≡ true → before j k ≡ true → behind o k ≡ true
unfolding behind
behind_trans None j k h b = refl
behind_trans (Some i) j k h b = before_trans i j k h b

-- nothing next: nothing is there behind the place
pub next_none : (o : Option Key) (rs : List Record) → next_behind o rs ≡ None → (k : Key) → behind o k ≡ true → look k rs ≡ None
unfolding next_behind look
next_none o [] h k b = refl
next_none o (r ∷ rs) h k b = grind (arith, common_steps, same_key_true r.key k, next_none o rs)

-- a look-up in the tail of a sorted list, from one in the whole
tail_none : (k : Key) (r : Record) (rs : List Record) → look k (r ∷ rs) ≡ None → look k rs ≡ None
unfolding look
tail_none k r rs h = grind (arith, common_steps)

pub next_from_none : (o : Option Key) (rs : List Record) → ((k : Key) → behind o k ≡ true → look k rs ≡ None) → next_behind o rs ≡ None
unfolding next_behind look
next_from_none o [] h = refl
next_from_none o (r ∷ rs) h = grind (arith, common_steps, h r.key, same_key_refl r.key, next_from_none o rs (λ k b. tail_none k r rs (h k b)))

-- what comes next is there, behind the place, and the least of what is
pub record Next (o : Option Key) (rs : List Record) (r : Record) : Type 0 where
  pub there : look r.key rs ≡ Some r
  pub farther : behind o r.key ≡ true
  pub least : (k : Key) → behind o k ≡ true → before k r.key ≡ true → look k rs ≡ None

-- a record that is found in the tail is behind the first
tail_some : (k : Key) (s r : Record) (rs : List Record) → sorted (s ∷ rs) ≡ true → look k rs ≡ Some r → before s.key k ≡ true
tail_some k s r rs o h = grind (arith, common_steps, before_other s.key k, same_key_true s.key k, look-behind k rs, here_behind k s rs, rest_behind k s rs)

pub next_some : (o : Option Key) (rs : List Record) (r : Record) → sorted rs ≡ true → next_behind o rs ≡ Some r → Next o rs r
unfolding next_behind look
next_some o [] r u h = absurd (none-some r h)
next_some o (s ∷ rs) r u h =
    elim (cases_Bool (behind o s.key)) [
      | inl y ↦
          let f : Some s ≡ Some r = simp y at h in
          let e : s ≡ r = cc in
          record {
            there = grind (arith, common_steps, same_key_refl);
            farther = grind (arith, common_steps);
            least = λ k b l. look-behind k (s ∷ rs) (first_before k s rs (rw e l) u);
          }
      | inr n ↦
          let t = next_some o rs r (sorted_tail s rs u) (simp n at h) in
          record {
            there = grind (arith, common_steps, t.there, tail_some r.key s r rs u t.there, before_apart s.key r.key);
            farther = t.farther;
            -- a first record that is not behind the place hides nothing that is
            least = λ k b l. grind (arith, common_steps, t.least k b l, same_key_true s.key k);
          }
    ]

pub next_from_some : (o : Option Key) (rs : List Record) (r : Record) → sorted rs ≡ true → Next o rs r → next_behind o rs ≡ Some r
next_from_some o rs r u n = settled (next_behind o rs) refl
  where
    settled : (x : Option Record) → next_behind o rs ≡ x → x ≡ Some r
    settled None h = absurd (none-some r (sym (next_none o rs h r.key n.farther) ∙ n.there))
    settled (Some s) h =
        let t = next_some o rs s u h in
        elim (ways s.key r.key) [
          | ahead b d a ↦ absurd (none-some s (sym (n.least s.key t.farther b) ∙ t.there))
          | here e y b a ↦ sym t.there ∙ ap (λ (k : Key). look k rs) e ∙ n.there
          | past b d a ↦ absurd (none-some r (sym (t.least r.key n.farther a) ∙ n.there))
        ]

-- a change of a record that the walk has passed does not change what comes next
pub next_put-passed : (o : Option Key) (r : Record) (rs : List Record) → sorted rs ≡ true → behind o r.key ≡ false → next_behind o (put r rs) ≡ next_behind o rs
next_put-passed o r rs u p = settled (next_behind o rs) refl
  where
    same : (k : Key) → behind o k ≡ true → look k (put r rs) ≡ look k rs
    same k b = grind (arith, common_steps, look-put_other r k rs, same_key_true r.key k)

    settled : (x : Option Record) → next_behind o rs ≡ x → next_behind o (put r rs) ≡ next_behind o rs
    settled None h = next_from_none o (put r rs) (λ k b. same k b ∙ next_none o rs h k b) ∙ sym h
    settled (Some s) h =
        let t = next_some o rs s u h in
        next_from_some o (put r rs) s (sorted-put r rs u)
        (record { there = same s.key t.farther ∙ t.there; farther = t.farther; least = λ k b l. same k b ∙ t.least k b l }) ∙ sym h

still_whole : (o : Option Key) (j : Key) (rs : List Record) → ((k : Key) → before j k ≡ true → behind o k ≡ true) → all_behind j rs ≡ true → still_behind o rs ≡ rs
unfolding still_behind all_behind
still_whole o j [] h a = refl
still_whole o j (r ∷ rs) h a = grind (arith, common_steps, h r.key, still_whole o j rs h)

-- a walk begins with all the records before it, passes them one by one in their order, and ends when none is left
pub still_all : (rs : List Record) → still_behind None rs ≡ rs
unfolding still_behind
still_all [] = refl
still_all (r ∷ rs) = grind (arith, common_steps, behind_none r.key, still_all rs)

pub still_next : (o : Option Key) (rs : List Record) (r : Record) → sorted rs ≡ true → next_behind o rs ≡ Some r → still_behind o rs ≡ r ∷ still_behind (Some r.key) rs
unfolding still_behind next_behind
still_next o [] r u h = absurd (none-some r h)
still_next o (s ∷ rs) r u h =
    elim (cases_Bool (behind o s.key)) [
      | inl y ↦
          let f : Some s ≡ Some r = simp y at h in
          let e : s ≡ r = cc in
          let here-not : behind (Some s.key) s.key ≡ false = behind_some s.key s.key ∙ before_irrefl s.key in
          let left = still_whole o s.key rs (λ k b. behind_trans o s.key k y b) (sorted_head s rs u) in
          let right = still_whole (Some s.key) s.key rs (λ k b. behind_some s.key k ∙ b) (sorted_head s rs u) in
          subst (λ (x : Record). still_behind o (s ∷ rs) ≡ x ∷ still_behind (Some x.key) (s ∷ rs)) e
          (simp (y, here-not) (ap (λ (x : List Record). s ∷ x) (left ∙ sym right)))
      | inr n ↦
          let g : next_behind o rs ≡ Some r = simp n at h in
          let t = next_some o rs r (sorted_tail s rs u) g in
          let passed : behind (Some r.key) s.key ≡ false = behind_some r.key s.key ∙ before_asym s.key r.key (tail_some r.key s r rs u t.there) in
          simp (n, passed) (still_next o rs r (sorted_tail s rs u) g)
    ]

pub still_none : (o : Option Key) (rs : List Record) → next_behind o rs ≡ None → still_behind o rs ≡ []
unfolding still_behind next_behind
still_none o [] h = refl
still_none o (s ∷ rs) h = grind (arith, common_steps, still_none o rs)
