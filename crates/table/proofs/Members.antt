-- What is in a sorted list, and what holds of all that is.
use Rattle.std.proofs.Common.{◌≡◌, ℕ, zero, suc, ◌<◌, true, List, All, [], ◌∷◌, length, get_or, Some, inl, inr, arith}
use Rattle.std.specs.List.{slice_get, Contains}
use Rattle.std.proofs.lemmas.Bool.{cases_Bool}
use Rattle.std.proofs.lemmas.Grind.{common_steps}
use Rattle.std.proofs.lemmas.List.Elements.{All-cons, All-head, All-tail}
use Rattle.std.proofs.lemmas.Option.{slice_get-get_or, none-some}
use Rattle.base.specs.declared.key.Key.{Key}
use Rattle.table.specs.declared.record.Record.{Record}
use Rattle.table.specs.Order.{before, same_key, all_behind, sorted}
use Rattle.table.specs.Records.{look, put, take_out}
use Rattle.table.proofs.Keys.{same_key_refl, before_apart}

-- each record of a list that lies behind a key has a key behind it
pub nth_behind : (k : Key) (rs : List Record) (i : ℕ) (r : Record) → all_behind k rs ≡ true → slice_get rs i ≡ Some r → before k r.key ≡ true
unfolding all_behind
nth_behind k [] i r a h = absurd (none-some r h)
nth_behind k (s ∷ ss) zero r a h = grind (arith, common_steps)
nth_behind k (s ∷ ss) (suc i) r a h = grind (arith, common_steps, nth_behind k ss i r)

all_from_nth : (P : Record → Type 0) (rs : List Record) → ((i : ℕ) (r : Record) → slice_get rs i ≡ Some r → P r) → All P rs
all_from_nth P rs h = λ i d lt. h i (get_or rs i d) (slice_get-get_or rs i d lt)

-- a record of a sorted list is found under its key
pub look_nth : (rs : List Record) (i : ℕ) (r : Record) → sorted rs ≡ true → slice_get rs i ≡ Some r → look r.key rs ≡ Some r
unfolding look
look_nth [] i r o h = absurd (none-some r h)
look_nth (s ∷ ss) zero r o h = grind (arith, common_steps, same_key_refl)
look_nth (s ∷ ss) (suc i) r o h = grind (arith, common_steps, before_apart s.key r.key, nth_behind s.key ss i r, look_nth ss i r)

pub look_getD : (rs : List Record) (i : ℕ) (d : Record) → sorted rs ≡ true → i < length rs → look (get_or rs i d).key rs ≡ Some (get_or rs i d)
look_getD rs i d o lt = look_nth rs i (get_or rs i d) o (slice_get-get_or rs i d lt)

pub look-has : (rs : List Record) (r : Record) → sorted rs ≡ true → Contains rs r → look r.key rs ≡ Some r
look-has rs r o h = rw h.2 at (look_getD rs h.0 r o h.1)

-- what is found stands at some place
pub nth_from_look : (k : Key) (rs : List Record) (r : Record) → look k rs ≡ Some r → (i : ℕ) × (slice_get rs i ≡ Some r)
unfolding look
nth_from_look k [] r h = absurd (none-some r h)
nth_from_look k (s ∷ ss) r h =
    elim (cases_Bool (same_key s.key k)) [
      | inl y ↦ (0, simp y at h)
      | inr n ↦ let t = nth_from_look k ss r (simp n at h) in (suc t.0, t.1)
    ]

module _ (P : Record → Type 0) where
  pub all_look : (k : Key) (rs : List Record) (r : Record) → All P rs → look k rs ≡ Some r → P r
  unfolding look
  all_look k [] r a h = absurd (none-some r h)
  all_look k (s ∷ ss) r a h = grind (arith, common_steps, All-head P s ss a, all_look k ss r (All-tail P s ss a))

  pub all_from_look : (rs : List Record) → sorted rs ≡ true → ((k : Key) (r : Record) → look k rs ≡ Some r → P r) → All P rs
  all_from_look rs o h = all_from_nth P rs (λ i r e. h r.key r (look_nth rs i r o e))

  pub all_put : (r : Record) (rs : List Record) → P r → All P rs → All P (put r rs)
  unfolding put
  all_put r [] p a = All-cons P r [] p a
  all_put r (s ∷ ss) p a =
      let rest = All-tail P s ss a in
      grind (arith, common_steps, All-cons P r (s ∷ ss) p a, All-cons P r ss p rest, All-cons P s (put r ss) (All-head P s ss a) (all_put r ss p rest))

  pub all_take_out : (k : Key) (rs : List Record) → All P rs → All P (take_out k rs)
  unfolding take_out
  all_take_out k [] a = a
  all_take_out k (r ∷ rs) a =
      let rest = All-tail P r rs a in
      grind (arith, common_steps, rest, All-cons P r (take_out k rs) (All-head P r rs a) (all_take_out k rs rest))
