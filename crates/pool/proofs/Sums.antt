-- How many pages are in use.
use Rattle.std.proofs.Common.{◌≡◌, ℕ, zero, suc, ◌+◌, ◌-◌, ◌<◌, ◌≤◌, List, [], ◌∷◌, length, get_or, take, set, refl, ap, add-one, arith}
use Rattle.std.specs.Prelude.{sum_by}
use Rattle.std.proofs.lemmas.List.{take_all}
use Rattle.std.proofs.lemmas.List.Sums.{sum_by-cons, sum_by-set, sum_by_more, get_or-le-sum_by, sum_by-le-sum_by}
use Rattle.lane.specs.declared.lane.Lane.{Lane}
use Rattle.lane.specs.Lanes.{no_lane, lane_of, Apart, Inside, Unused}
use Rattle.lane.specs.Steps.{Grows}
use Rattle.pool.specs.Pages.{used}

capacities : List Lane → ℕ
capacities ls = sum_by (λ (l : Lane). l.capacity) ls

-- the lanes before one end where it begins, and all of them within the slots
before : (ls : List Lane) (k : ℕ) → length ls ≡ 8 → Apart ls → k < 8 → capacities (take k ls) ≤ (lane_of ls k).base
unfolding capacities
before ls zero eight apart low = omega arith
before ls (suc k) eight apart low =
    let h = before ls k eight apart (omega arith) in
    let more = sum_by_more (λ (l : Lane). l.capacity) ls k no_lane (omega arith) in
    let next = apart k (k + 1) no_lane (omega arith, omega arith) in
    rw (← add-one) (omega (arith, more, next, h))

fit : (ls : List Lane) (n : ℕ) → length ls ≡ 8 → Apart ls → Inside ls n → capacities ls ≤ n
unfolding capacities
fit ls n eight apart inside =
    let h = before ls 7 eight apart (omega arith) in
    let more = sum_by_more (λ (l : Lane). l.capacity) ls 7 no_lane (omega arith) in
    let all = ap (sum_by (λ (l : Lane). l.capacity)) (take_all 8 ls (omega arith)) in
    omega (arith, h, more, all, inside 7 no_lane (omega arith))

-- lanes of which one has room use fewer slots than there are
below : (ls : List Lane) (f : ℕ) → f < length ls → (lane_of ls f).count < (lane_of ls f).first + (lane_of ls f).capacity → used ls < capacities ls
unfolding capacities
below [] f lt room = absurd (omega arith)
below (l ∷ ls) zero lt room =
    let rest = sum_by-le-sum_by (λ (z : Lane). z.count - z.first) (λ (z : Lane). z.capacity) ls (λ z. omega (arith, z.room)) in
    omega (arith, rest, sum_by-cons (λ (z : Lane). z.count - z.first) l ls, sum_by-cons (λ (z : Lane). z.capacity) l ls, l.some)
below (l ∷ ls) (suc f) lt room =
    let rest = below ls f (omega arith) room in
    omega (arith, rest, sum_by-cons (λ (z : Lane). z.count - z.first) l ls, sum_by-cons (λ (z : Lane). z.capacity) l ls, l.room)

module _ (ls : List Lane) (f total spare : ℕ) (eight : length ls ≡ 8) (low : f < 8) (counted : spare + used ls ≡ total) where
  abbrev l : Lane
  l = lane_of ls f

  used_set : (g : Lane) → used (set ls f g) + (l.count - l.first) ≡ used ls + (g.count - g.first)
  used_set g = sum_by-set (λ (x : Lane). x.count - x.first) ls f g no_lane (omega arith)

  -- a file with room leaves a spare page
  pub some_spare : Apart ls → Inside ls total → l.count < l.first + l.capacity → 0 < spare
  some_spare apart inside room = omega (arith, below ls f (omega arith) room, fit ls total eight apart inside)

  -- a file with a block leaves a place for a spare page
  pub spare_place : l.first < l.count → spare < total
  spare_place some = omega (arith, get_or-le-sum_by (λ (z : Lane). z.count - z.first) ls f no_lane (omega arith))

  pub grown_counted : (g : Lane) → 0 < spare → Grows l g → spare - 1 + used (set ls f g) ≡ total
  grown_counted g some x = omega (arith, used_set g, x.first, x.count, l.dropped, l.lasting)

  pub freed_counted : (g : Lane) → g.count - g.first + 1 ≡ l.count - l.first → spare + 1 + used (set ls f g) ≡ total
  freed_counted g e = omega (arith, used_set g)

  pub same_counted : (g : Lane) → g.count - g.first ≡ l.count - l.first → spare + used (set ls f g) ≡ total
  same_counted g e = omega (arith, used_set g)

none_used : (ls : List Lane) → ((i : ℕ) (d : Lane) → i < length ls → (get_or ls i d).count ≡ 0) → used ls ≡ 0
none_used [] h = refl
none_used (l ∷ ls) h = omega (arith, sum_by-cons (λ (z : Lane). z.count - z.first) l ls, h 0 l (omega arith), none_used ls (λ i d lt. h (suc i) d (omega arith)))

pub unused_counted : (ls : List Lane) (total : ℕ) → length ls ≡ 8 → Unused ls → total + used ls ≡ total
unused_counted ls total eight unused = omega (arith, none_used ls (λ i d lt. unused i d (omega arith)))
