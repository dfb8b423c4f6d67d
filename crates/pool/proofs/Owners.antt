-- Who owns a page after a lane took or freed one.
use Rattle.std.proofs.Common.{◌≡◌, ℕ, ◌+◌, ◌-◌, ◌%◌, ◌<◌, ◌≤◌, ◌≢◌, ◌⊎◌, List, length, get_or, set, sym, refl, ap, ◌∙◌, subst, inl, inr, ⊎_elim, arith, get_or-set_other, get_or-set_same}
use Rattle.std.proofs.lemmas.Bool.{cases_eq, cases_lt}
use Rattle.lane.specs.declared.lane.Lane.{Lane}
use Rattle.lane.specs.Lanes.{no_lane, lane_of, slot, Apart, Inside, Unused}
use Rattle.lane.specs.Steps.{SamePlace, Grows}
use Rattle.lane.proofs.Kept.{own_slot, other_slot, slot_inside}
use Rattle.pool.specs.Pages.{Kept, Owns, Distinct, Ranged, Frees, Numbered}
use Rattle.pool.proofs.Moves.{moved_distinct, moved_ranged}

-- a slot of a lane that holds a kept block
record Ours (g : Lane) (s : ℕ) : Type 0 where
  number : ℕ
  from : g.first ≤ number
  to : number < g.count
  at : s ≡ slot g number

record Theirs (ls : List Lane) (f s : ℕ) : Type 0 where
  kept : Kept ls s
  other : kept.file ≢ f

kept_split : (ls : List Lane) (f : ℕ) (g : Lane) (s : ℕ) → f < length ls → Kept (set ls f g) s → Ours g s ⊎ Theirs ls f s
kept_split ls f g s lt x =
    ⊎_elim
    (λ same.
    let e : lane_of (set ls f g) x.file ≡ g = ap (lane_of (set ls f g)) same ∙ get_or-set_same ls f g no_lane lt in
    inl (record { number = x.number; from = subst (λ (l : Lane). l.first ≤ x.number) e x.from; to = subst (λ (l : Lane). x.number < l.count) e x.to; at = x.at ∙ ap (λ l. slot l x.number) e }))
    (λ ne.
    let e : lane_of (set ls f g) x.file ≡ lane_of ls x.file = get_or-set_other ls f x.file g no_lane ne in
    inr (record { kept = record { file = x.file; number = x.number; low = x.low; from = subst (λ (l : Lane). l.first ≤ x.number) e x.from; to = subst (λ (l : Lane). x.number < l.count) e x.to; at = x.at ∙ ap (λ l. slot l x.number) e }; other = ne }))
    (cases_eq x.file f)

pub kept_inside : (ls : List Lane) (total s : ℕ) → Inside ls total → Kept ls s → s < total
kept_inside ls total s inside x = omega (arith, slot_inside ls x.file no_lane x.number total (inside x.file no_lane x.low), x.at)

-- two kept blocks of a lane have slots of their own
two_slots : (l : Lane) (j k : ℕ) → l.first ≤ j → j < l.count → l.first ≤ k → k < l.count → j ≢ k → slot l j ≢ slot l k
two_slots l j k a b c d ne e =
    let r = l.room in
    ⊎_elim
    (λ lt. own_slot l j k a lt (omega arith) (omega arith) e)
    (λ ge. own_slot l k j c (omega arith) (omega arith) (omega arith) (sym e))
    (cases_lt j k)

module _ (ls : List Lane) (f : ℕ) (g : Lane) (total spare : ℕ) (table : List ℕ) (eight : length ls ≡ 8) (low : f < 8) (place : SamePlace (lane_of ls f) g) where
  abbrev l : Lane
  l = lane_of ls f

  slot_same : (k : ℕ) → slot g k ≡ slot l k
  slot_same k = λ i. place.base i + k % place.capacity i

  -- a kept slot of the new lane, by the old
  ours : (s : ℕ) (o : Ours g s) → l.first ≤ o.number → o.number < l.count → Kept ls s
  ours s o from to = record { file = f; number = o.number; low = low; from = from; to = to; at = o.at ∙ slot_same o.number }

  -- a lane that keeps its numbers keeps its pages
  module _ (first : g.first ≡ l.first) (count : g.count ≡ l.count) where
    same_owner : (s : ℕ) → Owns (set ls f g) total spare s → Owns ls total spare s
    same_owner s (inr p) = inr p
    same_owner s (inl x) = ⊎_elim (λ o. inl (ours s o (omega (arith, o.from)) (omega (arith, o.to)))) (λ t. inl t.kept) (kept_split ls f g s (omega arith) x)

    pub same_distinct : Distinct ls total spare table → Distinct (set ls f g) total spare table
    same_distinct distinct s t p = distinct s t (same_owner s p.0, same_owner t p.1, p.2, p.3)

    pub same_ranged : Ranged ls total spare table → Ranged (set ls f g) total spare table
    same_ranged ranged s o = ranged s (same_owner s o)

  module _ (apart : Apart ls) (inside : Inside ls total) where
    mine_in : (k : ℕ) → slot l k < total
    mine_in k = slot_inside ls f no_lane k total (inside f no_lane low)

    theirs_off : (s k : ℕ) → Theirs ls f s → s ≢ slot l k
    theirs_off s k x is = other_slot ls x.kept.file f no_lane x.kept.number k apart x.kept.low low x.other (sym x.kept.at ∙ is)

    -- a lane takes one more block, in the slot of the next number
    module _ (x : Grows l g) (some : 0 < spare) where
      next : slot g (g.count - 1) ≡ slot l l.count
      next = slot_same (g.count - 1) ∙ ap (slot l) (omega (arith, x.count))

      grow_sorts : (s : ℕ) → Owns (set ls f g) total (spare - 1) s → (s ≡ slot g (g.count - 1)) ⊎ (Owns ls total spare s × (s ≢ slot g (g.count - 1)) × (s ≢ total + spare - 1))
      grow_sorts s (inl kept) =
          ⊎_elim
          (λ o.
          let n = o.number in
          let is : s ≡ slot l n = o.at ∙ slot_same n in
          let here = mine_in n in
          let from : l.first ≤ n = omega (arith, o.from, x.first) in
          ⊎_elim
          (λ same. inl (is ∙ ap (slot l) same ∙ sym next))
          (λ ne.
          let to : n < l.count = omega (arith, o.to, x.count) in
          inr (inl (ours s o from to), (λ q. own_slot l n l.count from to (omega arith) (omega (arith, x.first, x.count, x.capacity, g.room)) (sym is ∙ q ∙ next)), (λ q. omega arith)))
          (cases_eq n l.count))
          (λ t.
          let here = kept_inside ls total s inside t.kept in
          inr (inl t.kept, (λ q. theirs_off s l.count t (q ∙ next)), (λ q. omega arith)))
          (kept_split ls f g s (omega arith) kept)
      grow_sorts s (inr p) =
          let here = mine_in l.count in
          let a = p.0 in
          let b = p.1 in
          let is = next in
          inr (inr (a, omega arith), (λ q. omega arith), (λ q. omega arith))

      module _ (within : slot g (g.count - 1) < length table) where
        pub grown_distinct : Distinct ls total spare table → Distinct (set ls f g) total (spare - 1) (set table (slot g (g.count - 1)) (get_or table (total + spare - 1) 0))
        grown_distinct = moved_distinct table (total + spare - 1) (slot g (g.count - 1)) within (Owns ls total spare) (Owns (set ls f g) total (spare - 1)) (inr (omega arith, omega arith)) grow_sorts

        pub grown_ranged : Ranged ls total spare table → Ranged (set ls f g) total (spare - 1) (set table (slot g (g.count - 1)) (get_or table (total + spare - 1) 0))
        grown_ranged = moved_ranged table (total + spare - 1) (slot g (g.count - 1)) within (Owns ls total spare) (Owns (set ls f g) total (spare - 1)) (inr (omega arith, omega arith)) grow_sorts total

    -- a lane lets go of one number, and the page of its slot is spare
    module _ (number : ℕ) (x : Frees l g number) where
      free_sorts : (s : ℕ) → Owns (set ls f g) total (spare + 1) s → (s ≡ total + spare) ⊎ (Owns ls total spare s × (s ≢ total + spare) × (s ≢ slot l number))
      free_sorts s (inl kept) =
          ⊎_elim
          (λ o.
          let n = o.number in
          let is : s ≡ slot l n = o.at ∙ slot_same n in
          let here = mine_in n in
          let from : l.first ≤ n = omega (arith, o.from, x.low) in
          let to : n < l.count = omega (arith, o.to, x.high) in
          inr (inl (ours s o from to), (λ q. omega arith), (λ q. two_slots l n number from to x.from x.to (x.out n o.from o.to) (sym is ∙ q))))
          (λ t.
          let here = kept_inside ls total s inside t.kept in
          inr (inl t.kept, (λ q. omega arith), (λ q. theirs_off s number t q)))
          (kept_split ls f g s (omega arith) kept)
      free_sorts s (inr p) =
          let here = mine_in number in
          let a = p.0 in
          let b = p.1 in
          ⊎_elim
          (λ same. inl same)
          (λ ne. inr (inr (a, omega arith), ne, (λ q. omega arith)))
          (cases_eq s (total + spare))

      source : Owns ls total spare (slot l number)
      source = inl (record { file = f; number = number; low = low; from = x.from; to = x.to; at = refl })

      module _ (within : total + spare < length table) where
        pub freed_distinct : Distinct ls total spare table → Distinct (set ls f g) total (spare + 1) (set table (total + spare) (get_or table (slot l number) 0))
        freed_distinct = moved_distinct table (slot l number) (total + spare) within (Owns ls total spare) (Owns (set ls f g) total (spare + 1)) source free_sorts

        pub freed_ranged : Ranged ls total spare table → Ranged (set ls f g) total (spare + 1) (set table (total + spare) (get_or table (slot l number) 0))
        freed_ranged = moved_ranged table (slot l number) (total + spare) within (Owns ls total spare) (Owns (set ls f g) total (spare + 1)) source free_sorts total

-- at first every page is spare
module _ (ls : List Lane) (total : ℕ) (table : List ℕ) (unused : Unused ls) (numbered : Numbered total table) where
  spare_number : (s : ℕ) → Owns ls total total s → (total ≤ s) × (get_or table s 0 ≡ s - total) × (s < total + total)
  spare_number s (inl x) = absurd (omega (arith, x.to, unused x.file no_lane x.low))
  spare_number s (inr p) =
      let a = p.0 in
      let b = p.1 in
      let is : total + (s - total) ≡ s = omega arith in
      (a, ap (λ k. get_or table k 0) (sym is) ∙ numbered (s - total) (omega arith), b)

  pub fresh_distinct : Distinct ls total total table
  fresh_distinct s t p =
      let a = spare_number s p.0 in
      let b = spare_number t p.1 in
      p.2 (omega (arith, a.0, a.1, b.0, b.1, p.3))

  pub fresh_ranged : Ranged ls total total table
  fresh_ranged s o = let a = spare_number s o in omega (arith, a.0, a.1, a.2)
