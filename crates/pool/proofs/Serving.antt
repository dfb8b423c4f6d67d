-- What it gives that the pages serve the lanes, and how each step of a lane leaves it.
use Rattle.std.proofs.Common.{◌≡◌, ℕ, ◌+◌, ◌-◌, ◌%◌, ◌<◌, ◌≤◌, List, [], length, get_or, set, refl, ap, ◌∙◌, inl, inr, arith, get_or-set_other, get_or-set_same}
use Rattle.lane.specs.declared.lane.Lane.{Lane}
use Rattle.lane.specs.Lanes.{no_lane, lane_of, slot, Apart, Inside, Unused}
use Rattle.lane.specs.Steps.{Grows, SamePlace, Stays}
use Rattle.lane.proofs.Kept.{fresh_slot, slot_inside, inside_set}
use Rattle.pool.specs.Pages.{page_of, Kept, Serves, Frees, Numbered}
use Rattle.pool.proofs.Sums.{some_spare, spare_place, grown_counted, freed_counted, same_counted, unused_counted}
use Rattle.pool.proofs.Owners.{grown_distinct, grown_ranged, freed_distinct, freed_ranged, same_distinct, same_ranged, fresh_distinct, fresh_ranged}

pub fresh_serves : (ls : List Lane) (total : ℕ) (table : List ℕ) → length ls ≡ 8 → Inside ls total → Unused ls → Numbered total table → Serves ls total total table
fresh_serves ls total table eight inside unused numbered =
    record {
      inside = inside;
      counted = unused_counted ls total eight unused;
      distinct = fresh_distinct ls total table unused numbered;
      ranged = fresh_ranged ls total table unused numbered;
    }

module _ (ls : List Lane) (total spare : ℕ) (table : List ℕ) (eight : length ls ≡ 8) (f : ℕ) (low : f < 8) (s : Serves ls total spare table) where
  abbrev l : Lane
  l = lane_of ls f

  -- the slot of a number, and its page, are within the pages
  pub slot_low : (n : ℕ) → slot l n < total
  slot_low n = slot_inside ls f no_lane n total (s.inside f no_lane low)

  pub page_low : (n : ℕ) → l.first ≤ n → n < l.count → get_or table (slot l n) 0 < total
  page_low n from to = s.ranged (slot l n) (inl (record { file = f; number = n; low = low; from = from; to = to; at = refl }))

  -- a file that keeps a block leaves a place for a spare page
  pub spare_room : l.first < l.count → spare < total
  spare_room some = spare_place ls f total spare eight low s.counted some

  -- a lane of the same numbers
  pub same_serves : (g : Lane) → SamePlace l g → g.first ≡ l.first → g.count ≡ l.count → Serves (set ls f g) total spare table
  same_serves g p e3 e4 =
      record {
        inside = inside_set ls f g total eight low p s.inside;
        counted = same_counted ls f total spare eight low s.counted g (omega arith);
        distinct = same_distinct ls f g total spare table eight low p e3 e4 s.distinct;
        ranged = same_ranged ls f g total spare table eight low p e3 e4 s.ranged;
      }

  -- a lane that lets go of a number gives its page back
  pub freed_serves : (number : ℕ) (g : Lane) → Apart ls → total + total ≤ length table → Frees l g number → Serves (set ls f g) total (spare + 1) (set table (total + spare) (get_or table (slot l number) 0))
  freed_serves number g apart long x =
      let p : SamePlace l g = record { base = x.base; capacity = x.capacity } in
      let within : total + spare < length table = omega (arith, spare_room (omega (arith, x.from, x.to))) in
      record {
        inside = inside_set ls f g total eight low p s.inside;
        counted = freed_counted ls f total spare eight low s.counted g x.fewer;
        distinct = freed_distinct ls f g total spare table eight low p apart s.inside number x within s.distinct;
        ranged = freed_ranged ls f g total spare table eight low p apart s.inside number x within s.ranged;
      }

  -- a lane takes the page on top of the spare ones for its next number
  module _ (g : Lane) (apart : Apart ls) (x : Grows l g) where
    abbrev top : ℕ
    top = get_or table (total + spare - 1) 0

    abbrev next : ℕ
    next = slot g (g.count - 1)

    pub some : 0 < spare
    some = some_spare ls f total spare eight low s.counted apart s.inside (omega (arith, x.first, x.count, x.capacity, g.room))

    pub top_low : top < total
    top_low = let z = some in s.ranged (total + spare - 1) (inr (omega arith, omega arith))

    pub next_low : next < total
    next_low = let e : next ≡ slot l (g.count - 1) = λ i. x.base i + (g.count - 1) % x.capacity i in omega (arith, slot_low (g.count - 1))

    module _ (long : total + total ≤ length table) where
      within : next < length table
      within = omega (arith, next_low)

      pub filled_serves : Serves (set ls f g) total (spare - 1) (set table next top)
      filled_serves =
          let p : SamePlace l g = record { base = x.base; capacity = x.capacity } in
          record {
            inside = inside_set ls f g total eight low p s.inside;
            counted = grown_counted ls f total spare eight low s.counted g some x;
            distinct = grown_distinct ls f g total spare table eight low p apart s.inside x some within s.distinct;
            ranged = grown_ranged ls f g total spare table eight low p apart s.inside x some within s.ranged;
          }

      -- its block stands there, and no other block moves
      pub block_there : (pages : List (List ℕ)) (b : List ℕ) → total ≤ length pages → page_of (set pages top b) (set table next top) next ≡ b
      block_there pages b paged = ap (λ n. get_or (set pages top b) n []) (get_or-set_same table next top 0 within) ∙ get_or-set_same pages top b [] (omega (arith, top_low))

    pub others_there : (pages : List (List ℕ)) (b : List ℕ) → Stays ls (page_of pages table) (page_of (set pages top b) (set table next top))
    others_there pages b j k lj from to =
        let at = slot (lane_of ls j) k in
        let z = some in
        let here = slot_inside ls j no_lane k total (s.inside j no_lane lj) in
        let kept : Kept ls at = record { file = j; number = k; low = lj; from = from; to = to; at = refl } in
        ap (λ n. get_or (set pages top b) n []) (get_or-set_other table next at top 0 (fresh_slot ls f g apart low x j k lj from to))
        ∙ get_or-set_other pages top (get_or table at 0) b [] (λ e. s.distinct at (total + spare - 1) (inl kept, inr (omega arith, omega arith), (λ q. omega arith), e))
