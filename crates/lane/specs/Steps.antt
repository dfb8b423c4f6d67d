-- How a lane changes, and what then stands in the slots.
use Rattle.std.specs.Prelude.{◌≡◌, ℕ, ◌+◌, ◌<◌, ◌≤◌, List}
use Rattle.lane.specs.declared.lane.Lane.{Lane}
use Rattle.lane.specs.Lanes.{lane_of, slot}

-- the same slots
pub record SamePlace (l g : Lane) : Type 0 where
  pub base : g.base ≡ l.base
  pub capacity : g.capacity ≡ l.capacity

-- one block more, under the next number
pub record Grows (l g : Lane) : Type 0 where
  pub base : g.base ≡ l.base
  pub capacity : g.capacity ≡ l.capacity
  pub first : g.first ≡ l.first
  pub count : g.count ≡ l.count + 1
  pub synced : g.synced ≡ l.synced

-- no other blocks than before: synced ones may go at the front, and unsynced ones at the back
pub record Narrows (l g : Lane) : Type 0 where
  pub base : g.base ≡ l.base
  pub capacity : g.capacity ≡ l.capacity
  pub first : l.first ≤ g.first
  pub dropped : g.first ≤ l.synced
  pub lasting : l.synced ≤ g.count
  pub count : g.count ≤ l.count

-- the same block in each slot that these lanes use
abbrev pub Stays : List Lane → (ℕ → List ℕ) → (ℕ → List ℕ) → Type 0
Stays ls old new = (j k : ℕ) → j < 8 → (lane_of ls j).first ≤ k → k < (lane_of ls j).count → new (slot (lane_of ls j) k) ≡ old (slot (lane_of ls j) k)
