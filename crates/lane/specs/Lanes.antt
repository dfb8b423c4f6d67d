-- Eight lanes that lie one after the other.
use Rattle.std.specs.Prelude.{◌≡◌, ℕ, ◌+◌, ◌-◌, ◌%◌, ◌<◌, ◌≤◌, Bool, ◌||◌, List, length, ◌==◌, nat_le, nat_lt, slice_index, slice_index_or}
use Rattle.std.proofs.Common.{refl}
use Rattle.std.proofs.lemmas.Bool.{ltb-true, leb-true}
use Rattle.medium.specs.Model.{FileModel, count_of}
use Rattle.lane.specs.declared.lane.Lane.{Lane}

-- a lane of one slot, which stands in for one that is not there
abbrev pub no_lane : Lane
no_lane =
    record {
      base = 0;
      capacity = 1;
      first = 0;
      count = 0;
      synced = 0;
      some = ltb-true 0 1 refl;
      few = leb-true 1 4096 refl;
      low = leb-true 1 32768 refl;
      dropped = leb-true 0 0 refl;
      lasting = leb-true 0 0 refl;
      room = leb-true 0 1 refl;
      most = leb-true 0 16777215 refl;
    }

-- the lane of a file
abbrev pub lane_of : List Lane → ℕ → Lane
lane_of ls f = slice_index_or ls f no_lane

-- where a lane keeps the block of a number
abbrev pub slot : Lane → ℕ → ℕ
slot l n = l.base + n % l.capacity

-- no block can be added: every slot is in use, or numbers have run out
abbrev pub lane_full : Lane → Bool
lane_full l = l.count - l.first == l.capacity || l.count == 16777215

-- no block of this number is kept
abbrev pub lane_lacks : Lane → ℕ → Bool
lane_lacks l n = nat_lt n l.first || nat_le l.count n

-- the blocks below this number cannot be let go
abbrev pub lane_holds : Lane → ℕ → Bool
lane_holds l n = nat_lt n l.first || nat_lt l.synced n

-- what a lane says of its file
pub record Shows (x : FileModel) (l : Lane) : Type 0 where
  pub capacity : x.capacity ≡ l.capacity
  pub first : x.first ≡ l.first
  pub kept : length x.kept ≡ l.count - l.first
  pub count : count_of x ≡ l.count
  pub synced : x.synced ≡ l.synced

abbrev pub Apart : List Lane → Type 0
Apart ls = (i j : ℕ) (d : Lane) → (i < j) × (j < 8) → (slice_index_or ls i d).base + (slice_index_or ls i d).capacity ≤ (slice_index_or ls j d).base

-- all within n slots
abbrev pub Inside : List Lane → ℕ → Type 0
Inside ls n = (i : ℕ) (d : Lane) → i < 8 → (slice_index_or ls i d).base + (slice_index_or ls i d).capacity ≤ n

-- with these capacities
abbrev pub Sized : List Lane → List ℕ → Type 0
Sized ls cs = (i : ℕ) (d : Lane) → i < 8 → (slice_index_or ls i d).capacity ≡ slice_index cs i

-- with no block
abbrev pub Unused : List Lane → Type 0
Unused ls = (i : ℕ) (d : Lane) → i < 8 → (slice_index_or ls i d).count ≡ 0
