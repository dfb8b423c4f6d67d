-- Pages by number: a table says which page stands in each slot, and behind the slots which pages are free.
use Rattle.std.specs.Prelude.{◌≡◌, ℕ, ◌+◌, ◌-◌, ◌<◌, ◌≤◌, ◌≢◌, ◌⊎◌, List, [], sum_by, slice_index, slice_index_or}
use Rattle.medium.specs.declared.mark.Mark.{Mark}
use Rattle.medium.specs.Model.{MediumModel}
use Rattle.lane.specs.declared.lane.Lane.{Lane}
use Rattle.lane.specs.Lanes.{lane_of, slot, Inside}
use Rattle.lane.specs.Meaning.{model_of}

abbrev pub page_of : List (List ℕ) → List ℕ → ℕ → List ℕ
page_of pages table s = slice_index_or pages (slice_index table s) []

abbrev pub pool_model : List (List ℕ) → List ℕ → List Lane → Mark → MediumModel
pool_model pages table ls k = model_of (page_of pages table) ls k

-- how many pages the lanes use
abbrev pub used : List Lane → ℕ
used ls = sum_by (λ (l : Lane). l.count - l.first) ls

-- a slot that holds a kept block
pub record Kept (ls : List Lane) (s : ℕ) : Type 0 where
  pub file : ℕ
  pub number : ℕ
  pub low : file < 8
  pub from : (lane_of ls file).first ≤ number
  pub to : number < (lane_of ls file).count
  pub at : s ≡ slot (lane_of ls file) number

-- a place of the table that owns a page: such a slot, or a place of the free ones
abbrev pub Owns : List Lane → ℕ → ℕ → ℕ → Type 0
Owns ls total spare s = Kept ls s ⊎ ((total ≤ s) × (s < total + spare))

-- no page has two owners
abbrev pub Distinct : List Lane → ℕ → ℕ → List ℕ → Type 0
Distinct ls total spare table = (s t : ℕ) → Owns ls total spare s × Owns ls total spare t × (s ≢ t) × (slice_index table s ≡ slice_index table t) → ⊥

-- every owned page is one of the pool's
abbrev pub Ranged : List Lane → ℕ → ℕ → List ℕ → Type 0
Ranged ls total spare table = (s : ℕ) → Owns ls total spare s → slice_index table s < total

-- what the pages keep true while they hold the blocks of these lanes
pub record Serves (ls : List Lane) (total spare : ℕ) (table : List ℕ) : Type 0 where
  pub inside : Inside ls total
  pub counted : spare + used ls ≡ total
  pub distinct : Distinct ls total spare table
  pub ranged : Ranged ls total spare table

-- a lane without one number, which was its first or its last
pub record Frees (l g : Lane) (number : ℕ) : Type 0 where
  pub base : g.base ≡ l.base
  pub capacity : g.capacity ≡ l.capacity
  pub from : l.first ≤ number
  pub to : number < l.count
  pub low : l.first ≤ g.first
  pub high : g.count ≤ l.count
  pub out : (k : ℕ) → g.first ≤ k → k < g.count → k ≢ number
  pub fewer : g.count - g.first + 1 ≡ l.count - l.first

-- the same page in each slot
abbrev pub SameBelow : ℕ → List ℕ → List ℕ → Type 0
SameBelow total old new = (s : ℕ) → s < total → slice_index new s ≡ slice_index old s

-- each place behind the slots has the number of a page of its own
abbrev pub Numbered : ℕ → List ℕ → Type 0
Numbered total table = (i : ℕ) → i < total → slice_index table (total + i) ≡ i
