-- Where a key stands in a sorted list, or would be put: what each call makes of that place.
use Rattle.std.specs.Prelude.{◌≡◌, ℕ, ◌+◌, ◌<◌, ◌≤◌, true, false, List, length, Some, None, Result, Ok, Err, slice_index_or, slice_set}
use Rattle.std.specs.List.{slice_get, insert, remove}
use Rattle.base.specs.declared.key.Key.{Key}
use Rattle.table.specs.declared.record.Record.{Record}
use Rattle.table.specs.Order.{sorted}
use Rattle.table.specs.Records.{look, has, put, take_out, next_behind}

pub record Stands (k : Key) (rs : List Record) (i : ℕ) : Type 0 where
  pub below : i < length rs
  pub there : has k rs ≡ true
  pub found : (r : Record) → r ≡ slice_index_or rs i r → Some r ≡ look k rs
  pub next : slice_get rs (i + 1) ≡ next_behind (Some k) rs
  pub replaced : (r : Record) → r.key ≡ k → slice_set rs i r ≡ put r rs
  pub taken : remove rs i ≡ take_out k rs
  pub still_replaced : (r : Record) → r.key ≡ k → sorted (slice_set rs i r) ≡ true
  pub still_taken : sorted (remove rs i) ≡ true

pub record Lacks (k : Key) (rs : List Record) (i : ℕ) : Type 0 where
  pub upto : i ≤ length rs
  pub absent : has k rs ≡ false
  pub missing : None ≡ look k rs
  pub next : slice_get rs i ≡ next_behind (Some k) rs
  pub added : (r : Record) → r.key ≡ k → insert rs i r ≡ put r rs
  pub same : rs ≡ take_out k rs
  pub still_added : (r : Record) → r.key ≡ k → sorted (insert rs i r) ≡ true

-- where a search ends: at the key's own place, or at the place where it would be put
abbrev pub Placed : Key → List Record → Result ℕ ℕ → Type 0
Placed k rs (Ok i) = Stands k rs i
Placed k rs (Err i) = Lacks k rs i
