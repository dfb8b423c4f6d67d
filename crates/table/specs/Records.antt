-- What a sorted list of records holds, and how it changes.
use Rattle.std.specs.Prelude.{Bool, false, cond, ◌||◌, List, [], ◌∷◌, Some, None, Option}
use Rattle.base.specs.declared.key.Key.{Key}
use Rattle.table.specs.declared.record.Record.{Record}
use Rattle.table.specs.Order.{before, same_key, behind}

-- the record of a key
unfoldable pub look : Key → List Record → Option Record
look k [] = None
look k (r ∷ rs) = cond (same_key r.key k) (Some r) (look k rs)

unfoldable pub has : Key → List Record → Bool
has k [] = false
has k (r ∷ rs) = same_key r.key k || has k rs

-- in place of the record with its key, or at its place in the order
unfoldable pub put : Record → List Record → List Record
put r [] = r ∷ []
put r (s ∷ ss) = cond (same_key s.key r.key) (r ∷ ss) (cond (before r.key s.key) (r ∷ s ∷ ss) (s ∷ put r ss))

unfoldable pub take_out : Key → List Record → List Record
take_out k [] = []
take_out k (r ∷ rs) = cond (same_key r.key k) rs (r ∷ take_out k rs)

-- the first record behind a key, or the first of all
unfoldable pub next_behind : Option Key → List Record → Option Record
next_behind o [] = None
next_behind o (r ∷ rs) = cond (behind o r.key) (Some r) (next_behind o rs)

-- the records that a walk has still before it
unfoldable pub still_behind : Option Key → List Record → List Record
still_behind o [] = []
still_behind o (r ∷ rs) = cond (behind o r.key) (r ∷ still_behind o rs) (still_behind o rs)
