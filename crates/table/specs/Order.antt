-- The order of records: by the kind of their keys, then by the code.
use Rattle.std.specs.Prelude.{ℕ, Bool, true, ◌&&◌, ◌||◌, List, [], ◌∷◌, Some, None, Option, ◌==◌, nat_lt}
use Rattle.base.specs.declared.key.Key.{Key}
use Rattle.table.specs.declared.record.Record.{Record}

-- a table holds at most so many records
abbrev pub most_records : ℕ
most_records = 256

unfoldable pub before : Key → Key → Bool
before j k = nat_lt j.kind k.kind || (j.kind == k.kind && nat_lt j.code k.code)

unfoldable pub same_key : Key → Key → Bool
same_key j k = j.kind == k.kind && j.code == k.code

-- whether a key comes behind a place of a walk: the key reached last, or none yet
unfoldable pub behind : Option Key → Key → Bool
behind None k = true
behind (Some j) k = before j k

-- whether every record's key comes behind k
unfoldable pub all_behind : Key → List Record → Bool
all_behind k [] = true
all_behind k (r ∷ rs) = before k r.key && all_behind k rs

-- whether keys grow strictly from record to record
abbrev pub sorted : List Record → Bool
sorted [] = true
sorted (r ∷ rs) = all_behind r.key rs && sorted rs
