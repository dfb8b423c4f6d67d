-- What contracts see of a table, and what they say of it.
use Rattle.std.specs.Prelude.{◌≡◌, ◌≤◌, Bool, true, cond, ◌||◌, List, length, Ok, Err, Result, nat_lt}
use Rattle.base.specs.declared.key.Key.{Key}
use Rattle.base.specs.declared.refusal.Refusal.{Refusal}
use Rattle.base.specs.declared.refusal.Refusal.TheVariants.{TableFull}
use Rattle.table.specs.declared.record.Record.{Record}
use Rattle.table.specs.Order.{sorted, most_records}
use Rattle.table.specs.Records.{has, put}

-- a table as contracts see it: its records in their order, no key twice
pub record SortedRecords : Type 0 where
  pub records : List Record
  pub ordered : sorted records ≡ true
  pub few : length records ≤ most_records

-- a key that is there has room, a new one only below the most that fit
abbrev pub room_for : Key → List Record → Bool
room_for k rs = has k rs || nat_lt (length rs) most_records

abbrev pub put_answer : Record → List Record → Result (Unit {0}) Refusal
put_answer r rs = cond (room_for r.key rs) (Ok tt) (Err TableFull)

abbrev pub put_after : Record → List Record → List Record
put_after r rs = cond (room_for r.key rs) (put r rs) rs
