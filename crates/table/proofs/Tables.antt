-- What a put answers and leaves.
use Rattle.std.proofs.Common.{◌≡◌, ◌<◌, ◌≤◌, true, false, List, length, is_ok, arith}
use Rattle.std.proofs.lemmas.Bool.Decides.{nat_tests}
use Rattle.std.proofs.lemmas.Grind.{common_steps}
use Rattle.base.specs.declared.key.Key.{Key}
use Rattle.table.specs.declared.record.Record.{Record}
use Rattle.table.specs.Order.{sorted, most_records}
use Rattle.table.specs.Records.{has, put}
use Rattle.table.specs.View.{room_for, put_answer, put_after}
use Rattle.table.proofs.Shapes.{sorted-put, length-put-has, length-put_new}

pub sorted-put_after : (r : Record) (rs : List Record) → sorted rs ≡ true → sorted (put_after r rs) ≡ true
sorted-put_after r rs o = grind (arith, common_steps, sorted-put r rs o)

pub few_put_after : (r : Record) (rs : List Record) → sorted rs ≡ true → length rs ≤ most_records → length (put_after r rs) ≤ most_records
few_put_after r rs o l = grind (arith, common_steps, nat_tests, length-put-has r rs o, length-put_new r rs)

-- a put says yes exactly if there is room, and changes the table only then
pub put_is_ok : (r : Record) (rs : List Record) → is_ok (put_answer r rs) ≡ room_for r.key rs
put_is_ok r rs = grind (arith, common_steps)

pub put_yes : (r : Record) (rs : List Record) → is_ok (put_answer r rs) ≡ true → put_after r rs ≡ put r rs
put_yes r rs h = grind (arith, common_steps)

pub put_no : (r : Record) (rs : List Record) → is_ok (put_answer r rs) ≡ false → put_after r rs ≡ rs
put_no r rs h = grind (arith, common_steps)

pub room-has : (k : Key) (rs : List Record) → has k rs ≡ true → room_for k rs ≡ true
room-has k rs h = grind (arith, common_steps)

pub room_below : (k : Key) (rs : List Record) → length rs < most_records → room_for k rs ≡ true
room_below k rs l = grind (arith, common_steps, nat_tests)

pub no_room : (k : Key) (rs : List Record) → room_for k rs ≡ false → (has k rs ≡ false) × (most_records ≤ length rs)
no_room k rs h = grind (arith, common_steps, nat_tests)
