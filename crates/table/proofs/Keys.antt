-- The laws of the order on keys.
use Rattle.std.proofs.Common.{◌≡◌, ◌≤◌, Bool, true, false, Ordering, arith}
use Rattle.std.specs.Ordering.{nat_cmp, ordering_then, ordering_index, MatchOrdering, is_lt}
use Rattle.std.proofs.lemmas.Bool.Decides.{nat_tests}
use Rattle.std.proofs.lemmas.Bool.{cases_Bool}
use Rattle.std.proofs.lemmas.Grind.{common_steps}
use Rattle.base.specs.declared.key.Key.{Key}
use Rattle.table.specs.Order.{before, same_key}

pub same_key_refl : (k : Key) → same_key k k ≡ true
unfolding same_key
same_key_refl k = grind (arith, nat_tests)

pub same_key_sym : (j k : Key) → same_key j k ≡ same_key k j
unfolding same_key
same_key_sym j k = grind (arith, nat_tests)

pub same_key_true : (j k : Key) → same_key j k ≡ true → j ≡ k
unfolding same_key
same_key_true j k e = grind (arith, nat_tests)

pub same_key_false : (j k : Key) → (j ≡ k → ⊥) → same_key j k ≡ false
same_key_false j k ne = grind (arith, common_steps, same_key_true)

pub before_irrefl : (k : Key) → before k k ≡ false
unfolding before
before_irrefl k = grind (arith, nat_tests)

pub before_trans : (i j k : Key) → before i j ≡ true → before j k ≡ true → before i k ≡ true
unfolding before
before_trans i j k p q = grind (arith, nat_tests)

pub before_asym : (j k : Key) → before j k ≡ true → before k j ≡ false
unfolding before
before_asym j k p = grind (arith, nat_tests)

pub before_apart : (j k : Key) → before j k ≡ true → same_key j k ≡ false
unfolding before same_key
before_apart j k p = grind (arith, nat_tests)

-- of two keys that differ, one comes before the other
pub before_other : (j k : Key) → before j k ≡ false → same_key j k ≡ false → before k j ≡ true
unfolding before same_key
before_other j k p q = grind (arith, nat_tests)

-- where one key stands to another, with all that this tells
pub data Way (j k : Key) : Type 0 where
  ahead : before j k ≡ true → same_key j k ≡ false → before k j ≡ false → Way j k
  here : j ≡ k → same_key j k ≡ true → before j k ≡ false → before k j ≡ false → Way j k
  past : before j k ≡ false → same_key j k ≡ false → before k j ≡ true → Way j k

pub ways : (j k : Key) → Way j k
ways j k = grind (arith, same_key_true, before_irrefl, before_asym, before_other, ahead, here, past, cases_Bool)

-- the order that `Key` derives
abbrev pub key_cmp : Key → Key → Ordering
key_cmp j k = ordering_then (nat_cmp j.kind k.kind) (nat_cmp j.code k.code)

-- it tells which of two keys comes before the other
pub key_ranks : (j k : Key) (r : Ordering) → r ≡ key_cmp j k → MatchOrdering r (before j k ≡ true) (j ≡ k) (before k j ≡ true)
unfolding before
key_ranks j k r e = grind (arith, nat_tests)

-- and rises with the key on its left
pub key_cmp_rises : (i j k : Key) → before i j ≡ true → ordering_index (key_cmp i k) ≤ ordering_index (key_cmp j k)
unfolding before
key_cmp_rises i j k b = grind (arith, nat_tests)

-- its test for less is `before`
pub key_lt : (j k : Key) (r : Bool) → r ≡ is_lt (key_cmp j k) → r ≡ before j k
unfolding before
key_lt j k r e = grind (arith, nat_tests)
