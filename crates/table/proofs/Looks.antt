-- What a look-up finds, before and after a change.
use Rattle.std.proofs.Common.{◌≡◌, true, false, cond, not, ◌&&◌, ◌||◌, List, [], ◌∷◌, is_some, Some, None, refl, arith}
use Rattle.std.proofs.lemmas.Bool.{and_parts}
use Rattle.std.proofs.lemmas.Grind.{common_steps}
use Rattle.std.proofs.lemmas.Option.{none-some}
use Rattle.base.specs.declared.key.Key.{Key}
use Rattle.table.specs.declared.record.Record.{Record}
use Rattle.table.specs.Order.{before, same_key, all_behind, sorted}
use Rattle.table.specs.Records.{look, has, put, take_out}
use Rattle.table.proofs.Keys.{same_key_refl, same_key_sym, same_key_true, before_trans, before_apart}

pub sorted_head : (r : Record) (rs : List Record) → sorted (r ∷ rs) ≡ true → all_behind r.key rs ≡ true
sorted_head r rs h = (and_parts _ _ h).0

pub sorted_tail : (r : Record) (rs : List Record) → sorted (r ∷ rs) ≡ true → sorted rs ≡ true
sorted_tail r rs h = (and_parts _ _ h).1

-- what lies behind a key lies behind every key before it
pub all_behind-before : (j k : Key) (rs : List Record) → before j k ≡ true → all_behind k rs ≡ true → all_behind j rs ≡ true
unfolding all_behind
all_behind-before j k [] b h = refl
all_behind-before j k (r ∷ rs) b h = grind (arith, common_steps, before_trans, all_behind-before j k rs b)

pub look-behind : (k : Key) (rs : List Record) → all_behind k rs ≡ true → look k rs ≡ None
unfolding all_behind look
look-behind k [] h = refl
look-behind k (r ∷ rs) h = grind (arith, common_steps, same_key_sym, before_apart, look-behind k rs)

pub look-put_same : (r : Record) (rs : List Record) → look r.key (put r rs) ≡ Some r
unfolding look put
look-put_same r [] = simp same_key_refl
look-put_same r (s ∷ ss) = grind (arith, common_steps, same_key_refl, look-put_same r ss)

pub look-put_other : (r : Record) (k : Key) (rs : List Record) → same_key r.key k ≡ false → look k (put r rs) ≡ look k rs
unfolding look put
look-put_other r k [] d = simp d
look-put_other r k (s ∷ ss) d = grind (arith, common_steps, same_key_true s.key r.key, look-put_other r k ss d)

pub look-take_out_same : (k : Key) (rs : List Record) → sorted rs ≡ true → look k (take_out k rs) ≡ None
unfolding look take_out
look-take_out_same k [] h = refl
look-take_out_same k (r ∷ rs) h = grind (arith, common_steps, same_key_true r.key k, look-behind r.key rs, look-take_out_same k rs)

pub look-take_out_other : (j k : Key) (rs : List Record) → same_key j k ≡ false → look k (take_out j rs) ≡ look k rs
unfolding look take_out
look-take_out_other j k [] d = refl
look-take_out_other j k (r ∷ rs) d = grind (arith, common_steps, same_key_true r.key j, look-take_out_other j k rs d)

-- one equation for both cases of a changed key
pub look-put : (r : Record) (k : Key) (rs : List Record) → look k (put r rs) ≡ cond (same_key r.key k) (Some r) (look k rs)
look-put r k rs = grind (arith, common_steps, same_key_true r.key k, look-put_same r rs, look-put_other r k rs)

pub look-take_out : (j k : Key) (rs : List Record) → sorted rs ≡ true → look k (take_out j rs) ≡ cond (same_key j k) None (look k rs)
look-take_out j k rs o = grind (arith, common_steps, same_key_true j k, look-take_out_same j rs o, look-take_out_other j k rs)

-- has and look agree
pub has-look : (k : Key) (rs : List Record) → has k rs ≡ is_some (look k rs)
unfolding has look
has-look k [] = refl
has-look k (r ∷ rs) = grind (arith, common_steps, has-look k rs)

pub has_from_look : (k : Key) (rs : List Record) (r : Record) → look k rs ≡ Some r → has k rs ≡ true
has_from_look k rs r h = grind (arith, common_steps, has-look)

pub has_not_from_look : (k : Key) (rs : List Record) → look k rs ≡ None → has k rs ≡ false
has_not_from_look k rs h = grind (arith, common_steps, has-look)

pub look_missing : (k : Key) (rs : List Record) → has k rs ≡ false → look k rs ≡ None
look_missing k rs h = grind (arith, common_steps, has-look k rs)

pub look-found : (k : Key) (rs : List Record) → has k rs ≡ true → (r : Record) × (look k rs ≡ Some r)
look-found k rs h = grind (arith, common_steps, has-look k rs)

-- what is found under a key has that key
pub look-key : (k : Key) (rs : List Record) (r : Record) → look k rs ≡ Some r → r.key ≡ k
unfolding look
look-key k [] r h = absurd (none-some r h)
look-key k (s ∷ ss) r h = grind (arith, common_steps, same_key_true s.key k, look-key k ss r)

pub has-behind : (k : Key) (rs : List Record) → all_behind k rs ≡ true → has k rs ≡ false
has-behind k rs h = has_not_from_look k rs (look-behind k rs h)

pub has-put : (r : Record) (k : Key) (rs : List Record) → has k (put r rs) ≡ (same_key r.key k || has k rs)
has-put r k rs = grind (arith, common_steps, has-look k (put r rs), has-look k rs, look-put r k rs)

pub has-take_out : (j k : Key) (rs : List Record) → sorted rs ≡ true → has k (take_out j rs) ≡ (not (same_key j k) && has k rs)
has-take_out j k rs h = grind (arith, common_steps, has-look k (take_out j rs), has-look k rs, look-take_out j k rs h)

-- nothing is in the empty list
pub look-nil : (k : Key) → look k [] ≡ None
unfolding look
look-nil k = refl

pub has-nil : (k : Key) → has k [] ≡ false
unfolding has
has-nil k = refl

pub look-cons : (k : Key) (r : Record) (rs : List Record) → look k (r ∷ rs) ≡ cond (same_key r.key k) (Some r) (look k rs)
unfolding look
look-cons k r rs = refl
