-- Changes one after another, changes in place, and lists that are made from a list.
use Rattle.std.proofs.Common.{◌≡◌, Bool, true, false, cond, List, [], ◌∷◌, map, Some, None, filter, Option, refl, arith}
use Rattle.std.specs.Option.{option_map}
use Rattle.std.proofs.lemmas.Bool.{false≢true}
use Rattle.std.proofs.lemmas.Grind.{common_steps}
use Rattle.base.specs.declared.key.Key.{Key}
use Rattle.table.specs.declared.record.Record.{Record}
use Rattle.table.specs.Order.{same_key, all_behind, sorted}
use Rattle.table.specs.Records.{look, has, put, take_out}
use Rattle.table.proofs.Keys.{same_key_refl, same_key_sym, same_key_true}
use Rattle.table.proofs.Looks.{look-put, look-take_out, look-behind, has-behind}
use Rattle.table.proofs.Shapes.{sorted-put, sorted-take_out, same_from_look, rest_behind}

-- the later of two records of one key stays
pub put-put_same : (r s : Record) (rs : List Record) → sorted rs ≡ true → r.key ≡ s.key → put r (put s rs) ≡ put r rs
put-put_same r s rs o e =
    same_from_look _ _ (sorted-put r (put s rs) (sorted-put s rs o)) (sorted-put r rs o) (λ k. grind (arith, common_steps, look-put))

-- changes of two keys may be made in either order
pub put-put_other : (r s : Record) (rs : List Record) → sorted rs ≡ true → same_key r.key s.key ≡ false → put r (put s rs) ≡ put s (put r rs)
put-put_other r s rs o d =
    same_from_look _ _ (sorted-put r (put s rs) (sorted-put s rs o)) (sorted-put s (put r rs) (sorted-put r rs o))
    (λ k. grind (arith, common_steps, look-put, same_key_true r.key k, same_key_true s.key k, same_key_refl, same_key_sym))

-- what is there already changes nothing
pub put-found : (r : Record) (rs : List Record) → sorted rs ≡ true → look r.key rs ≡ Some r → put r rs ≡ rs
put-found r rs o h = same_from_look _ _ (sorted-put r rs o) o (λ k. grind (arith, common_steps, look-put r k rs, same_key_true r.key k))

pub take_out-put : (r : Record) (rs : List Record) → sorted rs ≡ true → take_out r.key (put r rs) ≡ take_out r.key rs
take_out-put r rs o =
    same_from_look _ _ (sorted-take_out r.key (put r rs) (sorted-put r rs o)) (sorted-take_out r.key rs o)
    (λ k. grind (arith, common_steps, look-take_out r.key k (put r rs) (sorted-put r rs o), look-take_out r.key k rs o, look-put r k rs))

-- a change in place: a record of a key that is there gets other contents, and the keys stay
pub keys_put : (r : Record) (rs : List Record) → sorted rs ≡ true → has r.key rs ≡ true → map (λ (x : Record). x.key) (put r rs) ≡ map (λ (x : Record). x.key) rs
unfolding put has
keys_put r [] o h = absurd (false≢true h)
keys_put r (s ∷ ss) o h = grind (arith, common_steps, same_key_true s.key r.key, has-behind r.key ss, rest_behind r.key s ss, keys_put r ss)

-- a change of every record that keeps the keys
module _ (f : Record → Record) (keeps : (r : Record) → (f r).key ≡ r.key) where
  behind_map : (k : Key) (rs : List Record) → all_behind k (map f rs) ≡ all_behind k rs
  unfolding all_behind
  behind_map k [] = refl
  behind_map k (r ∷ rs) = grind (arith, common_steps, keeps r, behind_map k rs)

  pub sorted_map : (rs : List Record) → sorted (map f rs) ≡ sorted rs
  sorted_map [] = refl
  sorted_map (r ∷ rs) = grind (arith, common_steps, keeps r, behind_map r.key rs, sorted_map rs)

  pub look_map : (k : Key) (rs : List Record) → look k (map f rs) ≡ option_map f (look k rs)
  unfolding look
  look_map k [] = refl
  look_map k (r ∷ rs) = grind (arith, common_steps, keeps r, look_map k rs)

-- the records that pass a test
module _ (p : Record → Bool) where
  behind_kept : (k : Key) (rs : List Record) → all_behind k rs ≡ true → all_behind k (filter p rs) ≡ true
  unfolding all_behind
  behind_kept k [] h = h
  behind_kept k (r ∷ rs) h = grind (arith, common_steps, behind_kept k rs)

  pub sorted_kept : (rs : List Record) → sorted rs ≡ true → sorted (filter p rs) ≡ true
  sorted_kept [] o = o
  sorted_kept (r ∷ rs) o = grind (arith, common_steps, behind_kept r.key rs, sorted_kept rs)

  abbrev pub if_kept : Option Record → Option Record
  if_kept None = None
  if_kept (Some r) = cond (p r) (Some r) None

  pub look_kept : (k : Key) (rs : List Record) → sorted rs ≡ true → look k (filter p rs) ≡ if_kept (look k rs)
  unfolding look
  look_kept k [] o = refl
  look_kept k (r ∷ rs) o = grind (arith, common_steps, same_key_true r.key k, look-behind r.key (filter p rs), behind_kept r.key rs, look_kept k rs)
