-- Versions may be replayed in any order: the largest TID of each key stays.
use Rattle.std.proofs.Common.{◌≡◌, true, cond, nat_lt, List, Option, Some, None, arith}
use Rattle.base.specs.declared.key.Key.{Key}
use Rattle.table.specs.Order.{same_key, sorted}
use Rattle.table.specs.Records.{look}
use Rattle.table.specs.declared.record.Record.{Record}
use Rattle.table.proofs.Keys.{same_key_true}
use Rattle.table.proofs.Looks.{look-put}
use Rattle.table.proofs.Shapes.{sorted-put, same_from_look}
use Rattle.rules.specs.State.{tid_in}
use Rattle.rules.specs.Recovery.{Version, offered}
use Rattle.rules.specs.Laws.{EitherOrder, OnlyLargerReplaces}

pub only_larger_replaces : OnlyLargerReplaces
only_larger_replaces v t h = grind arith

abbrev record_of : Version → Record
record_of v = record { key = v.key; tid = v.tid; value = v.cell; holder = None }

-- a version against what is there
abbrev newer : Version → Option Record → Option Record
newer v o = cond (nat_lt (tid_in o) v.tid) (Some (record_of v)) o

pub look-offered : (v : Version) (k : Key) (t : List Record) → look k (offered v t) ≡ cond (same_key v.key k) (newer v (look k t)) (look k t)
look-offered v k t = grind (arith, look-put, same_key_true v.key k)

pub sorted-offered : (v : Version) (t : List Record) → sorted t ≡ true → sorted (offered v t) ≡ true
sorted-offered v t h = grind (arith, sorted-put)

pub either_order : EitherOrder
either_order u v t h same =
    same_from_look _ _ (sorted-offered u (offered v t) (sorted-offered v t h)) (sorted-offered v (offered u t) (sorted-offered u t h))
    (λ k. grind (arith, look-put, same_key_true u.key k, same_key_true v.key k))
