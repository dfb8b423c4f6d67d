-- Which commands some bytes hold.
use Rattle.std.specs.Prelude.{ℕ, zero, suc, ◌-◌, cond, List, [], ◌∷◌, length, ℤ, Some, None, Option, ◌==◌, nat_le, slice_index}
use Rattle.std.proofs.Common.{to_z}
use Rattle.std.specs.Int.{w64}
use Rattle.base.specs.Bytes.{number_at}
use Rattle.base.specs.declared.key.Key.{Key}
use Rattle.block.specs.declared.entry.Entry.{Entry}
use Rattle.block.specs.declared.entry.Entry.TheVariants.{Txn, Put, Del, Row, Gone}
use Rattle.block.specs.Format.{size_of}

abbrev pub key_at : ℕ → ℕ → List ℕ → Key
key_at kind code bs = record { kind = slice_index bs kind; code = number_at 16 code bs }

abbrev pub value_at : ℕ → List ℕ → ℤ
value_at i bs = to_z w64 (number_at 8 i bs)

-- a command, if all its bytes are there
abbrev pub whole : Entry → List ℕ → Option Entry
whole e bs = cond (nat_le (size_of e) (length bs)) (Some e) None

-- the command that the bytes begin with: none if the first byte is unknown, or some bytes are missing
abbrev pub first_entry : List ℕ → Option Entry
first_entry bs =
    cond (slice_index bs 0 == 1) (whole (Txn (number_at 8 1 bs)) bs)
    (cond (slice_index bs 0 == 2) (whole (Put (key_at 1 2 bs) (value_at 18 bs)) bs)
    (cond (slice_index bs 0 == 3) (whole (Del (key_at 1 2 bs)) bs)
    (cond (slice_index bs 0 == 4) (whole (Row (number_at 8 1 bs) (key_at 9 10 bs) (value_at 26 bs)) bs)
    (cond (slice_index bs 0 == 5) (whole (Gone (number_at 8 1 bs) (key_at 9 10 bs)) bs)
    None))))

abbrev pub and_then : Option Entry → (ℕ → List Entry) → List Entry
and_then None rest = []
and_then (Some e) rest = e ∷ rest (size_of e)

-- the commands one after the other, up to the end or to what is no command;
-- so many bytes of the command before are still to be passed
abbrev pub entries_behind : ℕ → List ℕ → List Entry
entries_behind skip [] = []
entries_behind (suc k) (b ∷ bs) = entries_behind k bs
entries_behind zero (b ∷ bs) = and_then (first_entry (b ∷ bs)) (λ n. entries_behind (n - 1) bs)

unfoldable pub entries : List ℕ → List Entry
entries bs = entries_behind 0 bs
