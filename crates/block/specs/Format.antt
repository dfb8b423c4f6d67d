-- The layout of a block: a header of 8 bytes, command bytes, zeros up to byte 509, and the sum of all before it.
use Rattle.std.specs.Prelude.{ℕ, ◌-◌, List, ◌∷◌, ◌++◌, length, replicate, ℤ}
use Rattle.std.proofs.Common.{of_z}
use Rattle.std.specs.Int.{w64}
use Rattle.std.specs.List.{flat_map}
use Rattle.base.specs.Bytes.{be}
use Rattle.base.specs.declared.key.Key.{Key}
use Rattle.block.specs.declared.entry.Entry.{Entry}
use Rattle.block.specs.declared.entry.Entry.TheVariants.{Txn, Put, Del, Row, Gone}
use Rattle.block.specs.Fletcher.{fletcher16}

abbrev pub key_bytes : Key → List ℕ
key_bytes k = k.kind ∷ be 16 k.code

-- seconds in two's complement
abbrev pub value_bytes : ℤ → List ℕ
value_bytes v = be 8 (of_z w64 v)

abbrev pub bytes_of : Entry → List ℕ
bytes_of (Txn tid) = 1 ∷ be 8 tid
bytes_of (Put key value) = 2 ∷ (key_bytes key ++ value_bytes value)
bytes_of (Del key) = 3 ∷ key_bytes key
bytes_of (Row tid key value) = 4 ∷ (be 8 tid ++ (key_bytes key ++ value_bytes value))
bytes_of (Gone tid key) = 5 ∷ (be 8 tid ++ key_bytes key)

abbrev pub size_of : Entry → ℕ
size_of (Txn tid) = 9
size_of (Put key value) = 26
size_of (Del key) = 18
size_of (Row tid key value) = 34
size_of (Gone tid key) = 26

-- the command bytes of a block
abbrev pub content : List Entry → List ℕ
content es = flat_map bytes_of es

-- tag, file number, number of command bytes, block number
abbrev pub header : ℕ → ℕ → ℕ → List ℕ
header file n number = 0x42 ∷ (file ∷ (be 2 n ++ be 4 number))

-- all that the sum goes over, padding included
abbrev pub summed : ℕ → ℕ → List ℕ → List ℕ
summed file number cs = header file (length cs) number ++ (cs ++ replicate (502 - length cs) 0)

unfoldable pub sealed : ℕ → ℕ → List ℕ → List ℕ
sealed file number cs = summed file number cs ++ be 2 (fletcher16 (summed file number cs))

-- the block of some commands
abbrev pub block_of : ℕ → ℕ → List Entry → List ℕ
block_of file number es = sealed file number (content es)
