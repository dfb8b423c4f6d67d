-- Numbers as bytes, the highest first.
use Rattle.std.specs.Prelude.{ℕ, zero, suc, ◌+◌, ◌*◌, ◌/◌, ◌%◌, ◌^◌, ◌<◌, List, [], ◌∷◌, take, drop, slice_index}

-- the k lowest bytes of a number
abbrev pub be : ℕ → ℕ → List ℕ
be zero n = []
be (suc k) n = (n / 256 ^ k % 256) ∷ be k n

-- the number that the k bytes from i on spell
abbrev pub be_at : ℕ → ℕ → List ℕ → ℕ
be_at zero i bs = 0
be_at (suc k) i bs = slice_index bs i * 256 ^ k + be_at k (i + 1) bs

-- the number that the k bytes from i on spell, as a part of the bytes
abbrev pub number_at : ℕ → ℕ → List ℕ → ℕ
number_at k i bs = be_at k 0 (take k (drop i bs))

-- every item is a byte
abbrev pub Bytes : List ℕ → Type 0
Bytes bs = (i : ℕ) → slice_index bs i < 256
