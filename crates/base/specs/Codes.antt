-- Codes of keys: 16 bytes, held as the number that they spell.
use Rattle.std.specs.Prelude.{ℕ, ◌-◌, Bool, true, cond, not, ◌&&◌, List, [], ◌∷◌, ◌++◌, length, replicate, ◌==◌, nat_le}
use Rattle.base.specs.Bytes.{be_at}

abbrev pub no_zero : List ℕ → Bool
no_zero [] = true
no_zero (b ∷ bs) = not (b == 0) && no_zero bs

-- a text that may name a group: 1 to 16 bytes, none of them zero
abbrev pub group_text : List ℕ → Bool
group_text bs = nat_le 1 (length bs) && nat_le (length bs) 16 && no_zero bs

-- what stands in front of the first zero
abbrev pub before_zero : List ℕ → List ℕ
before_zero [] = []
before_zero (b ∷ bs) = cond (b == 0) [] (b ∷ before_zero bs)

-- a text filled up with zeros to 16 bytes
abbrev pub padded : List ℕ → List ℕ
padded bs = bs ++ replicate (16 - length bs) 0

-- the code of a group: its padded text
abbrev pub group_code : List ℕ → ℕ
group_code bs = be_at 16 0 (padded bs)
