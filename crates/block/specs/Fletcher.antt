-- Fletcher-16: two sums modulo 255, both from 0. Each byte is added to the first, and the first to the second.
use Rattle.std.specs.Prelude.{ℕ, ◌+◌, ◌*◌, ◌%◌, List, fold}

pub record Sums : Type 0 where
  pub low : ℕ
  pub high : ℕ

abbrev pub add_byte : Sums → ℕ → Sums
add_byte s b = record { low = (s.low + b) % 255; high = (s.high + (s.low + b) % 255) % 255 }

abbrev pub no_bytes : Sums
no_bytes = record { low = 0; high = 0 }

unfoldable pub sums : List ℕ → Sums
sums bs = fold add_byte no_bytes bs

-- the second sum first
unfoldable pub fletcher16 : List ℕ → ℕ
fletcher16 bs = (sums bs).high * 256 + (sums bs).low
