-- What fits into a block, over the number of command bytes that it has room for.
use Rattle.std.specs.Prelude.{ℕ, ◌+◌, ◌*◌, Bool, cond, ◌==◌, nat_le}

-- command bytes of a block
abbrev pub room : ℕ
room = 502

abbrev pub fits : ℕ → ℕ → ℕ → Bool
fits r used more = nat_le (used + more) r

-- the command bytes of a transaction with so many writes and erases
abbrev pub needed : ℕ → ℕ → ℕ
needed writes erases = cond (writes + erases == 0) 0 (9 + 26 * writes + 18 * erases)
