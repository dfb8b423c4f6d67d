-- The limits that contracts speak of.
use Rattle.std.specs.Prelude.{ℕ, Bool, ◌&&◌, ℤ, pos, negsuc, int_le, nat_le}

abbrev pub last_epoch : ℕ
last_epoch = 1000000

-- a value is whole seconds from -1,000,000,000 to 1,000,000,000
abbrev pub value_fits : ℤ → Bool
value_fits v = int_le (negsuc 999999999) v && int_le v (pos 1000000000)

abbrev pub epoch_fits : ℕ → Bool
epoch_fits e = nat_le 1 e && nat_le e last_epoch
