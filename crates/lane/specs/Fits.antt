-- Which capacities fit into how much memory.
use Rattle.std.specs.Prelude.{ℕ, Bool, ◌&&◌, List, sum, nat_le}
use Rattle.std.specs.List.{list_all}

abbrev pub fits : ℕ → Bool
fits c = nat_le 1 c && nat_le c 4096

-- each capacity is 1 to 4,096
abbrev pub each_fits : List ℕ → Bool
each_fits cs = list_all fits cs

abbrev pub plan_fits : List ℕ → ℕ → Bool
plan_fits cs room = each_fits cs && nat_le (sum cs) room
