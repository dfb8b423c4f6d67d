-- Blocks that were changed behind the writer's back.
use Rattle.std.specs.Prelude.{ℕ, ◌/◌, ◌%◌, List, take, slice_set}
use Rattle.block.specs.Fletcher.{fletcher16}

-- the same bytes with the sum that they should have, its high byte first
abbrev pub resealed : List ℕ → List ℕ
resealed bs = slice_set (slice_set bs 510 (fletcher16 (take 510 bs) / 256)) 511 (fletcher16 (take 510 bs) % 256)
