use Rattle.std.proofs.Common.{◌≡◌, ◌+◌, ◌*◌, ◌%◌, ◌≤◌, take, fold}
use Rattle.block.specs.Fletcher.{Sums, add_byte}
use Rattle.block.proofs.fletcher.Sums.add_run.Given as goal

-- both sums are right but for multiples of 255, and small enough to go on
abbrev pub invariant-loop-b : goal.invariant-loop-b
invariant-loop-b l = (l.low ≤ 254 + 255 * l.b-index) × (l.high ≤ 254 + 1044734 * l.b-index) × (◌≡◌ {A = Sums} (record { low = l.low % 255; high = l.high % 255 }) (fold add_byte (record { low = l.initial.low; high = l.initial.high }) (take l.b-index l.run)))
