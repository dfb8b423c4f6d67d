use Rattle.std.proofs.Common.{◌≡◌, fold}
use Rattle.std.specs.Slice.Iter.{chunks_rest, chunks_size}
use Rattle.block.specs.Fletcher.{Sums, add_byte, no_bytes}
use Rattle.block.proofs.fletcher.fletcher16.Given as goal

-- what is left gives the whole
abbrev pub invariant-loop-run : goal.invariant-loop-run
invariant-loop-run l = (chunks_size l.run-iterator ≡ 4096) × (◌≡◌ {A = Sums} (fold add_byte l.sums (chunks_rest l.run-iterator)) (fold add_byte no_bytes l.bytes))
