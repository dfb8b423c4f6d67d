use Rattle.std.proofs.Common.{◌≡◌, ◌-◌, ◌*◌, ◌≤◌, length, take}
use Rattle.medium.specs.Model.{file_of}
use Rattle.mediumdemo.specs.Tally.{total}
use Rattle.mediumdemo.proofs.tally.tally.Given as goal

-- so far the first bytes of the blocks so far
abbrev pub invariant-loop-n : goal.invariant-loop-n
invariant-loop-n g l =
    record {
      small : l.sum ≤ 255 * (l.n - l.initial.first);
      long : length l.block ≡ 512;
      sum : l.sum ≡ total (take (l.n - l.initial.first) (file_of (g.M.Medium.meaning l.m) l.file).kept);
    }
