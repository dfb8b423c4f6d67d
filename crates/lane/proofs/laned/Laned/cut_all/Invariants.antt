use Rattle.std.proofs.Common.{◌≡◌, length}
use Rattle.medium.specs.Cuts.{cut_files}
use Rattle.lane.specs.Laned.{meaning_of}
use Rattle.lane.proofs.Cutting.{so_far}
use Rattle.lane.proofs.laned.Laned.cut_all.Given as goal

-- what is cut, and what is left to cut, give the whole
abbrev pub invariant-loop-file : goal.invariant-loop-file
invariant-loop-file g l =
    record {
      mark : (meaning_of l.self).mark ≡ (meaning_of l.fn.self).mark;
      files : so_far (meaning_of l.self).files l.shown (length l.yielded) l.rest ≡ cut_files (meaning_of l.fn.self).files l.shown l.tails;
    }
