use Rattle.std.proofs.Common.{◌≡◌, take}
use Rattle.medium.specs.Model.{file_of, with_file}
use Rattle.medium.specs.Cuts.{extended}
use Rattle.lane.specs.Laned.{meaning_of}
use Rattle.lane.proofs.laned.Laned.refill.Given as goal

-- so far as many blocks are added
abbrev pub invariant-loop-block : goal.invariant-loop-block
invariant-loop-block g l = meaning_of l.self ≡ with_file (meaning_of l.initial.self) l.file.number (extended (file_of (meaning_of l.initial.self) l.file.number) (take l.block-index l.tail))
