use Rattle.std.proofs.Common.{◌≡◌, ◌+◌, ◌≤◌, length, take, drop}
use Rattle.std.specs.Prelude.{All}
use Rattle.block.specs.Checks.{start}
use Rattle.block.specs.Laws.{Coded}
use Rattle.block.specs.Drafts.{written}
use Rattle.block.specs.Format.{content}
use Rattle.block.specs.Writing.{unwritable}
use Rattle.block.proofs.writer.write.write_block.Given as goal

-- the draft holds the commands so far, and those to come decide as all do
abbrev pub invariant-loop-what : goal.invariant-loop-what
invariant-loop-what l =
    (written l.draft ≡ content (take l.what-index l.entries))
    × (l.way.at ≡ 8 + length (written l.draft))
    × (length (written l.draft) ≤ 502)
    × (unwritable l.at.file l.at.number l.way (drop l.what-index l.entries) ≡ unwritable l.at.file l.at.number start l.entries)
    × All Coded (take l.what-index l.entries)
