use Rattle.std.proofs.Common.{◌≡◌}
use Rattle.block.specs.Checks.{walk, start}
use Rattle.block.specs.Commands.{pending, place}
use Rattle.block.specs.Parsing.{entries}
use Rattle.block.proofs.reader.check_commands.Given as goal

-- the commands that are left give what all give, and the way is where they begin
abbrev pub invariant-loop-command : goal.invariant-loop-command
invariant-loop-command l = record {
  walked : walk l.at.file l.at.number l.marked l.way (pending l.command-iterator) ≡ walk l.at.file l.at.number l.marked start (entries l.bytes);
  at : l.way.at ≡ place l.command-iterator;
}
