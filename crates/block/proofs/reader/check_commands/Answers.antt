use Rattle.std.proofs.Common.{rules, arith, ◌≡◌, Some, None}
use Rattle.std.proofs.lemmas.Result.{err_from_is_err_and}
use Rattle.block.specs.Checks.{walk}
use Rattle.block.proofs.Verdicts.{found, clean}
use Rattle.block.proofs.reader.check_commands.Goals as goal

pub returns-in_err-check_entry : goal.returns-in_err-check_entry
unfolding walk
returns-in_err-check_entry c =
    let wrong = found tt _ _ c.in_err-check_entry.ensures.answer in
    let i = c.loop-command.invariant.walked in
    grind (arith, rules)

pub loop-command-preserved : goal.loop-command-preserved
unfolding walk
loop-command-preserved c =
    let right = clean tt tt _ c.in_ok-check_entry.ensures.answer in
    let i = c.loop-command.invariant.walked in
    search rules
