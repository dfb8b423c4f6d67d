use Rattle.std.proofs.Common.{Ok, Err, ap, ◌∙◌}
use Rattle.std.proofs.lemmas.Result.{err_from_is_err_and}
use Rattle.block.specs.Commands.{answered}
use Rattle.block.specs.Parsing.{entries}
use Rattle.block.proofs.Sealing.{back_from, only_from}
use Rattle.block.proofs.Verdicts.{at_header, at_sum, at_padding, at_commands, all_clean}
use Rattle.block.proofs.reader.read.Goals as goal

pub returns-in_err-n : goal.returns-in_err-n
returns-in_err-n c =
    let at = c.args.at in
    let bs = c.args.block.now in
    let p = err_from_is_err_and c.from_residual.result c.from_residual.ensures.1 in
    let is = ap answered p.1 ∙ ap (λ f. Err f) p.2 ∙ at_header at.file at.number c.args.marked 0 bs _ c.in_err-n.ensures.answer in
    record { answer = is; back = back_from at.file at.number c.args.marked bs _ is; only = only_from at.file at.number c.args.marked bs _ is c.told-block c.fits-block }

pub returns-in_err-check_sum : goal.returns-in_err-check_sum
returns-in_err-check_sum c =
    let at = c.args.at in
    let bs = c.args.block.now in
    let p = err_from_is_err_and c.from_residual-in_err-check_sum.result c.from_residual-in_err-check_sum.ensures.1 in
    let is = ap answered p.1 ∙ ap (λ f. Err f) p.2 ∙ at_sum at.file at.number c.args.marked c.in_ok-n.n bs _ c.in_ok-n.ensures.answer c.in_err-check_sum.ensures in
    record { answer = is; back = back_from at.file at.number c.args.marked bs _ is; only = only_from at.file at.number c.args.marked bs _ is c.told-block c.fits-block }

pub returns-in_err-check_padding : goal.returns-in_err-check_padding
returns-in_err-check_padding c =
    let at = c.args.at in
    let bs = c.args.block.now in
    let p = err_from_is_err_and c.from_residual-in_err-check_padding.result c.from_residual-in_err-check_padding.ensures.1 in
    let is = ap answered p.1 ∙ ap (λ f. Err f) p.2 ∙ at_padding at.file at.number c.args.marked c.in_ok-n.n bs _ c.in_ok-n.ensures.answer c.in_ok-check_sum.ensures c.in_err-check_padding.ensures in
    record { answer = is; back = back_from at.file at.number c.args.marked bs _ is; only = only_from at.file at.number c.args.marked bs _ is c.told-block c.fits-block }

pub returns-in_err-check_commands : goal.returns-in_err-check_commands
returns-in_err-check_commands c =
    let at = c.args.at in
    let bs = c.args.block.now in
    let p = err_from_is_err_and c.from_residual-in_err-check_commands.result c.from_residual-in_err-check_commands.ensures.1 in
    let is = ap answered p.1 ∙ ap (λ f. Err f) p.2 ∙ at_commands at.file at.number c.args.marked c.in_ok-n.n bs _ c.in_ok-n.ensures.answer c.in_ok-check_sum.ensures c.in_ok-check_padding.ensures c.in_err-check_commands.ensures in
    record { answer = is; back = back_from at.file at.number c.args.marked bs _ is; only = only_from at.file at.number c.args.marked bs _ is c.told-block c.fits-block }

pub returns : goal.returns
returns c =
    let at = c.args.at in
    let bs = c.args.block.now in
    let is = ap (λ l. Ok (entries l)) c.over.ensures.rest ∙ all_clean at.file at.number c.args.marked c.in_ok-n.n bs c.in_ok-n.ensures.answer c.in_ok-check_sum.ensures c.in_ok-check_padding.ensures c.in_ok-check_commands.ensures in
    record { answer = is; back = back_from at.file at.number c.args.marked bs _ is; only = only_from at.file at.number c.args.marked bs _ is c.told-block c.fits-block }
