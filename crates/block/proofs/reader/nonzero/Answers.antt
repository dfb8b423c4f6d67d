use Rattle.std.proofs.Common.{◌+◌, not, eqb, sym, ◌∙◌, ap, rules, tests}
use Rattle.std.specs.Option.{option_map}
use Rattle.std.proofs.lemmas.Iterator.{YieldsList-from_slice}
use Rattle.std.proofs.lemmas.Iterator.Search.{position_from_yields_List}
use Rattle.block.proofs.Checking.{nonzero_from}
use Rattle.block.proofs.reader.nonzero.Goals as goal

pub returns-in_err-i : goal.returns-in_err-i
returns-in_err-i c =
    let is = position_from_yields_List (λ b. not (eqb b 0)) _ _ c.position.result c.position.ensures.ran (YieldsList-from_slice c.args.padding.now cc) (λ x b q k. search (rules, tests)) in
    c.from_residual.ensures ∙ ap (option_map (λ i. c.args.at + i)) (sym c.in_err-i.was) ∙ nonzero_from c.args.at c.args.padding.now c.position.result is

pub returns : goal.returns
returns c =
    let is = position_from_yields_List (λ b. not (eqb b 0)) _ _ c.position.result c.position.ensures.ran (YieldsList-from_slice c.args.padding.now cc) (λ x b q k. search (rules, tests)) in
    ap (option_map (λ i. c.args.at + i)) (sym c.in_ok-i.was) ∙ nonzero_from c.args.at c.args.padding.now c.position.result is
