use Rattle.std.proofs.Common.{◌≡◌, ◌∙◌, ◌-◌, List, ℕ, length, true, sym, ap, rules}
use Rattle.std.proofs.lemmas.Bool.{and_parts}
use Rattle.base.specs.Codes.{before_zero, group_text, padded}
use Rattle.base.specs.Padding.{text_back}
use Rattle.base.proofs.group.naming.GroupTryFromRefSliceU8.try_from.Goals as goal

-- the padded text gives the text back
back : (xs bs : List ℕ) → group_text xs ≡ true → bs ≡ padded xs → before_zero bs ≡ xs
back xs bs named e = ap before_zero e ∙ text_back xs (16 - length xs) (and_parts _ _ named).1

pub invariant_of-result-clause-named : goal.invariant_of-result-clause-named
invariant_of-result-clause-named c =
    let named = sym c.is_name.ensures ∙ c.if-not-is_name.false in
    ap group_text (back c.args.text.now c.pad-bytes.result named c.pad-bytes.ensures.text) ∙ named

pub invariant_of-result-clause-filled : goal.invariant_of-result-clause-filled
invariant_of-result-clause-filled c =
    let named = sym c.is_name.ensures ∙ c.if-not-is_name.false in
    ap padded (back c.args.text.now c.pad-bytes.result named c.pad-bytes.ensures.text) ∙ sym c.pad-bytes.ensures.text

pub returns : goal.returns
returns c =
    let named : group_text c.args.text.now ≡ true = sym c.is_name.ensures ∙ c.if-not-is_name.false in
    let whole = back c.args.text.now c.pad-bytes.result named c.pad-bytes.ensures.text in
    search rules
