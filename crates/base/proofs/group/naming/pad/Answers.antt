use Rattle.std.proofs.Common.{◌≡◌, ◌-◌, ◌++◌, length, drop, replicate, ap, ◌∙◌, arith}
use Rattle.std.proofs.lemmas.List.{drop-replicate}
use Rattle.base.proofs.group.naming.pad.Goals as goal

pub returns-clause-text : goal.returns-clause-text
returns-clause-text c =
    let n = length c.args.text.now in
    let e : n - 0 ≡ n = omega arith in
    λ i. c.copy_from_slice.ensures.after i ++ (ap (λ k. drop k (replicate 16 0)) e ∙ drop-replicate n 16 0) i
