use Rattle.std.proofs.Common.{◌≡◌, ◌+◌, ◌-◌, ◌<◌, ◌≤◌, [], length, get_or, sym, ap, ◌∙◌, arith}
use Rattle.std.proofs.lemmas.Bool.{ltb-false}
use Rattle.medium.specs.Model.{file_of, count_of}
use Rattle.medium.specs.Steps.{fetch_into}
use Rattle.mediumdemo.proofs.Totals.{was_told, fetched, one_more, all_done}
use Rattle.mediumdemo.proofs.tally.tally.Goals as goal

pub loop-n-preserved : goal.loop-n-preserved
loop-n-preserved g c =
    let m = g.M.Medium.meaning c.args.m.now in
    let f = c.args.file in
    let n = c.loop-n.n in
    let inv = c.loop-n.invariant in
    let a = was_told m f c.in_ok-first.first (λ x. x.first) c.in_ok-first.ensures.answer in
    let b = was_told m f c.in_ok-count.count count_of c.in_ok-count.ensures.answer in
    let low : c.in_ok-first.first ≤ n = omega arith in
    let start = c.in_ok-first.first in
    let bs = (file_of m f).kept in
    let got = c.in_ok-fetch.ensures.after in
    let block : fetch_into m f n c.loop-n.block ≡ get_or bs (n - start) [] = fetched m f n c.loop-n.block a.0 (omega (arith, a.1)) (omega (arith, b.1)) ∙ ap (λ k. get_or bs (n - k) []) (sym a.1) in
    let within : n - start < length bs = omega (arith, a.1, b.1) in
    let files : f < 8 = omega (arith, ltb-false 7 f a.0) in
    let byte = (((g.met.M.Medium.sound c.args.m.now).files f files).whole (n - start) within).bytes 0 in
    record {
      small = omega (arith, ap (λ x. get_or x 0 0) (got ∙ block), byte, inv.small);
      long = c.type_inv.block;
      sum = one_more bs (n - start) (n + 1 - start) c.loop-n.sum c.fetch.new.into within (omega arith) (got ∙ block) inv.sum;
    }

pub returns : goal.returns
returns g c =
    let m = g.M.Medium.meaning c.args.m.now in
    let f = c.args.file in
    let a = was_told m f c.in_ok-first.first (λ x. x.first) c.in_ok-first.ensures.answer in
    let b = was_told m f c.in_ok-count.count count_of c.in_ok-count.ensures.answer in
    all_done m f (c.loop-n.n - c.in_ok-first.first) c.loop-n.sum a.0 (omega (arith, a.1, b.1)) c.loop-n.invariant.sum
