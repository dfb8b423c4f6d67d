use Rattle.std.proofs.Common.{arith}
use Rattle.std.proofs.lemmas.Grind.{common_steps}
use Rattle.pool.proofs.Serving.{fresh_serves}
use Rattle.pool.proofs.make.make_pool.Goals as goal

pub new-requires : goal.new-requires
new-requires c = let p = c.args.plan in ∣ fresh_serves p.lanes.all p.total _ p.lanes.eight p.inside p.unused (λ i lt. let here = c.number_pages.ensures i in let same = c.number_pages.auto.spares in let long = c.requires.tabled in grind (arith, common_steps)) ∣₁
