use Rattle.std.proofs.Common.{sym, subst}
use Rattle.medium.specs.Sound.{Fresh, Sound}
use Rattle.lane.proofs.Fresh.{fresh_model, fresh_is, fresh_sound}
use Rattle.lane.proofs.laned.Laned.new.Goals as goal

pub invariant_of-result : goal.invariant_of-result
invariant_of-result g c =
    let p = c.args.plan in
    let is = fresh_model (g.S.Slots.cell c.args.slots) p.lanes.all _ p.capacities p.lanes.eight p.all p.sized p.unused c.zeros.ensures in
    record { serves = c.requires; sound = subst Sound (sym is) (fresh_sound p.lanes.all p.capacities p.lanes.eight p.all p.sized) }

pub returns : goal.returns
returns g c =
    let p = c.args.plan in
    let is = fresh_model (g.S.Slots.cell c.args.slots) p.lanes.all _ p.capacities p.lanes.eight p.all p.sized p.unused c.zeros.ensures in
    record { is = is; fresh = subst Fresh (sym is) (fresh_is p.capacities p.all) }
