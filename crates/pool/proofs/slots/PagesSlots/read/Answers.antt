use Rattle.std.proofs.Common.{◌<◌, ◌≤◌, get_or, ap, arith}
use Rattle.std.proofs.lemmas.Grind.{common_steps}
use Rattle.std.proofs.Math.Logic.{∥∥₁_elim}
use Rattle.std.specs.Coded.{le_prop}
use Rattle.lane.specs.Lanes.{lane_of, slot}
use Rattle.pool.proofs.Serving.{page_low}
use Rattle.pool.proofs.slots.PagesSlots.read.Goals as goal

pub bounds-self-page : goal.bounds-self-page
bounds-self-page c =
    let self = c.args.self.now in
    let ls = c.args.lanes.now.all in
    let f = c.args.file.number in
    let n = c.args.number in
    let from : (lane_of ls f).first ≤ n = grind (arith, common_steps, c.requires.kept) in
    let to : n < (lane_of ls f).count = grind (arith, common_steps, c.requires.kept) in
    ∥∥₁_elim c.requires.serves le_prop (λ s. omega (arith, page_low ls self.total self.spare self.table.now c.args.lanes.now.eight f (omega (arith, c.args.file.low)) s n from to, self.paged, ap (λ a. get_or self.table.now a 0) c.slot.ensures, ap (λ l. get_or self.table.now (slot l n) 0) c.of.ensures))
