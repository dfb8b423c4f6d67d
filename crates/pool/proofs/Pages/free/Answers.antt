use Rattle.std.proofs.Common.{◌≡◌, ◌+◌, ◌%◌, get_or, ◌∙◌, arith, length-set}
use Rattle.std.proofs.Math.Logic.{∥∥₁_elim, ∥∥₁_map}
use Rattle.std.specs.Coded.{le_prop}
use Rattle.lane.specs.Lanes.{lane_of, slot}
use Rattle.pool.proofs.Serving.{spare_room, freed_serves}
use Rattle.pool.proofs.Pages.free.Goals as goal

pub bounds-self-self : goal.bounds-self-self
bounds-self-self c =
    let self = c.args.self.now in
    let lanes = c.args.lanes.now in
    let x = c.requires.rest in
    ∥∥₁_elim c.requires.serves le_prop (λ s. omega (arith, spare_room lanes.all self.total self.spare self.table.now lanes.eight c.args.file.number (omega (arith, c.args.file.low)) s (omega (arith, x.from, x.to)), self.tabled))

pub invariant_of-self-clause-room : goal.invariant_of-self-clause-room
invariant_of-self-clause-room c =
    let self = c.args.self.now in
    let lanes = c.args.lanes.now in
    let x = c.requires.rest in
    ∥∥₁_elim c.requires.serves le_prop (λ s. omega (arith, spare_room lanes.all self.total self.spare self.table.now lanes.eight c.args.file.number (omega (arith, c.args.file.low)) s (omega (arith, x.from, x.to))))

pub invariant_of-self-clause-tabled : goal.invariant_of-self-clause-tabled
invariant_of-self-clause-tabled c =
    let self = c.args.self.now in
    omega (arith, length-set self.table.now (self.total + self.spare) (get_or self.table.now c.slot.result 0), self.tabled)

pub returns-clause-serves : goal.returns-clause-serves
returns-clause-serves c =
    let self = c.args.self.now in
    let lanes = c.args.lanes.now in
    let x = c.requires.rest in
    let at : c.slot.result ≡ slot (lane_of lanes.all c.args.file.number) c.args.number = c.slot.ensures ∙ (λ i. x.base i + c.args.number % x.capacity i) in
    rw (c.replace.ensures, at) (∥∥₁_map c.requires.serves (λ s. freed_serves lanes.all self.total self.spare self.table.now lanes.eight c.args.file.number (omega (arith, c.args.file.low)) s c.args.number c.args.rest lanes.apart self.tabled x))
