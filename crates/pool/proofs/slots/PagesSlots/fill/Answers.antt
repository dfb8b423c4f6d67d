use Rattle.std.proofs.Common.{arith}
use Rattle.std.proofs.Math.Logic.{∥∥₁_elim, ∥∥₁_map}
use Rattle.std.proofs.Props.{props}
use Rattle.std.specs.Coded.{le_prop}
use Rattle.pool.proofs.Serving.{some, top_low, next_low, filled_serves, block_there, others_there}
use Rattle.pool.proofs.slots.PagesSlots.fill.Goals as goal

pub bounds-self-page : goal.bounds-self-page
bounds-self-page c =
    let self = c.args.self.now in
    let lanes = c.args.lanes.now in
    ∥∥₁_elim c.requires.serves le_prop (λ s. omega (arith, top_low lanes.all self.total self.spare self.table.now lanes.eight c.args.file.number (omega (arith, c.args.file.low)) s c.args.longer lanes.apart c.requires.longer, self.paged))

pub bounds-self-slot : goal.bounds-self-slot
bounds-self-slot c =
    let self = c.args.self.now in
    let lanes = c.args.lanes.now in
    ∥∥₁_elim c.requires.serves le_prop (λ s. omega (arith, next_low lanes.all self.total self.spare self.table.now lanes.eight c.args.file.number (omega (arith, c.args.file.low)) s c.args.longer lanes.apart c.requires.longer, self.tabled, c.slot.ensures))

pub overflow_sub-self : goal.overflow_sub-self
overflow_sub-self c =
    let self = c.args.self.now in
    let lanes = c.args.lanes.now in
    ∥∥₁_elim c.requires.serves le_prop (λ s. some lanes.all self.total self.spare self.table.now lanes.eight c.args.file.number (omega (arith, c.args.file.low)) s c.args.longer lanes.apart c.requires.longer)

pub returns-clause-serves : goal.returns-clause-serves
returns-clause-serves c =
    let self = c.args.self.now in
    let lanes = c.args.lanes.now in
    rw (c.replace.ensures, c.slot.ensures) (∥∥₁_map c.requires.serves (λ s. filled_serves lanes.all self.total self.spare self.table.now lanes.eight c.args.file.number (omega (arith, c.args.file.low)) s c.args.longer lanes.apart c.requires.longer self.tabled))

pub returns-clause-filled : goal.returns-clause-filled
returns-clause-filled c =
    let self = c.args.self.now in
    let lanes = c.args.lanes.now in
    rw c.slot.ensures (∥∥₁_elim c.requires.serves (search props) (λ s. block_there lanes.all self.total self.spare self.table.now lanes.eight c.args.file.number (omega (arith, c.args.file.low)) s c.args.longer lanes.apart c.requires.longer self.tabled self.pages.now c.args.block.now self.paged))

pub returns-clause-others : goal.returns-clause-others
returns-clause-others c j k lj from to =
    let self = c.args.self.now in
    let lanes = c.args.lanes.now in
    rw c.slot.ensures (∥∥₁_elim c.requires.serves (search props) (λ s. others_there lanes.all self.total self.spare self.table.now lanes.eight c.args.file.number (omega (arith, c.args.file.low)) s c.args.longer lanes.apart c.requires.longer self.pages.now c.args.block.now j k lj from to))
