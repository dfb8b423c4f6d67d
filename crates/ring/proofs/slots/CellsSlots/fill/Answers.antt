use Rattle.std.proofs.Common.{◌-◌, ◌<◌, [], set, length, ap, ◌∙◌, sym, arith, get_or-set_same, get_or-set_other, mod-lt}
use Rattle.std.proofs.Math.Logic.{∥∥₁_elim}
use Rattle.std.specs.Coded.{le_prop}
use Rattle.base.specs.Files.{index_of}
use Rattle.lane.specs.Lanes.{no_lane}
use Rattle.lane.proofs.Kept.{fresh_slot}
use Rattle.ring.specs.Cells.{cell_of}
use Rattle.ring.proofs.slots.CellsSlots.fill.Goals as goal

pub returns-clause-filled : goal.returns-clause-filled
returns-clause-filled c =
    let cells = c.args.self.now.cells.now in
    let g = c.args.longer in
    let x = c.requires.longer in
    let inside : c.slot.result < length cells = ∥∥₁_elim c.requires.serves le_prop (λ inside. omega (arith, c.slot.ensures, inside (index_of c.args.file) no_lane (omega (arith, c.args.file.low)), x.base, x.capacity, mod-lt (g.count - 1) g.some)) in
    ap (cell_of (set cells c.slot.result c.args.block.now)) (sym c.slot.ensures) ∙ get_or-set_same cells c.slot.result c.args.block.now [] inside

pub returns-clause-others : goal.returns-clause-others
returns-clause-others c j k lj a z =
    get_or-set_other c.args.self.now.cells.now c.slot.result _ c.args.block.now [] (λ q. fresh_slot c.args.lanes.now.all (index_of c.args.file) c.args.longer c.args.lanes.now.apart (omega (arith, c.args.file.low)) c.requires.longer j k lj a z (q ∙ c.slot.ensures))
