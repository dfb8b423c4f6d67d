use Rattle.std.proofs.Common.{◌<◌, sym, refl, subst, arith}
use Rattle.medium.specs.Model.{file_of}
use Rattle.medium.specs.Sound.{Block, Sound}
use Rattle.medium.proofs.Keeps.{with_file_keeps, longer_keeps}
use Rattle.lane.specs.Laned.{meaning_of}
use Rattle.lane.proofs.Calls.{filled}
use Rattle.lane.proofs.laned.Laned.put.Goals as goal

pub invariant_of-self-clause-sound : goal.invariant_of-self-clause-sound
invariant_of-self-clause-sound g c =
    let self = c.args.self.now in
    let m = meaning_of self in
    let f = c.args.file.number in
    let b = c.args.block.now in
    let low : f < 8 = omega (arith, c.args.file.low) in
    let x = c.fill.ensures in
    let is = filled self.lanes.all c.fill.new.lanes.all (g.S.Slots.cell self.slots) (g.S.Slots.cell c.fill.new.self) self.mark f c.lane-lane.result _ self.lanes.eight low c.lane-lane.ensures.is x.lanes x.others b (record { base = refl; capacity = refl; first = refl; count = refl; synced = refl }) x.filled in
    let whole : Block b = record { long = c.told-block; bytes = c.fits-block } in
    subst Sound (sym is) (with_file_keeps m f _ low self.sound (longer_keeps (file_of m f) b c.requires (self.sound.files f low) whole))

pub returns-clause-after : goal.returns-clause-after
returns-clause-after g c =
    let self = c.args.self.now in
    let f = c.args.file.number in
    let x = c.fill.ensures in
    filled self.lanes.all c.fill.new.lanes.all (g.S.Slots.cell self.slots) (g.S.Slots.cell c.fill.new.self) self.mark f c.lane-lane.result _ self.lanes.eight (omega (arith, c.args.file.low)) c.lane-lane.ensures.is x.lanes x.others c.args.block.now (record { base = refl; capacity = refl; first = refl; count = refl; synced = refl }) x.filled
