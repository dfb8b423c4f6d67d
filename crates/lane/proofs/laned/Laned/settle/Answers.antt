use Rattle.std.proofs.Common.{◌<◌, sym, refl, subst, arith}
use Rattle.medium.specs.Model.{file_of}
use Rattle.medium.specs.Sound.{Sound}
use Rattle.medium.proofs.Keeps.{with_file_keeps, synced_keeps}
use Rattle.lane.specs.Laned.{meaning_of}
use Rattle.lane.proofs.Calls.{settled}
use Rattle.lane.proofs.laned.Laned.settle.Goals as goal

pub invariant_of-self-clause-sound : goal.invariant_of-self-clause-sound
invariant_of-self-clause-sound g c =
    let self = c.args.self.now in
    let m = meaning_of self in
    let f = c.args.file.number in
    let low : f < 8 = omega (arith, c.args.file.low) in
    let x = c.narrow.ensures in
    let is = settled self.lanes.all c.narrow.new.lanes.all (g.S.Slots.cell self.slots) (g.S.Slots.cell c.narrow.new.self) self.mark f c.lane-lane.result _ self.lanes.eight low c.lane-lane.ensures.is x.lanes x.others (record { base = refl; capacity = refl }) refl refl refl in
    subst Sound (sym is) (with_file_keeps m f _ low self.sound (synced_keeps (file_of m f) (self.sound.files f low)))

pub returns-clause-after : goal.returns-clause-after
returns-clause-after g c =
    let self = c.args.self.now in
    let f = c.args.file.number in
    let x = c.narrow.ensures in
    settled self.lanes.all c.narrow.new.lanes.all (g.S.Slots.cell self.slots) (g.S.Slots.cell c.narrow.new.self) self.mark f c.lane-lane.result _ self.lanes.eight (omega (arith, c.args.file.low)) c.lane-lane.ensures.is x.lanes x.others (record { base = refl; capacity = refl }) refl refl refl
