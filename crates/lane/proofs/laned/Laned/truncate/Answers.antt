use Rattle.std.proofs.Common.{◌-◌, ◌<◌, sym, refl, subst, arith}
use Rattle.medium.specs.Model.{file_of}
use Rattle.medium.specs.Sound.{Sound}
use Rattle.medium.proofs.Keeps.{with_file_keeps, trimmed_keeps}
use Rattle.lane.specs.Laned.{meaning_of}
use Rattle.lane.proofs.Calls.{shortened}
use Rattle.lane.proofs.laned.Laned.truncate.Goals as goal

pub invariant_of-self-clause-sound : goal.invariant_of-self-clause-sound
invariant_of-self-clause-sound g c =
    let self = c.args.self.now in
    let m = meaning_of self in
    let f = c.args.file.number in
    let n = (file_of m f).synced - (file_of m f).first in
    let l = c.lane-lane.result in
    let said = c.lane-lane.ensures.shows in
    let low : f < 8 = omega (arith, c.args.file.low) in
    let x = c.narrow.ensures in
    let is = shortened self.lanes.all c.narrow.new.lanes.all (g.S.Slots.cell self.slots) (g.S.Slots.cell c.narrow.new.self) self.mark f l _ self.lanes.eight low c.lane-lane.ensures.is x.lanes x.others n (record { base = refl; capacity = refl }) refl (omega arith) refl (omega (arith, said.synced, said.first, l.dropped, l.lasting)) in
    let was = self.sound.files f low in
    subst Sound (sym is) (with_file_keeps m f _ low self.sound (trimmed_keeps (file_of m f) n (omega (arith, was.lasting, was.dropped)) (omega (arith, was.dropped)) was))

pub returns-clause-after : goal.returns-clause-after
returns-clause-after g c =
    let self = c.args.self.now in
    let f = c.args.file.number in
    let n = (file_of (meaning_of self) f).synced - (file_of (meaning_of self) f).first in
    let l = c.lane-lane.result in
    let said = c.lane-lane.ensures.shows in
    let x = c.narrow.ensures in
    shortened self.lanes.all c.narrow.new.lanes.all (g.S.Slots.cell self.slots) (g.S.Slots.cell c.narrow.new.self) self.mark f l _ self.lanes.eight (omega (arith, c.args.file.low)) c.lane-lane.ensures.is x.lanes x.others n (record { base = refl; capacity = refl }) refl (omega arith) refl (omega (arith, said.synced, said.first, l.dropped, l.lasting))
