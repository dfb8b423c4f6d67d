use Rattle.std.proofs.Common.{◌<◌, ◌≤◌, sym, refl, subst, arith}
use Rattle.std.proofs.lemmas.Grind.{common_steps}
use Rattle.medium.specs.Model.{file_of}
use Rattle.medium.specs.Sound.{Sound}
use Rattle.medium.proofs.Keeps.{with_file_keeps, retired_keeps}
use Rattle.lane.specs.Laned.{meaning_of}
use Rattle.lane.proofs.Calls.{released}
use Rattle.lane.proofs.laned.Laned.release.Goals as goal

pub invariant_of-self-clause-sound : goal.invariant_of-self-clause-sound
invariant_of-self-clause-sound g c =
    let self = c.args.self.now in
    let m = meaning_of self in
    let f = c.args.file.number in
    let n = c.args.number in
    let l = c.lane-lane.result in
    let said = c.lane-lane.ensures.shows in
    let from : l.first ≤ n = grind (arith, common_steps, said.first, c.requires) in
    let to : n ≤ l.count = grind (arith, common_steps, said.synced, c.requires, l.lasting) in
    let low : f < 8 = omega (arith, c.args.file.low) in
    let x = c.narrow.ensures in
    let is = released self.lanes.all c.narrow.new.lanes.all (g.S.Slots.cell self.slots) (g.S.Slots.cell c.narrow.new.self) self.mark f l _ self.lanes.eight low c.lane-lane.ensures.is x.lanes x.others n (record { base = refl; capacity = refl }) refl refl refl from to in
    subst Sound (sym is) (with_file_keeps m f _ low self.sound (retired_keeps (file_of m f) n c.requires (self.sound.files f low)))

pub returns : goal.returns
returns g c =
    let self = c.args.self.now in
    let f = c.args.file.number in
    let n = c.args.number in
    let l = c.lane-lane.result in
    let said = c.lane-lane.ensures.shows in
    let from : l.first ≤ n = grind (arith, common_steps, said.first, c.requires) in
    let to : n ≤ l.count = grind (arith, common_steps, said.synced, c.requires, l.lasting) in
    let x = c.narrow.ensures in
    released self.lanes.all c.narrow.new.lanes.all (g.S.Slots.cell self.slots) (g.S.Slots.cell c.narrow.new.self) self.mark f l _ self.lanes.eight (omega (arith, c.args.file.low)) c.lane-lane.ensures.is x.lanes x.others n (record { base = refl; capacity = refl }) refl refl refl from to
