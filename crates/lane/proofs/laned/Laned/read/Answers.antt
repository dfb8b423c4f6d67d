use Rattle.std.proofs.Common.{◌<◌, ◌≤◌, ◌∙◌, length, refl, arith}
use Rattle.std.proofs.lemmas.Grind.{common_steps}
use Rattle.lane.specs.Lanes.{lane_of}
use Rattle.lane.proofs.Calls.{shows, block_is}
use Rattle.lane.proofs.laned.Laned.read.Goals as goal

pub returns : goal.returns
returns g c =
    let self = c.args.self.now in
    let cell = g.S.Slots.cell self.slots in
    let ls = self.lanes.all in
    let f = c.args.file.number in
    let n = c.args.number in
    let l = lane_of ls f in
    let there : f < length ls = omega (arith, self.lanes.eight, c.args.file.low) in
    let said = shows cell ls self.mark f l there refl in
    let from : l.first ≤ n = grind (arith, common_steps, said.first, c.requires) in
    let to : n < l.count = grind (arith, common_steps, said.count, c.requires) in
    c.read.ensures ∙ block_is cell ls self.mark f l there refl n c.args.into.now from to

pub read-requires-clause-kept : goal.read-requires-clause-kept
read-requires-clause-kept g c =
    let self = c.args.self.now in
    let ls = self.lanes.all in
    let f = c.args.file.number in
    let there : f < length ls = omega (arith, self.lanes.eight, c.args.file.low) in
    let said = shows (g.S.Slots.cell self.slots) ls self.mark f (lane_of ls f) there refl in
    grind (arith, common_steps, said.first, said.count, c.requires)
