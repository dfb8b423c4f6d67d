use Rattle.std.proofs.Common.{arith}
use Rattle.lane.proofs.Calls.{shows}
use Rattle.lane.proofs.laned.Laned.lane.Goals as goal

pub returns-clause-shows : goal.returns-clause-shows
returns-clause-shows g c =
    let self = c.args.self.now in
    shows (g.S.Slots.cell self.slots) self.lanes.all self.mark c.args.file.number c.of.result (omega (arith, self.lanes.eight, c.args.file.low)) c.of.ensures
