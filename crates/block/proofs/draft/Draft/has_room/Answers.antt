use Rattle.std.proofs.Common.{arith}
use Rattle.std.proofs.lemmas.Bool.{leb-true}
use Rattle.block.specs.Drafts.{written}
use Rattle.block.specs.Fitting.{room}
use Rattle.block.proofs.Fills.{goes_in}
use Rattle.block.proofs.Laying.{length-written}
use Rattle.block.proofs.draft.Draft.has_room.Goals as goal

pub returns-clause-fills : goal.returns-clause-fills
returns-clause-fills c =
    let self = c.args.self.now in
    λ t es h. goes_in room (written self) es (omega (arith, length-written self.bytes self.used self.whole self.room, self.room, leb-true c.args.more c.left.result t, c.left.ensures))
