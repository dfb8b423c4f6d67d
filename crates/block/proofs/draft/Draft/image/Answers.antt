use Rattle.std.proofs.Common.{refl, ◌∙◌}
use Rattle.block.proofs.Laying.{headed, sealed_from}
use Rattle.block.proofs.draft.Draft.image.Goals as goal

pub returns : goal.returns
returns c =
    let self = c.args.self.now in
    let start = headed self.bytes self.used c.args.at.file c.args.at.number self.whole self.room self.clear _ (c.copy_from_slice.ensures.after ∙ c.head.ensures) in
    sealed_from self.bytes self.used c.args.at.file c.args.at.number self.whole self.room self.clear _ _ _ start refl (c.copy_from_slice-2.ensures.after ∙ c.sum_bytes-sum.ensures)
