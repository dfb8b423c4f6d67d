use Rattle.std.proofs.Common.{[], ◌∷◌, ◌∙◌}
use Rattle.base.specs.Bytes.{be}
use Rattle.block.specs.Drafts.{written}
use Rattle.block.proofs.Laying.{joins, be_same}
use Rattle.block.proofs.draft.Draft.append_key.Goals as goal

pub returns-clause-bytes : goal.returns-clause-bytes
returns-clause-bytes c = joins (written c.args.self.now) (c.args.key.kind ∷ []) (be 16 c.args.key.code) c.append.ensures.bytes c.append-2.ensures.bytes (c.to_be_bytes.ensures ∙ be_same 16 c.args.key.code)
