use Rattle.std.proofs.Common.{◌≡◌, ◌+◌, ◌-◌, length, arith, rules}
use Rattle.block.proofs.Laying.{laid_whole, laid_clear, laid_bytes}
use Rattle.block.proofs.draft.Draft.append.Goals as goal

pub invariant_of-self : goal.invariant_of-self
invariant_of-self g c =
    let self = c.args.self.now in
    let part = c.args.part.now in
    let size : length part ≡ g.row.N = search rules in
    let span : 8 + self.used + g.row.N - (8 + self.used) ≡ g.row.N = omega arith in
    let is = c.copy_from_slice.ensures.after in
    record { room = c.requires; whole = laid_whole self.bytes _ part self.used _ g.row.N self.whole size c.requires is span; clear = laid_clear self.bytes _ part self.used _ g.row.N self.whole size c.requires is span self.clear }

pub returns-clause-bytes : goal.returns-clause-bytes
returns-clause-bytes g c =
    let self = c.args.self.now in
    let part = c.args.part.now in
    let size : length part ≡ g.row.N = search rules in
    let span : 8 + self.used + g.row.N - (8 + self.used) ≡ g.row.N = omega arith in
    let is = c.copy_from_slice.ensures.after in
    laid_bytes self.bytes _ part self.used _ g.row.N self.whole size c.requires is span
