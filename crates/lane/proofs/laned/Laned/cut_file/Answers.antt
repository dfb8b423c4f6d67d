use Rattle.std.proofs.Common.{◌≡◌, min, length, take, ap, ◌∙◌, arith}
use Rattle.std.proofs.lemmas.List.{take_min}
use Rattle.medium.specs.Model.{file_of, with_file}
use Rattle.medium.specs.Cuts.{unsynced, cut_file}
use Rattle.lane.specs.Laned.{meaning_of}
use Rattle.lane.proofs.Cutting.{cut_one}
use Rattle.lane.proofs.laned.Laned.cut_file.Goals as goal

pub returns : goal.returns
returns g c =
    let self = c.args.self.now in
    let m = meaning_of self in
    let f = c.args.file.number in
    let x = file_of m f in
    let tails = c.args.tails.now in
    let many : c.min-many.result ≡ min (min c.args.shown (unsynced x)) (length tails) = omega (arith, c.min-many.ensures, c.min.ensures, c.truncate-lost.ensures.number) in
    let tail : take c.min-many.result tails ≡ take (min c.args.shown (unsynced x)) tails = ap (λ k. take k tails) many ∙ take_min (min c.args.shown (unsynced x)) tails in
    cut_one m (meaning_of c.truncate-lost.new.self) (meaning_of c.refill.new.self) (meaning_of c.settle.new.self) f (take c.min-many.result tails) (omega (arith, c.args.file.low)) self.sound c.truncate-lost.ensures.after c.refill.ensures c.settle.ensures.after
    ∙ ap (λ t. with_file m f (cut_file x t)) tail
