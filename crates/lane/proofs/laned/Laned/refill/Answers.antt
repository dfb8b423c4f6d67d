use Rattle.std.proofs.Common.{◌<◌, length, ap, ◌∙◌, refl, arith}
use Rattle.std.proofs.lemmas.List.{take_all}
use Rattle.medium.specs.Model.{file_of, with_file}
use Rattle.medium.specs.Cuts.{extended}
use Rattle.lane.specs.Laned.{meaning_of}
use Rattle.lane.proofs.Tails.{none_added, still_room, one_added}
use Rattle.lane.proofs.laned.Laned.refill.Goals as goal

pub loop-block-init : goal.loop-block-init
loop-block-init g c = none_added (meaning_of c.args.self.now) c.args.file.number

pub put-requires : goal.put-requires
put-requires g c =
    let m = meaning_of c.args.self.now in
    let lt : c.args.file.number < length m.files = omega (arith, c.args.self.now.sound.eight, c.args.file.low) in
    still_room m (meaning_of c.loop-block.self) c.args.file.number c.loop-block.block-index c.args.tail.now lt c.loop-block.invariant (omega arith) (length c.args.tail.now) (omega arith) c.requires.room c.requires.numbers

pub loop-block-preserved : goal.loop-block-preserved
loop-block-preserved g c =
    let m = meaning_of c.args.self.now in
    let lt : c.args.file.number < length m.files = omega (arith, c.args.self.now.sound.eight, c.args.file.low) in
    one_added m (meaning_of c.loop-block.self) c.args.file.number c.loop-block.block-index c.args.tail.now lt c.loop-block.invariant (omega arith) (meaning_of c.put.new.self) _ refl c.put.ensures.after

pub returns : goal.returns
returns g c =
    let m = meaning_of c.args.self.now in
    let f = c.args.file.number in
    c.loop-block.invariant ∙ ap (λ t. with_file m f (extended (file_of m f) t)) (take_all c.loop-block.block-index c.args.tail.now (omega arith))
