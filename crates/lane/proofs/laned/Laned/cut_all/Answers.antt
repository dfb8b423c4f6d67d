use Rattle.std.proofs.Common.{◌≡◌, ◌+◌, ◌-◌, min, [], ◌∷◌, ◌++◌, length, get_or, take, drop, sym, ap, ◌∙◌, subst, arith}
use Rattle.std.proofs.lemmas.List.{take_all, length-drop, length-append}
use lib.ListN.{length-map}
use Rattle.std.proofs.lemmas.Slice.Zip.{zip_turn, zip_end}
use Rattle.base.specs.Files.{index_of}
use Rattle.medium.specs.Model.{MediumModel, file_of, with_file}
use Rattle.medium.specs.Sound.{Sound}
use Rattle.medium.specs.Cuts.{unsynced, cut_file, Cut, cut_after}
use Rattle.medium.proofs.Cutting.{cut_allowed}
use Rattle.lane.specs.Laned.{meaning_of}
use Rattle.lane.proofs.Cutting.{nth_file, so_far, cut_next, all_cut}
use Rattle.lane.proofs.laned.Laned.cut_all.Goals as goal

pub loop-file-preserved : goal.loop-file-preserved
loop-file-preserved g c =
    let n = meaning_of c.loop-file.self in
    let i = length c.loop-file.yielded in
    let rest = c.loop-file.rest.now in
    let shown = c.args.shown.now in
    let inv = c.loop-file.invariant in
    let files = ap (λ z. z.a.rest.now) c.into_iter-file-iterator.ensures.into_iter_gives ∙ ap (λ z. z.rest.now) c.zip-file-items.ensures.first ∙ c.iter.ensures.rest in
    let shows : c.zip-file-items.result.b.rest.now ≡ shown = c.zip-file-items.ensures.second.0 in
    let counts = ap (λ z. z.b.rest.now) c.into_iter-file-iterator.ensures.into_iter_gives ∙ shows in
    let turn = zip_turn c.all.result shown c.loop-file.yielded c.into_iter-file-iterator.result c.loop-file.file-iterator c.next.new.self c.next.result files counts c.loop-file.yielded_by (c.in-Some.field-0-0, c.in-Some.field-0-1) c.in-Some.is c.next.ensures.steps in
    let many = get_or shown i 0 in
    let number : index_of c.in-Some.field-0-0.now ≡ i = ap index_of (turn.2 c.in-Some.file) ∙ nth_file c.all.result c.all.ensures i c.in-Some.file (omega (arith, turn.1, c.told-shown)) in
    let count : c.in-Some.field-0-1.now ≡ many = turn.3 0 in
    let x = file_of n i in
    let is : meaning_of c.cut_file.new.self ≡ with_file n i (cut_file x (take (min many (unsynced x)) rest)) = c.cut_file.ensures ∙ (λ j. with_file n (number j) (cut_file (file_of n (number j)) (take (min (count j) (unsynced (file_of n (number j)))) rest))) in
    let left : take (length rest - c.min.result) (drop c.min.result rest) ≡ drop (min many (length rest)) rest = take_all _ _ (omega (arith, length-drop c.min.result rest)) ∙ ap (λ k. drop k rest) (c.min.ensures ∙ ap (λ k. min k (length rest)) count) in
    let more : length (c.loop-file.yielded ++ ((c.in-Some.field-0-0, c.in-Some.field-0-1) ∷ [])) ≡ i + 1 = length-append c.loop-file.yielded _ in
    record {
      mark = ap (λ (z : MediumModel). z.mark) is ∙ inv.mark;
      files = (λ j. so_far (is j).files shown (more j) (left j))
          ∙ cut_next n.files shown i rest (omega (arith, c.loop-file.self.sound.eight, turn.1, c.told-shown)) turn.1 ∙ inv.files;
    }

pub returns : goal.returns
returns g c =
    let self = c.args.self.now in
    let m = meaning_of self in
    let n = meaning_of c.loop-file.self in
    let inv = c.loop-file.invariant in
    let shown = c.args.shown.now in
    let tails = c.args.tails.now in
    let first = ap (λ z. z.a.rest.now) c.into_iter-file-iterator.ensures.into_iter_gives ∙ ap (λ z. z.rest.now) c.zip-file-items.ensures.first ∙ c.iter.ensures.rest in
    let shows : c.zip-file-items.result.b.rest.now ≡ shown = c.zip-file-items.ensures.second.0 in
    let second = ap (λ z. z.b.rest.now) c.into_iter-file-iterator.ensures.into_iter_gives ∙ shows in
    let done = zip_end c.all.result shown c.loop-file.yielded c.into_iter-file-iterator.result c.loop-file.file-iterator c.next.new.self c.next.result first second c.loop-file.yielded_by c.in-None.is c.next.ensures.steps in
    let eight : length c.all.result ≡ 8 = sym (length-map c.all.result index_of) ∙ ap length c.all.ensures in
    let files = all_cut m.files n.files shown tails (length c.loop-file.yielded) c.loop-file.rest.now (omega (arith, c.loop-file.self.sound.eight, done, eight, c.told-shown)) inv.files in
    let is : n ≡ cut_after m shown tails = λ i. record { files = files i; mark = inv.mark i } in
    record { after = is; allowed = subst (λ z. Cut m z) (sym is) (cut_allowed m shown tails self.sound (subst Sound is c.loop-file.self.sound)) }
