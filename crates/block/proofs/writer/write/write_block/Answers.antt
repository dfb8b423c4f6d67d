use Rattle.std.specs.Prelude.{All}
use Rattle.std.proofs.Common.{◌^◌, ◌<◌, ◌≤◌, ◌++◌, length, get_or, drop, Ok, Err, sym, ap, ◌∙◌, arith, rules}
use Rattle.std.proofs.lemmas.List.{take_all, drop_all}
use Rattle.std.proofs.lemmas.List.Elements.{All-more, All-same}
use Rattle.std.proofs.lemmas.Result.{err_from_is_err_and}
use Rattle.block.specs.declared.entry.Entry.TheVariants.{Txn}
use Rattle.block.specs.declared.way.Way.{Way}
use Rattle.block.specs.Checks.{start}
use Rattle.block.specs.Drafts.{written}
use Rattle.block.specs.Format.{bytes_of, content, sealed}
use Rattle.block.specs.Laws.{Coded}
use Rattle.block.proofs.Checking.{listed_file}
use Rattle.block.proofs.Composing.{stop_faulty, stop_full, go_on, push_bytes, push_length, push_room, content_more, refused_with, written_as, none_left, sound_under}
use Rattle.block.proofs.Sealing.{block_reads_back}
use Rattle.block.proofs.writer.write.write_block.Goals as goal

pub returns-in_err-check_entry-clause-answer : goal.returns-in_err-check_entry-clause-answer
returns-in_err-check_entry-clause-answer c =
    let at = c.args.at in
    let es = c.args.entries.now in
    let l = c.loop-what in
    let p = err_from_is_err_and c.from_residual-in_err-check_entry.result c.from_residual-in_err-check_entry.ensures.1 in
    let is = p.1 ∙ ap (λ x. Err x) p.2 in
    let stop = stop_faulty at.file at.number l.way es l.what-index c.loop-what-test.true (written l.draft) l.invariant.1 _ c.in_err-check_entry.ensures.answer in
    refused_with at.file at.number es _ _ is (listed_file at.file c.in_ok-check_file.ensures) (sym l.invariant.3 ∙ stop)

pub returns-in_err-push-clause-answer : goal.returns-in_err-push-clause-answer
returns-in_err-push-clause-answer c =
    let at = c.args.at in
    let es = c.args.entries.now in
    let l = c.loop-what in
    let p = err_from_is_err_and c.from_residual-in_err-push.result c.from_residual-in_err-push.ensures.1 in
    let is = p.1 ∙ ap (λ x. Err x) p.2 in
    let stop = stop_full at.file at.number l.way es l.what-index c.loop-what-test.true (written l.draft) l.invariant.1 c.in_ok-check_entry.ensures.answer _ c.in_err-push.ensures.answer in
    refused_with at.file at.number es _ _ is (listed_file at.file c.in_ok-check_file.ensures) (sym l.invariant.3 ∙ stop)

pub loop-what-preserved : goal.loop-what-preserved
loop-what-preserved c =
    let at = c.args.at in
    let es = c.args.entries.now in
    let l = c.loop-what in
    let e = get_or es l.what-index (Txn 0) in
    let cs = written l.draft in
    let took = c.in_ok-push.ensures.answer in
    let after = c.in_ok-push.ensures.after in
    let far = ap (λ (w : Way). w.at) c.onward-way.ensures in (
      push_bytes cs _ e _ took after ∙ ap (λ bs. bs ++ bytes_of e) l.invariant.0 ∙ content_more es l.what-index (Txn 0) c.loop-what-test.true,
      omega (arith, push_length cs _ e _ took after, l.invariant.1),
      push_room cs _ e _ took after,
      go_on at.file at.number l.way es l.what-index c.loop-what-test.true cs l.invariant.1 c.in_ok-check_entry.ensures.answer _ took _ c.onward-way.ensures ∙ l.invariant.3,
      All-more Coded es l.what-index (Txn 0) c.loop-what-test.true l.invariant.4 c.in_ok-check_entry.ensures.coded,
    )

pub returns : goal.returns
returns c =
    let at = c.args.at in
    let es = c.args.entries.now in
    let l = c.loop-what in
    let whole = take_all l.what-index es c.loop-what-test.false in
    let all = l.invariant.0 ∙ ap content whole in
    let block = c.image.ensures ∙ ap (sealed at.file at.number) all in
    let through = sym l.invariant.3 ∙ none_left at.file at.number l.way (drop l.what-index es) (drop_all l.what-index es c.loop-what-test.false) in
    let codes : All Coded es = All-same Coded es _ (sym whole) l.invariant.4 in
    let room : length (content es) ≤ 502 = omega (arith, ap length all, l.invariant.2) in
    let listed = listed_file at.file c.in_ok-check_file.ensures in
    let numbered : at.number < 2 ^ 32 = search rules in
    record {
      answer = ap (λ x. Ok x) block ∙ written_as at.file at.number es listed through;
      back = λ marked reached. block_reads_back at.file at.number marked _ es
          (record { listed = listed; numbered = numbered; room = room; sound = sound_under at.file at.number marked start es through reached; codes = codes })
          block;
    }
