use Rattle.std.proofs.Common.{rules, ◌≡◌, ap, ◌∙◌, sym, true, false, arith, ◌<◌, length, get_or}
use Rattle.std.proofs.lemmas.Bool.Decides.{nat_tests}
use Rattle.table.specs.View.{SortedRecords}
use Rattle.table.specs.Order.{before, same_key, sorted}
use Rattle.std.proofs.lemmas.List.Sorted.{IsPartitionPoint-from_clause}
use Rattle.table.specs.declared.record.Record.{Record}
use Rattle.table.proofs.Keys.{same_key_true}
use Rattle.table.proofs.Standing.{parts, cut_stands, cut_lacks}
use Rattle.table.proofs.Table.search.Goals as goal

pub returns-in-Some : goal.returns-in-Some
unfolding same_key
returns-in-Some c =
    let the_records = c.deref-2.ensures.value ∙ ap (λ (t : SortedRecords). t.records) c.self.view_is in
    let found = c.in-Some.ensures.lookup.3 in
    let same = same_key_true c.in-Some.record.now.key c.args.key (sym c.eq.ensures ∙ c.if-eq.true) in
    rw the_records at (cut_stands c.args.key _ c.partition_point-at.result c.in-Some.record.now (rw the_records c.args.self.now.ordered) found.0 found.1 same)

pub returns-in_default : goal.returns-in_default
unfolding same_key before
returns-in_default c =
    let key = c.args.key in
    let the_records = c.deref.ensures.value ∙ ap (λ (t : SortedRecords). t.records) c.self.view_is in
    let again = c.deref-2.ensures.value ∙ ap (λ (t : SortedRecords). t.records) c.self.view_is in
    let o : sorted c.deref.result.now ≡ true = rw the_records c.args.self.now.ordered in
    let facts = c.partition_point-at.ensures in
    let by_key = IsPartitionPoint-from_clause (λ (r : Record). before r.key key) _ _ facts.partitioned (parts key _ o) (λ a r f' called. (search rules, search rules)) in
    let one : c.deref.result.now ≡ c.deref-2.result.now = the_records ∙ sym again in
    let found = c.in-Some.ensures.lookup.3 in
    let other : same_key c.in-Some.record.now.key key ≡ false = sym c.eq.ensures ∙ c.if-eq.false in
    rw the_records at (cut_lacks key c.deref.result.now c.partition_point-at.result o facts.bound by_key (λ lt d. (λ i. same_key (get_or (one i) c.partition_point-at.result d).key key) ∙ ap (λ (r : Record). same_key r.key key) (sym (found.1 d)) ∙ other))

pub returns-in_default-2 : goal.returns-in_default-2
unfolding before
returns-in_default-2 c =
    let key = c.args.key in
    let the_records = c.deref.ensures.value ∙ ap (λ (t : SortedRecords). t.records) c.self.view_is in
    let again = c.deref-2.ensures.value ∙ ap (λ (t : SortedRecords). t.records) c.self.view_is in
    let one : c.deref.result.now ≡ c.deref-2.result.now = the_records ∙ sym again in
    let past : c.partition_point-at.result < length c.deref-2.result.now → ⊥ = λ lt. grind (arith, nat_tests, lt, c.get.ensures.lookup.0, c.in_default.is) in
    let o : sorted c.deref.result.now ≡ true = rw the_records c.args.self.now.ordered in
    let facts = c.partition_point-at.ensures in
    let by_key = IsPartitionPoint-from_clause (λ (r : Record). before r.key key) _ _ facts.partitioned (parts key _ o) (λ a r f' called. (search rules, search rules)) in
    rw the_records at (cut_lacks key c.deref.result.now c.partition_point-at.result o facts.bound by_key (λ lt d. absurd (past (rw one at lt))))
