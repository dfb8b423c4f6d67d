use Rattle.std.proofs.Common.{◌≡◌, ◌+◌, ◌-◌, ◌<◌, [], get_or, length, set, sym, ap, ◌∙◌, arith, get_or-set_same}
use Rattle.std.proofs.Math.Logic.{∥∥₁_elim, ∥∥₁_map}
use Rattle.std.proofs.lemmas.List.{set-set}
use Rattle.std.specs.Coded.{le_prop}
use Rattle.lane.specs.declared.lane.Lane.{Lane}
use Rattle.lane.specs.Lanes.{no_lane, lane_of, slot}
use Rattle.pool.specs.Pages.{page_of}
use Rattle.pool.proofs.Serving.{slot_low, same_serves}
use Rattle.pool.proofs.slots.PagesSlots.narrow.Goals as goal

pub loop-front-preserved : goal.loop-front-preserved
loop-front-preserved c =
    let inv = c.loop-front.invariant in
    let x = c.free.ensures in
    let f = c.args.file.number in
    let ls = c.loop-front.lanes in
    let lt : f < length ls.all = omega (arith, ls.eight, c.args.file.low) in
    let l = lane_of ls.all f in
    let e = ap (λ z. lane_of z f) x.lanes ∙ get_or-set_same ls.all f _ no_lane lt in
    let same = c.of-lane.ensures in
    record {
      serves = x.serves;
      pages = x.pages ∙ inv.pages;
      total = x.total ∙ inv.total;
      table = λ s h. x.table s (omega (arith, h, x.total)) ∙ inv.table s (omega (arith, h, x.total));
      lanes = ap (λ z. set z f c.args.left) x.lanes ∙ set-set ls.all f _ c.args.left ∙ inv.lanes;
      place = record { base = inv.place.base ∙ sym (ap (λ (z : Lane). z.base) e ∙ ap (λ (z : Lane). z.base) same); capacity = inv.place.capacity ∙ sym (ap (λ (z : Lane). z.capacity) e ∙ ap (λ (z : Lane). z.capacity) same) };
      first = omega (arith, ap (λ (z : Lane). z.first) e, ap (λ (z : Lane). z.first) same, inv.first);
      high = omega (arith, c.loop-front-test.true);
      dropped = omega (arith, ap (λ (z : Lane). z.synced) e, ap (λ (z : Lane). z.synced) same, inv.dropped);
      lasting = omega (arith, ap (λ (z : Lane). z.synced) e, ap (λ (z : Lane). z.synced) same, inv.lasting);
      count = omega (arith, ap (λ (z : Lane). z.count) e, ap (λ (z : Lane). z.count) same, inv.count);
    }

pub loop-back-preserved : goal.loop-back-preserved
loop-back-preserved c =
    let inv = c.loop-back.invariant in
    let x = c.free-in-loop-back.ensures in
    let f = c.args.file.number in
    let ls = c.loop-back.lanes in
    let lt : f < length ls.all = omega (arith, ls.eight, c.args.file.low) in
    let l = lane_of ls.all f in
    let e = ap (λ z. lane_of z f) x.lanes ∙ get_or-set_same ls.all f _ no_lane lt in
    let same = c.of-lane-in-loop-back.ensures in
    record {
      serves = x.serves;
      pages = x.pages ∙ inv.pages;
      total = x.total ∙ inv.total;
      table = λ s h. x.table s (omega (arith, h, x.total)) ∙ inv.table s (omega (arith, h, x.total));
      lanes = ap (λ z. set z f c.args.left) x.lanes ∙ set-set ls.all f _ c.args.left ∙ inv.lanes;
      place = record { base = inv.place.base ∙ sym (ap (λ (z : Lane). z.base) e ∙ ap (λ (z : Lane). z.base) same); capacity = inv.place.capacity ∙ sym (ap (λ (z : Lane). z.capacity) e ∙ ap (λ (z : Lane). z.capacity) same) };
      first = ap (λ (z : Lane). z.first) e ∙ ap (λ (z : Lane). z.first) same ∙ inv.first;
      lasting = omega (arith, ap (λ (z : Lane). z.synced) e, ap (λ (z : Lane). z.synced) same, inv.lasting);
      count = omega (arith, ap (λ (z : Lane). z.count) e, ap (λ (z : Lane). z.count) same, inv.count);
      high = omega (arith, c.loop-back-test.true);
    }

pub returns-clause-serves : goal.returns-clause-serves
returns-clause-serves c =
    let inv = c.loop-back.invariant in
    let self = c.loop-back.self in
    let lanes = c.loop-back.lanes in
    let count : c.args.left.count ≡ (lane_of lanes.all c.args.file.number).count = omega (arith, inv.count, inv.high, c.loop-back-test.false) in
    rw c.replace.ensures (∥∥₁_map inv.serves (λ s. same_serves lanes.all self.total self.spare self.table.now lanes.eight c.args.file.number (omega (arith, c.args.file.low)) s c.args.left inv.place (sym inv.first) count))

pub returns-clause-others : goal.returns-clause-others
returns-clause-others c j k lj from to =
    let inv = c.loop-back.invariant in
    let self = c.args.self.now in
    let lanes = c.args.lanes.now in
    let at = slot (lane_of lanes.all j) k in
    let low : at < self.total = ∥∥₁_elim c.requires.serves le_prop (λ s. slot_low lanes.all self.total self.spare self.table.now lanes.eight j lj s k) in
    ap (λ ps. page_of ps c.loop-back.self.table.now at) inv.pages ∙ ap (λ n. get_or self.pages.now n []) (inv.table at (omega (arith, low, inv.total)))
