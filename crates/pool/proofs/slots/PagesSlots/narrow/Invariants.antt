use Rattle.std.proofs.Common.{◌≡◌, ◌≤◌, set}
use Rattle.lane.specs.Lanes.{lane_of}
use Rattle.lane.specs.Steps.{SamePlace}
use Rattle.pool.specs.Pages.{Serves, SameBelow}
use Rattle.pool.proofs.slots.PagesSlots.narrow.Given as goal

-- the pages serve the lanes so far, of which one file's alone has changed, and no slot has another page
abbrev pub invariant-loop-front : goal.invariant-loop-front
invariant-loop-front l =
    record {
      serves : ∥ Serves l.lanes.all l.self.total l.self.spare l.self.table.now ∥₁;
      pages : l.self.pages.now ≡ l.fn.self.pages.now;
      total : l.self.total ≡ l.fn.self.total;
      table : SameBelow l.self.total l.fn.self.table.now l.self.table.now;
      lanes : set l.lanes.all l.file.number l.left ≡ set l.fn.lanes.all l.file.number l.left;
      place : SamePlace (lane_of l.lanes.all l.file.number) l.left;
      first : (lane_of l.lanes.all l.file.number).first ≡ l.front;
      high : l.front ≤ l.left.first;
      dropped : l.left.first ≤ (lane_of l.lanes.all l.file.number).synced;
      lasting : (lane_of l.lanes.all l.file.number).synced ≤ l.left.count;
      count : l.left.count ≤ (lane_of l.lanes.all l.file.number).count;
    }

abbrev pub invariant-loop-back : goal.invariant-loop-back
invariant-loop-back l =
    record {
      serves : ∥ Serves l.lanes.all l.self.total l.self.spare l.self.table.now ∥₁;
      pages : l.self.pages.now ≡ l.fn.self.pages.now;
      total : l.self.total ≡ l.fn.self.total;
      table : SameBelow l.self.total l.fn.self.table.now l.self.table.now;
      lanes : set l.lanes.all l.file.number l.left ≡ set l.fn.lanes.all l.file.number l.left;
      place : SamePlace (lane_of l.lanes.all l.file.number) l.left;
      first : (lane_of l.lanes.all l.file.number).first ≡ l.left.first;
      lasting : (lane_of l.lanes.all l.file.number).synced ≤ l.left.count;
      count : (lane_of l.lanes.all l.file.number).count ≡ l.back;
      high : l.left.count ≤ l.back;
    }
