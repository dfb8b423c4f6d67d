use Rattle.std.proofs.Common.{◌≡◌, ℕ, ◌+◌, ◌*◌, ◌<◌, ◌≤◌, true, length, get_or, take}
use Rattle.std.specs.Prelude.{sum}
use Rattle.lane.specs.declared.lane.Lane.{Lane}
use Rattle.lane.specs.Fits.{each_fits}
use Rattle.lane.specs.Lanes.{Unused}
use Rattle.lane.proofs.plan.plan_of.Given as goal

-- the lanes so far lie one after the other, below the next, and have the capacities so far
abbrev pub invariant-loop-i : goal.invariant-loop-i
invariant-loop-i l =
    record {
      eight : length l.all ≡ 8;
      small : l.next ≤ 4096 * l.i;
      below : (j : ℕ) (d : Lane) → j < l.i → (get_or l.all j d).base + (get_or l.all j d).capacity ≤ l.next;
      ordered : (j k : ℕ) (d : Lane) → (j < k) × (k < l.i) → (get_or l.all j d).base + (get_or l.all j d).capacity ≤ (get_or l.all k d).base;
      sized : (j : ℕ) (d : Lane) → j < l.i → (get_or l.all j d).capacity ≡ get_or l.capacities j 0;
      unused : Unused l.all;
      fit : each_fits (take l.i l.capacities) ≡ true;
      total : l.next ≡ sum (take l.i l.capacities);
    }
