-- The small nights, played by computation.
use Rattle.std.proofs.Common.{refl}
use Rattle.block.specs.Checks.{walk, read_answer}
use Rattle.block.specs.Fletcher.{sums, fletcher16}
use Rattle.block.specs.Format.{sealed}
use Rattle.block.specs.Parsing.{entries}
use Rattle.table.specs.Order.{before, same_key, behind}
use Rattle.table.specs.Records.{look, put, take_out}
use Rattle.rules.specs.Calls.{rule, played, history}
use Rattle.rules.specs.Checkpoints.{start_rule, step_rule, close_rule}
use Rattle.rules.specs.Logging.{advance_rule, spill_rule, persistent, release_rule}
use Rattle.rules.specs.Nights.{replays}
use Rattle.rules.specs.Recovery.{start_recovery, replay_rule, finish_rule}
use Rattle.rules.specs.Serial.{story_from, serial, after_run}
use Rattle.rules.specs.SmallNights.{Survives, IsLost, LogHasIt, LockOrder, HoldsBack, StaysDeleted, ReadOnly, SmallNights}
use Rattle.rules.specs.Transactions.{begin_rule, read_rule, change_rule, lock_rule, next_tid, validate_rule, install_rule}

-- what the computation of a night opens
a_night : Type 0
unfolding walk read_answer sums fletcher16 sealed entries before same_key behind look put take_out rule played history start_rule step_rule close_rule advance_rule spill_rule persistent release_rule replays start_recovery replay_rule finish_rule story_from serial after_run begin_rule read_rule change_rule lock_rule next_tid validate_rule install_rule
a_night = SmallNights

pub survives : Survives
unfolding a_night
survives = record { persisted = refl; released = refl; there = refl; serial = refl }

pub is_lost : IsLost
unfolding a_night
is_lost = record { persisted = refl; withheld = refl; gone = refl; serial = refl }

pub log_has_it : LogHasIt
unfolding a_night
log_has_it = record { from_part = refl; from_log = refl; serial = refl }

pub lock_order : LockOrder
unfolding a_night
lock_order = record { second = refl; first = refl; one = refl; other = refl }

pub holds_back : HoldsBack
unfolding a_night
holds_back = record { persisted = refl; refused = refl; nothing_yet = refl }

pub stays_deleted : StaysDeleted
unfolding a_night
stays_deleted = record { newer = refl; in_force = refl; absent = refl; serial = refl }

pub read_only : ReadOnly
unfolding a_night
read_only = record { absent = refl; tid = refl; released = refl }

pub small_nights : SmallNights
small_nights = record {
  a_commit_survives = survives;
  an_unsynced_one_is_lost = is_lost;
  the_log_has_what_the_walk_missed = log_has_it;
  locks_give_the_order = lock_order;
  a_lock_holds_the_epoch_back = holds_back;
  a_deleted_key_stays_deleted = stays_deleted;
  a_read_only_one_releases = read_only;
}
