-- Epochs, logs and results: the rules, each over what it touches.
use Rattle.std.specs.Prelude.{ℕ, ◌+◌, ◌-◌, min, Bool, true, false, cond, ◌&&◌, List, [], ◌∷◌, ◌++◌, length, map, take, drop, Some, None, Ok, Err, Option, Result, ◌==◌, nat_le, nat_lt}
use Rattle.std.specs.List.{list_any}
use Rattle.base.specs.Limits.{last_epoch}
use Rattle.base.specs.declared.refusal.Refusal.{Refusal}
use Rattle.base.specs.declared.refusal.Refusal.TheVariants.{AdvanceHeldBack, LastEpoch, NothingToSpill, NotPersistent, WrongTicket}
use Rattle.block.specs.Format.{sealed}
use Rattle.medium.specs.Model.{FileModel, MediumModel}
use Rattle.medium.specs.Steps.{append_answer, append_after}
use Rattle.medium.specs.declared.mark.Mark.{Mark}
use Rattle.rules.specs.State.{locked, validated, Worker, Logger, Checkpoint, closed, Held, least, least_of}
use Rattle.rules.specs.Transactions.{needs}

-- a worker that is locked or validated holds its lock epoch
abbrev pub held_epoch : Worker → Option ℕ
held_epoch x = elim x.phase [ locked ↦ Some x.lock_epoch | validated ↦ Some x.lock_epoch | _ ↦ None ]

abbrev pub is_below : ℕ → Option ℕ → Bool
is_below e None = false
is_below e (Some n) = nat_lt n e

-- advance
abbrev pub any_older : ℕ → List Worker → Bool
any_older e ws = list_any (λ x. is_below e (held_epoch x)) ws

unfoldable pub advance_rule : ℕ → List Worker → Result ℕ Refusal
advance_rule e ws = cond (any_older e ws) (Err AdvanceHeldBack) (cond (nat_le last_epoch e) (Err LastEpoch) (Ok (e + 1)))

-- the bytes that validated workers of a logger have reserved; a worker's logger comes from a function
abbrev pub reserved_by : Worker → ℕ
reserved_by x = elim x.phase [ validated ↦ needs x | _ ↦ 0 ]

abbrev pub reserved_from : (ℕ → ℕ) → ℕ → ℕ → List Worker → ℕ
reserved_from logger l w [] = 0
reserved_from logger l w (x ∷ xs) = cond (logger w == l) (reserved_by x) 0 + reserved_from logger l (w + 1) xs

-- spill: the block that a logger holds goes to its file, with the number that comes next
abbrev pub emptied : Logger → Logger
emptied g = record { bytes = []; held = None; spilled = least g.held g.spilled }

pub record Spilled : Type 0 where
  pub new : Logger
  pub medium : MediumModel
  pub number : ℕ

abbrev pub spilled_to : ℕ → Logger → MediumModel → Result ℕ Refusal → Result Spilled Refusal
spilled_to l g m (Ok n) = Ok (record { new = emptied g; medium = append_after m l (sealed l n g.bytes); number = n })
spilled_to l g m (Err e) = Err e

unfoldable pub spill_rule : ℕ → Logger → MediumModel → Result Spilled Refusal
spill_rule l g m = cond (length g.bytes == 0) (Err NothingToSpill) (spilled_to l g m (append_answer m l))

-- sync: what a log has spilled lasts from then on
abbrev pub lasting : Logger → Logger
lasting g = record g { spilled = None }

-- the persistent epoch: one less than the least of the current epoch, those held by workers, and those of writes not yet in a synced block
abbrev pub least_of_workers : List Worker → Option ℕ
least_of_workers ws = least_of held_epoch ws

abbrev pub least_of_loggers : List Logger → Option ℕ
least_of_loggers gs = least_of (λ g. least g.held g.spilled) gs

abbrev pub least_or : ℕ → Option ℕ → ℕ
least_or e None = e
least_or e (Some n) = min e n

unfoldable pub persistent : ℕ → List Worker → List Logger → ℕ
persistent e ws gs = least_or e (least (least_of_workers ws) (least_of_loggers gs)) - 1

-- the mark that a persist sets
abbrev pub synced_counts : List FileModel → List ℕ
synced_counts fs = map (λ f. f.synced) fs

-- log ends are what is synced; starts and part ends stay
abbrev pub plain_mark : ℕ → MediumModel → Mark
plain_mark d m = record { epoch = d; starts = m.mark.starts; ends = take 4 (synced_counts m.files) ++ drop 4 m.mark.ends }

-- with a checkpoint that comes into force: starts are the counts noted at its start, part ends those noted at its close
abbrev pub forced_mark : ℕ → MediumModel → List ℕ → List ℕ → Mark
forced_mark d m noted ends = record { epoch = d; starts = noted; ends = take 4 (synced_counts m.files) ++ ends }

abbrev pub in_force : ℕ → Checkpoint → Bool
in_force d (closed noted ends high) = nat_le high d
in_force d _ = false

abbrev pub new_mark : ℕ → MediumModel → Checkpoint → Mark
new_mark d m (closed noted ends high) = cond (nat_le high d) (forced_mark d m noted ends) (plain_mark d m)
new_mark d m _ = plain_mark d m

abbrev pub same_numbers : List ℕ → List ℕ → Bool
same_numbers [] [] = true
same_numbers (x ∷ xs) (y ∷ ys) = x == y && same_numbers xs ys
same_numbers _ _ = false

abbrev pub same_mark : Mark → Mark → Bool
same_mark j k = j.epoch == k.epoch && (same_numbers j.starts k.starts && same_numbers j.ends k.ends)

-- release and void: a result that is not held is an outsider's
abbrev pub result_of : ℕ → List Held → Option ℕ
result_of n [] = None
result_of n (h ∷ hs) = cond (h.number == n) (Some h.epoch) (result_of n hs)

abbrev pub without : ℕ → List Held → List Held
without n [] = []
without n (h ∷ hs) = cond (h.number == n) hs (h ∷ without n hs)

abbrev pub release_epoch : ℕ → Option ℕ → Option Refusal
release_epoch marked None = Some WrongTicket
release_epoch marked (Some e) = cond (nat_le e marked) None (Some NotPersistent)

unfoldable pub release_rule : ℕ → ℕ → List Held → Option Refusal
release_rule marked n hs = release_epoch marked (result_of n hs)

abbrev pub unheld : Option ℕ → Option Refusal
unheld None = Some WrongTicket
unheld (Some e) = None

unfoldable pub void_rule : ℕ → List Held → Option Refusal
void_rule n hs = unheld (result_of n hs)
