-- Numbers that the rules must give.
use Rattle.std.specs.Prelude.{◌≡◌, ℕ, true, false, [], ◌∷◌, replicate, pos, Some, None}
use Rattle.base.specs.declared.key.Key.{Key}
use Rattle.block.specs.Fitting.{fits, room, needed}
use Rattle.block.specs.Fletcher.{fletcher16}
use Rattle.rules.specs.State.{locked, Worker, no_worker, empty_logger}
use Rattle.rules.specs.Transactions.{next_tid}
use Rattle.rules.specs.Logging.{persistent}
use Rattle.rules.specs.Recovery.{Version, offered, seen}

abbrev pub locked_at : ℕ → Worker
locked_at e = record { phase = locked; reads = []; changes = []; lock_epoch = e; tid = 0; last = 0 }

abbrev pub a_key : Key
a_key = record { kind = 1; code = 7 }

abbrev pub put_version : Version
put_version = record { key = a_key; tid = 131073; cell = Some (pos 900) }

abbrev pub gone_version : Version
gone_version = record { key = a_key; tid = 131080; cell = None }

pub record Figures : Type 0 where
  pub fletcher : fletcher16 (97 ∷ (98 ∷ (99 ∷ (100 ∷ (101 ∷ []))))) ≡ 0xC8F0
  pub epoch_3 : next_tid 3 131075 ≡ Some 196608
  pub epoch_2 : next_tid 2 131075 ≡ Some 131076
  pub used_up : next_tid 2 196607 ≡ None
  pub two_and_one : needed 2 1 ≡ 79
  pub sixteen : needed 16 0 ≡ 425
  pub still_fits : fits room 77 425 ≡ true
  pub no_more : fits room 78 425 ≡ false
  pub held_back : persistent 5 (no_worker ∷ (locked_at 4 ∷ (no_worker ∷ (no_worker ∷ [])))) (replicate 4 empty_logger) ≡ 3
  pub all_idle : persistent 5 (replicate 4 no_worker) (replicate 4 empty_logger) ≡ 4
  pub put_then_gone : seen (offered gone_version (offered put_version [])) a_key ≡ None
  pub gone_then_put : seen (offered put_version (offered gone_version [])) a_key ≡ None
