-- Writing one command after the other.
use Rattle.std.proofs.Common.{◌≡◌, ℕ, ◌+◌, ◌<◌, ◌≤◌, Bool, true, false, cond, leb, List, [], ◌∷◌, ◌++◌, length, get_or, take, drop, is_ok, Some, None, Ok, Err, Option, Result, sym, refl, ap, ◌∙◌, arith, length-append}
use Rattle.std.proofs.lemmas.List.{take_more, drop_more, flat_map_more}
use Rattle.std.proofs.lemmas.Bool.{leb-true}
use Rattle.std.proofs.lemmas.Bool.Decides.{nat_tests}
use Rattle.base.specs.Limits.{last_epoch}
use Rattle.base.specs.Faults.{BlockFault}
use Rattle.base.specs.declared.refusal.Refusal.{Refusal}
use Rattle.base.specs.declared.refusal.Refusal.TheVariants.{NoRoomInBlock}
use Rattle.block.specs.declared.entry.Entry.{Entry}
use Rattle.block.specs.declared.way.Way.{Way}
use Rattle.block.specs.declared.writer.WriteError.{WriteError}
use Rattle.block.specs.declared.writer.WriteError.TheVariants.{Refused, Faulty}
use Rattle.std.specs.Prelude.{All}
use Rattle.std.proofs.lemmas.List.Elements.{All-head, All-tail}
use Rattle.block.specs.declared.entry.Entry.TheVariants.{Txn}
use Rattle.block.specs.Checks.{start, onward, entry_fault, wrong_field, walk, step_on}
use Rattle.block.specs.Drafts.{push_answer, push_after}
use Rattle.block.specs.Fitting.{fits, room}
use Rattle.block.specs.Format.{bytes_of, size_of, content, block_of}
use Rattle.block.specs.Writing.{unwritable, unless_faulty, write_answer, Reached}
use Rattle.block.proofs.Coding.{length_bytes}
use Rattle.block.proofs.Verdicts.{Passes, Stops, clean}

-- a draft's answer tells whether the command fits
abbrev answer_of : Bool → ℕ → Result ℕ Refusal
answer_of b n = cond b (Ok n) (Err NoRoomInBlock)

pushed_no : (b : Bool) (n : ℕ) (x : Refusal) → Err x ≡ answer_of b n → (b ≡ false) × (x ≡ NoRoomInBlock)
pushed_no b n x h = (grind arith, grind arith)

pushed_yes : (b : Bool) (n m : ℕ) → Ok m ≡ answer_of b n → b ≡ true
pushed_yes b n m h = grind arith

-- command i, written into a block that holds the bytes cs
module _ (file number : ℕ) (w : Way) (es : List Entry) (i : ℕ) (lt : i < length es) (cs : List ℕ) (far : w.at ≡ 8 + length cs) where
  abbrev e : Entry
  e = get_or es i (Txn 0)

  abbrev wrong : Option BlockFault
  wrong = entry_fault file number last_epoch w e

  abbrev on : Bool → Option WriteError
  on t = cond t (unwritable file number (onward w e) (drop (i + 1) es)) (Some (Refused NoRoomInBlock))

  step : unwritable file number w (drop i es) ≡ unless_faulty wrong (on (leb (w.at + size_of e) 510))
  unfolding unwritable
  step = ap (unwritable file number w) (drop_more es i (Txn 0) lt)

  fitting : leb (w.at + size_of e) 510 ≡ fits room (length cs) (size_of e)
  fitting = grind (arith, nat_tests)

  pub stop_faulty : (f : BlockFault) → Stops f wrong → unwritable file number w (drop i es) ≡ Some (Faulty f)
  stop_faulty f s = let h = step in grind arith

  pub stop_full : Passes wrong → (x : Refusal) → Err x ≡ push_answer cs e → unwritable file number w (drop i es) ≡ Some (Refused x)
  stop_full p x h =
      let no = pushed_no (fits room (length cs) (size_of e)) (length cs + size_of e) x h in
      step ∙ (λ k. unless_faulty (clean tt tt wrong p k) (on ((fitting ∙ no.0) k))) ∙ ap (λ y. Some (Refused y)) (sym no.1)

  pub go_on : Passes wrong → (n : ℕ) → Ok n ≡ push_answer cs e → (v : Way) → v ≡ onward w e → unwritable file number v (drop (i + 1) es) ≡ unwritable file number w (drop i es)
  go_on p n h v o =
      let yes = pushed_yes (fits room (length cs) (size_of e)) (length cs + size_of e) n h in
      ap (λ x. unwritable file number x (drop (i + 1) es)) o ∙ sym (step ∙ (λ k. unless_faulty (clean tt tt wrong p k) (on ((fitting ∙ yes) k))))

-- a draft that took a command holds its bytes, and had room for them
module _ (cs ds : List ℕ) (e : Entry) (n : ℕ) (took : Ok n ≡ push_answer cs e) (after : ds ≡ push_after cs e) where
  fitted : fits room (length cs) (size_of e) ≡ true
  fitted = pushed_yes (fits room (length cs) (size_of e)) (length cs + size_of e) n took

  pub push_bytes : ds ≡ cs ++ bytes_of e
  push_bytes = grind arith

  pub push_length : length ds ≡ length cs + size_of e
  push_length = omega (arith, ap length push_bytes, length-append cs (bytes_of e), length_bytes e)

  pub push_room : length ds ≤ 502
  push_room = omega (arith, push_length, leb-true (length cs + size_of e) 502 fitted)

-- the commands up to one more
pub content_more : (es : List Entry) (i : ℕ) (d : Entry) → i < length es → content (take i es) ++ bytes_of (get_or es i d) ≡ content (take (i + 1) es)
content_more es i d lt = flat_map_more bytes_of [] (take i es) (get_or es i d) ∙ ap content (sym (take_more es i d lt))

-- an answer that gives the first reason is the writer's
module _ (file number : ℕ) (es : List Entry) (r : Result (List ℕ) WriteError) (x : WriteError) (is : r ≡ Err x) where
  pub refused_with : file ≤ 7 → unwritable file number start es ≡ Some x → r ≡ write_answer file number es
  refused_with low h = grind (arith, nat_tests)

pub written_as : (file number : ℕ) (es : List Entry) → file ≤ 7 → unwritable file number start es ≡ None → Ok (block_of file number es) ≡ write_answer file number es
written_as file number es low h = grind (arith, nat_tests)

pub none_left : (file number : ℕ) (w : Way) (es : List Entry) → es ≡ [] → unwritable file number w es ≡ None
unfolding unwritable
none_left file number w es h = ap (unwritable file number w) h

-- a field that is right under the last epoch is right under any that reaches it
reached_field : (marked : ℕ) (e : Entry) → wrong_field last_epoch e ≡ None → Reached marked e → wrong_field marked e ≡ None
reached_field marked e h r = grind (arith, nat_tests)

reached_entry : (file number marked : ℕ) (w : Way) (e : Entry) → entry_fault file number last_epoch w e ≡ None → Reached marked e → entry_fault file number marked w e ≡ None
reached_entry file number marked w e h r = grind (arith, reached_field)

faulty_none : (o : Option BlockFault) (q : Option WriteError) → unless_faulty o q ≡ None → (o ≡ None) × (q ≡ None)
faulty_none o q h = (grind arith, grind arith)

fits_none : (b : Bool) (q : Option WriteError) → cond b q (Some (Refused NoRoomInBlock)) ≡ None → q ≡ None
fits_none b q h = grind arith

-- what can be written has no fault under an epoch that reaches its rows
pub sound_under : (file number marked : ℕ) (w : Way) (es : List Entry) → unwritable file number w es ≡ None → All (Reached marked) es → is_ok (walk file number marked w es) ≡ true
unfolding unwritable walk
sound_under file number marked w [] h r = refl
sound_under file number marked w (e ∷ es) h r =
    let p = faulty_none (entry_fault file number last_epoch w e) _ h in
    let q = fits_none (leb (w.at + size_of e) 510) _ p.1 in
    ap (λ o. is_ok (step_on o (walk file number marked (onward w e) es))) (reached_entry file number marked w e p.0 (All-head (Reached marked) e es r))
    ∙ sound_under file number marked (onward w e) es q (All-tail (Reached marked) e es r)
