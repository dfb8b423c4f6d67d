-- A sealed block passes all checks, and what passes them is a sealed block.
use Rattle.std.specs.Prelude.{All}
use Rattle.std.proofs.Common.{◌≡◌, ℕ, zero, suc, ◌+◌, ◌-◌, ◌%◌, ◌^◌, ◌<◌, ◌≤◌, true, cond, not, ◌||◌, eqb, ltb, List, [], ◌∷◌, ◌++◌, length, get_or, take, drop, replicate, ℤ, pos, negsuc, is_ok, Some, None, Ok, Err, fold, Option, Result, sym, refl, ap, ◌∙◌, append_assoc, mod-lt, arith, length-append, length-drop, w64, SFits}
use lib.ListN.{length-replicate}
use Rattle.std.proofs.lemmas.List.Elements.{All-nil, All-cons, All-head, All-tail}
use Rattle.std.proofs.lemmas.List.{take_at, drop_at, take_all, drop-drop, take-append-drop, length-take-le}
use Rattle.std.proofs.lemmas.Bool.{le-ltb, eq-eqb}
use Rattle.std.proofs.lemmas.Bool.Decides.{nat_tests}
use Rattle.base.specs.Bytes.{be, be_at, number_at, Bytes}
use Rattle.base.specs.Faults.{BlockFault}
use Rattle.base.specs.declared.refusal.Refusal.{Refusal}
use Rattle.base.specs.Spelling.{reads_back, take_small, drop_small}
use Rattle.block.specs.declared.entry.Entry.{Entry}
use Rattle.block.specs.declared.way.Way.{Way}
use Rattle.base.specs.Limits.{value_fits}
use Rattle.base.specs.declared.refusal.Refusal.TheVariants.{BadHeader, BadSum, BadPadding, BadCommand}
use Rattle.block.specs.Laws.{Coded, ReadsBack, OnlyWritten}
use Rattle.block.specs.Checks.{first_some, fault, placed, wrong_field, wrong_tid, wrong_row, wrong_value, fault_at, wrong_header, wrong_sum, wrong_padding, nonzero, walk, start, onward, step_on, entry_fault, ended, commands_fault, commands_in, read_answer, judged, header_fault, sum_fault, padding_fault}
use Rattle.block.specs.Fletcher.{Sums, add_byte, no_bytes, sums, fletcher16}
use Rattle.block.specs.Format.{bytes_of, content, header, summed, sealed}
use Rattle.block.specs.Parsing.{entries}
use Rattle.block.proofs.Coding.{length_bytes, entries_back, front_back, Fields, field_back, byte_field, parts, tag}
use Rattle.block.proofs.Laying.{length-summed}
use Rattle.block.proofs.Verdicts.{no_fault}

-- the header's checks, over the numbers that they look at
abbrev header_test : ℕ → ℕ → ℕ → ℕ → ℕ → ℕ → Option ℕ
header_test t f n m file number =
    cond (not (eqb t 0x42)) (Some 0) (cond (not (eqb f file) || ltb 7 file) (Some 1) (cond (ltb 502 n) (Some 2) (cond (not (eqb m number)) (Some 4) None)))

header_none : (t f n m file number : ℕ) → t ≡ 0x42 → f ≡ file → file ≤ 7 → n ≤ 502 → m ≡ number → header_test t f n m file number ≡ None
header_none t f n m file number a b c d e = grind (arith, nat_tests)

header_right : (t f n m file number : ℕ) → header_test t f n m file number ≡ None → (t ≡ 0x42) × (f ≡ file) × (file ≤ 7) × (n ≤ 502) × (m ≡ number)
header_right t f n m file number h = (grind (arith, nat_tests), grind (arith, nat_tests), grind (arith, nat_tests), grind (arith, nat_tests), grind (arith, nat_tests))

-- both sums are remainders
folded_small : (bs : List ℕ) (s : Sums) → s.low < 255 → s.high < 255 → ((fold add_byte s bs).low < 255) × ((fold add_byte s bs).high < 255)
folded_small [] s l h = (l, h)
folded_small (b ∷ bs) s l h = folded_small bs (add_byte s b) (mod-lt (s.low + b) (omega arith)) (mod-lt (s.high + (s.low + b) % 255) (omega arith))

pub fletcher_lt : (bs : List ℕ) → fletcher16 bs < 65536
unfolding fletcher16 sums
fletcher_lt bs = let p = folded_small bs no_bytes (omega arith) (omega arith) in omega (arith, p.0, p.1)

-- no byte of zeros is found
zeros_clean : (at n : ℕ) → nonzero at (replicate n 0) ≡ None
zeros_clean at zero = refl
zeros_clean at (suc n) = zeros_clean (at + 1) n

only_zeros : (at : ℕ) (bs : List ℕ) → nonzero at bs ≡ None → bs ≡ replicate (length bs) 0
only_zeros at [] h = refl
only_zeros at (b ∷ bs) h =
    let z : b ≡ 0 = grind (arith, nat_tests) in
    let r : nonzero (at + 1) bs ≡ None = grind (arith, nat_tests) in
    λ i. z i ∷ only_zeros (at + 1) bs r i

step_ok : (o : Option BlockFault) (r : Result Way BlockFault) (v : Way) → step_on o r ≡ Ok v → (o ≡ None) × (r ≡ Ok v)
step_ok o r v h = (grind arith, grind arith)

-- the walk ends behind all the commands
pub walk_far : (file number marked : ℕ) (w v : Way) (es : List Entry) → walk file number marked w es ≡ Ok v → v.at ≡ w.at + length (content es)
unfolding walk
walk_far file number marked w v [] h = let e : w ≡ v = cc in omega (arith, ap (λ (x : Way). x.at) e)
walk_far file number marked w v (e ∷ es) h =
    let p = step_ok (entry_fault file number marked w e) _ v h in
    omega (arith, walk_far file number marked (onward w e) v es p.1, length-append (bytes_of e) (content es), length_bytes e)

field_none : (file number base epoch : ℕ) (r : Refusal) (o : Option ℕ) → fault_at file number r base epoch o ≡ None → o ≡ None
field_none file number base epoch r o h = grind arith

pub both_none : {A : Type 0} (o q : Option A) → first_some o q ≡ None → (o ≡ None) × (q ≡ None)
both_none o q h = (grind arith, grind arith)

-- a command without a fault is in its place, with no field out of range
pub placed_fields : (file number marked : ℕ) (w : Way) (e : Entry) → entry_fault file number marked w e ≡ None → (placed file w.opened e ≡ true) × (wrong_field marked e ≡ None)
placed_fields file number marked w e h = (grind arith, grind arith)

tid_fits : (tid : ℕ) → wrong_tid tid ≡ None → tid < 2 ^ 64
tid_fits tid h = grind (arith, nat_tests)

row_fits : (marked tid : ℕ) → wrong_row marked tid ≡ None → tid < 2 ^ 64
row_fits marked tid h = grind (arith, nat_tests)

seconds_fit : (v : ℤ) → value_fits v ≡ true → SFits w64 v
seconds_fit (pos n) h = record { sfits = (let b : n ≤ 1000000000 = grind (arith, nat_tests) in omega arith) }
seconds_fit (negsuc n) h = record { sfits = (let b : n ≤ 999999999 = grind (arith, nat_tests) in omega arith) }

value_fit : (i : ℕ) (v : ℤ) → wrong_value i v ≡ None → SFits w64 v
value_fit i v h = seconds_fit v (grind arith)

fields_fit : (marked : ℕ) (e : Entry) → wrong_field marked e ≡ None → Coded e → Fields e
fields_fit marked e h c = grind (arith, tid_fits, row_fits, value_fit)

-- commands without a fault fit their fields
all_fields : (file number marked : ℕ) (w v : Way) (es : List Entry) → walk file number marked w es ≡ Ok v → All Coded es → All Fields es
unfolding walk
all_fields file number marked w v [] h c = All-nil Fields
all_fields file number marked w v (e ∷ es) h c =
    let p = step_ok (entry_fault file number marked w e) _ v h in
    All-cons Fields e es (fields_fit marked e (placed_fields file number marked w e p.0).1 (All-head Coded e es c)) (all_fields file number marked (onward w e) v es p.1 (All-tail Coded e es c))

came_through : (r : Result Way BlockFault) → is_ok r ≡ true → (v : Way) × (r ≡ Ok v)
came_through (Ok v) h = (v, refl)
came_through (Err f) h = cc

-- what a sealed block holds, part by part
module _ (file number : ℕ) (cs : List ℕ) (room : length cs ≤ 502) where
  abbrev zs : List ℕ
  zs = replicate (502 - length cs) 0

  abbrev sum-bytes : List ℕ
  sum-bytes = be 2 (fletcher16 (summed file number cs))

  sealed_count : number_at 2 2 (sealed file number cs) ≡ length cs
  unfolding sealed
  sealed_count = reads_back 2 (length cs) [] [] (omega arith)

  sealed_number : number < 2 ^ 32 → number_at 4 4 (sealed file number cs) ≡ number
  unfolding sealed
  sealed_number lt = reads_back 4 number [] [] lt

  sealed_front : take 510 (sealed file number cs) ≡ summed file number cs
  unfolding sealed
  sealed_front = take_at (summed file number cs) sum-bytes 510 (length-summed file number cs room)

  sealed_sum : number_at 2 510 (sealed file number cs) ≡ fletcher16 (take 510 (sealed file number cs))
  unfolding sealed
  sealed_sum =
      let bs = sealed file number cs in
      let s = summed file number cs in
      let back : drop 510 bs ≡ sum-bytes = drop_at s sum-bytes 510 (length-summed file number cs room) in
      ap (λ l. be_at 2 0 (take 2 l)) back ∙ reads_back 2 (fletcher16 s) [] [] (fletcher_lt s) ∙ ap fletcher16 (sym sealed_front)

  sealed_rest : drop 8 (sealed file number cs) ≡ cs ++ (zs ++ sum-bytes)
  unfolding sealed
  sealed_rest = append_assoc cs zs sum-bytes

  sealed_commands : take (length cs) (drop 8 (sealed file number cs)) ≡ cs
  sealed_commands = ap (take (length cs)) sealed_rest ∙ take_at cs (zs ++ sum-bytes) (length cs) refl

  sealed_padding : take (502 - length cs) (drop (8 + length cs) (sealed file number cs)) ≡ zs
  sealed_padding =
      let long : length zs ≡ 502 - length cs = length-replicate (502 - length cs) 0 in
      ap (take (502 - length cs)) (sym (drop-drop (length cs) 8 (sealed file number cs)) ∙ ap (drop (length cs)) sealed_rest ∙ drop_at cs (zs ++ sum-bytes) (length cs) refl)
      ∙ take_at zs sum-bytes (502 - length cs) long

  sealed_header : file ≤ 7 → number < 2 ^ 32 → wrong_header file number (sealed file number cs) ≡ None
  unfolding sealed
  sealed_header low lt = header_none 0x42 file (number_at 2 2 (sealed file number cs)) (number_at 4 4 (sealed file number cs)) file number refl refl low (omega (arith, sealed_count)) (sealed_number lt)

  sealed_summed : wrong_sum (sealed file number cs) ≡ None
  sealed_summed = ap (λ t. cond t None (Some 510)) (eq-eqb _ _ sealed_sum)

  sealed_padded : wrong_padding (number_at 2 2 (sealed file number cs)) (sealed file number cs) ≡ None
  sealed_padded = ap (λ n. wrong_padding n (sealed file number cs)) sealed_count ∙ ap (nonzero (8 + length cs)) sealed_padding ∙ zeros_clean (8 + length cs) (502 - length cs)

  sealed_in : commands_in (sealed file number cs) ≡ cs
  sealed_in = ap (λ n. take n (drop 8 (sealed file number cs))) sealed_count ∙ sealed_commands

-- the block of lawful commands is read as these commands
pub block_reads_back : (file number marked : ℕ) (bs : List ℕ) → ReadsBack file number marked bs (read_answer file number marked bs)
block_reads_back file number marked bs es l is =
    let cs = content es in
    let block = sealed file number cs in
    let through = came_through (walk file number marked start es) l.sound in
    let v = through.0 in
    let read : entries cs ≡ es = entries_back es (all_fields file number marked start v es through.1 l.codes) in
    let far : v.at ≡ 8 + length cs = walk_far file number marked start v es through.1 in
    let walked : walk file number marked start (entries cs) ≡ Ok v = ap (walk file number marked start) read ∙ through.1 in
    let end : ended file number (8 + length cs) (Ok v) ≡ None = ap (λ t. cond t (Some (fault file number BadCommand v.at v.epoch)) None) (le-ltb v.at (8 + length cs) (omega arith)) in
    let commands : commands_fault file number marked (commands_in block) ≡ None = ap (commands_fault file number marked) (sealed_in file number cs l.room) ∙ ap (ended file number (8 + length cs)) walked ∙ end in
    ap (read_answer file number marked) is
    ∙ sym (no_fault file number marked block
    (ap (fault_at file number BadHeader 0 0) (sealed_header file number cs l.room l.listed l.numbered))
    (ap (fault_at file number BadSum 0 0) (sealed_summed file number cs l.room))
    (ap (fault_at file number BadPadding 0 0) (sealed_padded file number cs l.room))
    commands)
    ∙ ap (λ x. Ok (entries x)) (sealed_in file number cs l.room) ∙ ap (λ x. Ok x) read

read_right : (o : Option BlockFault) (xs es : List Entry) → judged o xs ≡ Ok es → (o ≡ None) × (xs ≡ es)
read_right o xs es h = (grind arith, grind arith)

ended_right : (file number end : ℕ) (r : Result Way BlockFault) → ended file number end r ≡ None → (v : Way) × (r ≡ Ok v) × (end ≤ v.at)
ended_right file number end (Ok v) h = (v, refl, grind (arith, nat_tests))
ended_right file number end (Err f) h = cc

-- what the checks say of a block that passes them
module _ (file number : ℕ) (bs : List ℕ) (long : length bs ≡ 512) (small : Bytes bs) where
  abbrev n : ℕ
  n = number_at 2 2 bs

  abbrev ws : List ℕ
  ws = take n (drop 8 bs)

  length_ws : n ≤ 502 → length ws ≡ n
  length_ws room = length-take-le n (drop 8 bs) (simp length-drop (omega arith))

  header_back : get_or bs 0 0 ≡ 0x42 → get_or bs 1 0 ≡ file → number_at 4 4 bs ≡ number → take 8 bs ≡ header file n number
  header_back t f m =
      sym ((λ i. tag bs small 0x42 (omega arith) t i ++ ((ap (λ b. b ∷ []) (sym f) ∙ sym (byte_field bs small 1 (omega arith))) i ++ (field_back bs small 2 2 (omega arith) i ++ (ap (be 4) (sym m) ∙ field_back bs small 4 4 (omega arith)) i)))
      ∙ ap (λ l. take 1 (drop 0 bs) ++ (take 1 (drop 1 bs) ++ l)) (sym (parts bs small 2 2 4))
      ∙ ap (λ l. take 1 (drop 0 bs) ++ l) (sym (parts bs small 1 1 6)) ∙ sym (parts bs small 0 1 7))

  padding_back : n ≤ 502 → wrong_padding n bs ≡ None → take (502 - n) (drop (8 + n) bs) ≡ replicate (502 - n) 0
  padding_back room p =
      let part = take (502 - n) (drop (8 + n) bs) in
      let size : length part ≡ 502 - n = length-take-le (502 - n) (drop (8 + n) bs) (simp length-drop (omega arith)) in
      only_zeros (8 + n) part p ∙ ap (λ k. replicate k 0) size

  front_is : n ≤ 502 → take 8 bs ≡ header file n number → wrong_padding n bs ≡ None → take 510 bs ≡ summed file number ws
  front_is room head pad =
      let k : n + (502 - n) ≡ 502 = omega arith in
      let same = length_ws room in
      parts bs small 0 8 502
      ∙ ap (λ l. take 8 bs ++ l) (ap (λ j. take j (drop 8 bs)) (sym k) ∙ parts bs small 8 n (502 - n) ∙ ap (λ l. ws ++ l) (padding_back room pad))
      ∙ (λ i. (head ∙ ap (λ j. header file j number) (sym same)) i ++ (ws ++ replicate (502 - sym same i) 0))

  block_is : take 510 bs ≡ summed file number ws → number_at 2 510 bs ≡ fletcher16 (take 510 bs) → bs ≡ sealed file number ws
  unfolding sealed
  block_is front sum =
      let two : length (drop 510 bs) ≤ 2 = simp length-drop (omega arith) in
      let back : drop 510 bs ≡ be 2 (fletcher16 (summed file number ws)) = sym (take_all 2 (drop 510 bs) two) ∙ sym (field_back bs small 2 510 (omega arith)) ∙ ap (be 2) (sum ∙ ap fletcher16 front) in
      sym (take-append-drop 510 bs) ∙ (λ i. front i ++ back i)

-- command bytes that are all commands are written back
commands_back : (file number marked : ℕ) (ws : List ℕ) → Bytes ws → commands_fault file number marked ws ≡ None → content (entries ws) ≡ ws
commands_back file number marked ws small h =
    let e = ended_right file number (8 + length ws) (walk file number marked start (entries ws)) h in
    let v = e.0 in
    let far = walk_far file number marked start v (entries ws) e.1 in
    let f = front_back (length ws) ws (omega arith) small in
    let k = f.0 in
    let size : length (content (entries ws)) ≡ k = ap length f.2 ∙ length-take-le k ws f.1 in
    f.2 ∙ take_all k ws (omega (arith, e.2))

sum_right : (bs : List ℕ) → wrong_sum bs ≡ None → number_at 2 510 bs ≡ fletcher16 (take 510 bs)
sum_right bs h = grind (arith, nat_tests)

-- a block that is read is the block of the commands read
pub block_only_written : (file number marked : ℕ) (bs : List ℕ) → length bs ≡ 512 → Bytes bs → OnlyWritten file number bs (read_answer file number marked bs)
unfolding read_answer
block_only_written file number marked bs long small es h =
    let r = read_right _ (entries (commands_in bs)) es h in
    let a = both_none (header_fault file number bs) _ r.0 in
    let b = both_none (sum_fault file number bs) _ a.1 in
    let c = both_none (padding_fault file number (number_at 2 2 bs) bs) _ b.1 in
    let head = header_right (get_or bs 0 0) (get_or bs 1 0) (number_at 2 2 bs) (number_at 4 4 bs) file number (field_none file number 0 0 BadHeader (wrong_header file number bs) a.0) in
    let sum = sum_right bs (field_none file number 0 0 BadSum (wrong_sum bs) b.0) in
    let pad = field_none file number 0 0 BadPadding (wrong_padding (number_at 2 2 bs) bs) c.0 in
    let room = head.3 in
    let front = front_is file number bs long small room (header_back file number bs long small head.0 head.1 head.4) pad in
    let words = commands_in bs in
    let same : content es ≡ words = ap content (sym r.1) ∙ commands_back file number marked words (take_small (number_at 2 2 bs) (drop 8 bs) (drop_small 8 bs small)) c.1 in
    block_is file number bs long small front sum ∙ ap (sealed file number) (sym same)

-- both laws, for what a reader answers
module _ (file number marked : ℕ) (bs : List ℕ) (r : Result (List Entry) BlockFault) (is : r ≡ read_answer file number marked bs) where
  pub back_from : ReadsBack file number marked bs r
  back_from es l e = is ∙ block_reads_back file number marked bs es l e

  pub only_from : length bs ≡ 512 → Bytes bs → OnlyWritten file number bs r
  only_from long small es h = block_only_written file number marked bs long small es (sym is ∙ h)
