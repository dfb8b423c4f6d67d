-- The first fault of a block, check by check.
use Rattle.std.proofs.Common.{◌≡◌, ℕ, ◌+◌, ◌-◌, List, take, drop, Some, None, Ok, Err, Option, Result, ap, arith}
use Rattle.base.specs.Bytes.{number_at}
use Rattle.base.specs.Faults.{BlockFault}
use Rattle.block.specs.Checks.{passed, header_fault, sum_fault, padding_fault, commands_fault, commands_in, read_answer}
use Rattle.block.specs.Parsing.{entries}

-- what a check answered tells what it found
pub found : {A : Type 0} (x : A) (o : Option BlockFault) (f : BlockFault) → Err f ≡ passed x o → o ≡ Some f
found x o f h = grind arith

pub clean : {A : Type 0} (x y : A) (o : Option BlockFault) → Ok y ≡ passed x o → o ≡ None
clean x y o h = grind arith

pub same_answer : {A : Type 0} (x y : A) (o : Option BlockFault) → Ok y ≡ passed x o → y ≡ x
same_answer x y o h = grind arith

-- a block that no check finds a fault in
pub no_fault : (file number marked : ℕ) (bs : List ℕ) → header_fault file number bs ≡ None → sum_fault file number bs ≡ None → padding_fault file number (number_at 2 2 bs) bs ≡ None → commands_fault file number marked (commands_in bs) ≡ None → Ok (entries (commands_in bs)) ≡ read_answer file number marked bs
unfolding read_answer
no_fault file number marked bs h s p c = grind arith

-- a check that found nothing, and one that found a fault
abbrev pub Passes : Option BlockFault → Type 0
Passes o = ◌≡◌ {A = Result (Unit {0}) BlockFault} (Ok tt) (passed tt o)

abbrev pub Stops : BlockFault → Option BlockFault → Type 0
Stops f o = ◌≡◌ {A = Result (Unit {0}) BlockFault} (Err f) (passed tt o)

-- what the checks answered in turn, n being what the header's said, decides what the reader answers
module _ (file number marked n : ℕ) (bs : List ℕ) where
  abbrev pub Headed : Type 0
  Headed = Ok n ≡ passed (number_at 2 2 bs) (header_fault file number bs)

  abbrev pub Summed : Type 0
  Summed = Passes (sum_fault file number bs)

  abbrev pub Padded : Type 0
  Padded = Passes (padding_fault file number n bs)

  abbrev words : List ℕ
  words = take (8 + n - 8) (drop 8 bs)

  in_words : Headed → commands_in bs ≡ words
  in_words h = let e : number_at 2 2 bs ≡ 8 + n - 8 = (let s = same_answer (number_at 2 2 bs) n (header_fault file number bs) h in omega arith) in ap (λ k. take k (drop 8 bs)) e

  pub at_header : (f : BlockFault) → Err f ≡ passed (number_at 2 2 bs) (header_fault file number bs) → Err f ≡ read_answer file number marked bs
  unfolding read_answer
  at_header f e = grind arith

  pub at_sum : (f : BlockFault) → Headed → Stops f (sum_fault file number bs) → Err f ≡ read_answer file number marked bs
  unfolding read_answer
  at_sum f h e = grind arith

  pub at_padding : (f : BlockFault) → Headed → Summed → Stops f (padding_fault file number n bs) → Err f ≡ read_answer file number marked bs
  unfolding read_answer
  at_padding f h s e = grind arith

  pub at_commands : (f : BlockFault) → Headed → Summed → Padded → Stops f (commands_fault file number marked words) → Err f ≡ read_answer file number marked bs
  unfolding read_answer
  at_commands f h s p e = let w = in_words h in grind arith

  pub all_clean : Headed → Summed → Padded → Passes (commands_fault file number marked words) → Ok (entries words) ≡ read_answer file number marked bs
  unfolding read_answer
  all_clean h s p e = let w = in_words h in grind arith
