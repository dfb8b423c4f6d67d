-- Commands one after the other in a block, over the number of command bytes that it has room for.
use Rattle.std.specs.Prelude.{◌≡◌, ℕ, ◌+◌, ◌<◌, Bool, true, false, cond, List, [], ◌∷◌, ◌++◌, length}
use Rattle.block.specs.declared.entry.Entry.{Entry}
use Rattle.block.specs.declared.entry.Entry.TheVariants.{Txn, Put, Del, Row, Gone}
use Rattle.block.specs.Fitting.{fits}
use Rattle.block.specs.Format.{bytes_of, size_of, content}

-- a command goes in exactly if it fits
abbrev pub with_entry : ℕ → List ℕ → Entry → List ℕ
with_entry r cs e = cond (fits r (length cs) (size_of e)) (cs ++ bytes_of e) cs

abbrev pub with_entries : ℕ → List ℕ → List Entry → List ℕ
with_entries r cs [] = cs
with_entries r cs (e ∷ es) = with_entries r (with_entry r cs e) es

-- any commands of so many bytes go in whole
abbrev pub GoesIn : ℕ → List ℕ → ℕ → Type 0
GoesIn r cs more = (es : List Entry) → length (content es) ≡ more → with_entries r cs es ≡ cs ++ content es

-- the writes and the erases among some commands
abbrev pub writes_in : List Entry → ℕ
writes_in [] = 0
writes_in (Txn tid ∷ es) = writes_in es
writes_in (Put key value ∷ es) = 1 + writes_in es
writes_in (Del key ∷ es) = writes_in es
writes_in (Row tid key value ∷ es) = writes_in es
writes_in (Gone tid key ∷ es) = writes_in es

abbrev pub erases_in : List Entry → ℕ
erases_in [] = 0
erases_in (Txn tid ∷ es) = erases_in es
erases_in (Put key value ∷ es) = erases_in es
erases_in (Del key ∷ es) = 1 + erases_in es
erases_in (Row tid key value ∷ es) = erases_in es
erases_in (Gone tid key ∷ es) = erases_in es

abbrev pub is_change : Entry → Bool
is_change (Txn tid) = false
is_change (Put key value) = true
is_change (Del key) = true
is_change (Row tid key value) = false
is_change (Gone tid key) = false

abbrev pub Changes : List Entry → Type 0
Changes [] = Unit {0}
Changes (e ∷ es) = (is_change e ≡ true) × Changes es

-- so many bytes hold a TXN and its changes, if there are any
abbrev pub Counts : ℕ → ℕ → ℕ → Type 0
Counts writes erases bytes =
    (tid : ℕ) (es : List Entry) → Changes es → writes_in es ≡ writes → erases_in es ≡ erases → 0 < writes + erases → length (content (Txn tid ∷ es)) ≡ bytes
