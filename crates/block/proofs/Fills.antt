-- What fits goes in whole, whatever the room.
use Rattle.std.proofs.Common.{◌≡◌, ℕ, ◌+◌, ◌*◌, ◌≤◌, cond, List, [], ◌∷◌, ◌++◌, length, sym, refl, ap, ◌∙◌, append_assoc, arith, length-append}
use Rattle.std.proofs.lemmas.List.{append-nil}
use Rattle.std.proofs.lemmas.Bool.{le-leb}
use Rattle.block.specs.declared.entry.Entry.{Entry}
use Rattle.block.specs.declared.entry.Entry.TheVariants.{Txn, Put, Del, Row, Gone}
use Rattle.block.specs.Filling.{with_entry, with_entries, writes_in, erases_in, Changes}
use Rattle.block.specs.Format.{bytes_of, size_of, content}
use Rattle.block.proofs.Coding.{length_bytes}

pub goes_in : (r : ℕ) (cs : List ℕ) (es : List Entry) → length cs + length (content es) ≤ r → with_entries r cs es ≡ cs ++ content es
goes_in r cs [] h = sym (append-nil cs)
goes_in r cs (e ∷ es) h =
    let l = length-append (bytes_of e) (content es) in
    let b = length_bytes e in
    let here : with_entry r cs e ≡ cs ++ bytes_of e = ap (λ t. cond t (cs ++ bytes_of e) cs) (le-leb (length cs + size_of e) r (omega arith)) in
    ap (λ ds. with_entries r ds es) here ∙ goes_in r (cs ++ bytes_of e) es (omega (arith, length-append cs (bytes_of e))) ∙ append_assoc cs (bytes_of e) (content es)

pub counted : (es : List Entry) → Changes es → length (content es) ≡ 26 * writes_in es + 18 * erases_in es
counted [] c = refl
counted (Txn tid ∷ es) c = let h = c.0 in cc
counted (Put key value ∷ es) c = omega (arith, length-append (bytes_of (Put key value)) (content es), length_bytes (Put key value), counted es c.1)
counted (Del key ∷ es) c = omega (arith, length-append (bytes_of (Del key)) (content es), length_bytes (Del key), counted es c.1)
counted (Row tid key value ∷ es) c = let h = c.0 in cc
counted (Gone tid key ∷ es) c = let h = c.0 in cc
