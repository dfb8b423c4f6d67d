-- The commands of some bytes, one step at a time.
use Rattle.std.proofs.Common.{◌≡◌, ℕ, zero, suc, ◌-◌, List, [], ◌∷◌, drop, Some, None, sym, refl, ap, ◌∙◌, arith}
use Rattle.block.specs.declared.entry.Entry.{Entry}
use Rattle.block.specs.Format.{size_of}
use Rattle.block.specs.Parsing.{first_entry, and_then, entries_behind, entries}

pub size_suc : (e : Entry) → size_of e ≡ suc (size_of e - 1)
size_suc e = grind arith

behind : (k : ℕ) (bs : List ℕ) → entries_behind k bs ≡ entries_behind 0 (drop k bs)
behind zero bs = refl
behind (suc k) [] = refl
behind (suc k) (b ∷ bs) = behind k bs

pub entries_none : (bs : List ℕ) → first_entry bs ≡ None → entries bs ≡ []
unfolding entries
entries_none [] h = refl
entries_none (b ∷ bs) h = ap (λ o. and_then o (λ n. entries_behind (n - 1) bs)) h

pub entries_some : (bs : List ℕ) (e : Entry) → first_entry bs ≡ Some e → entries bs ≡ e ∷ entries (drop (size_of e) bs)
unfolding entries
entries_some [] e h = cc
entries_some (b ∷ bs) e h =
    ap (λ o. and_then o (λ n. entries_behind (n - 1) bs)) h
    ∙ ap (λ es. e ∷ es) (behind (size_of e - 1) bs ∙ ap (λ k. entries_behind 0 (drop k (b ∷ bs))) (sym (size_suc e)))
