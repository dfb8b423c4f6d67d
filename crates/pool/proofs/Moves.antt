-- One entry of a table moves from one place to another.
use Rattle.std.proofs.Common.{◌≡◌, ℕ, ◌<◌, ◌≢◌, ◌⊎◌, List, length, get_or, set, sym, ap, ◌∙◌, ⊎_elim, arith, get_or-set_other, get_or-set_same}

module _ (table : List ℕ) (src dst : ℕ) (within : dst < length table) (Old New : ℕ → Type 0) (source : Old src) (sorts : (s : ℕ) → New s → (s ≡ dst) ⊎ (Old s × (s ≢ dst) × (s ≢ src))) where
  at_dst : (s : ℕ) → s ≡ dst → get_or (set table dst (get_or table src 0)) s 0 ≡ get_or table src 0
  at_dst s e = ap (λ j. get_or (set table dst (get_or table src 0)) j 0) e ∙ get_or-set_same table dst (get_or table src 0) 0 within

  off_dst : (s : ℕ) → s ≢ dst → get_or (set table dst (get_or table src 0)) s 0 ≡ get_or table s 0
  off_dst s n = get_or-set_other table dst s (get_or table src 0) 0 n

  pub moved_distinct : ((s t : ℕ) → Old s × Old t × (s ≢ t) × (get_or table s 0 ≡ get_or table t 0) → ⊥) → (s t : ℕ) → New s × New t × (s ≢ t) × (get_or (set table dst (get_or table src 0)) s 0 ≡ get_or (set table dst (get_or table src 0)) t 0) → ⊥
  moved_distinct distinct s t p =
      let e = p.3 in
      ⊎_elim
      (λ sd. ⊎_elim
      (λ td. p.2 (sd ∙ sym td))
      (λ ot. distinct src t (source, ot.0, (λ q. ot.2 (sym q)), sym (at_dst s sd) ∙ e ∙ off_dst t ot.1))
      (sorts t p.1))
      (λ os. ⊎_elim
      (λ td. distinct s src (os.0, source, os.2, sym (off_dst s os.1) ∙ e ∙ at_dst t td))
      (λ ot. distinct s t (os.0, ot.0, p.2, sym (off_dst s os.1) ∙ e ∙ off_dst t ot.1))
      (sorts t p.1))
      (sorts s p.0)

  pub moved_ranged : (n : ℕ) → ((s : ℕ) → Old s → get_or table s 0 < n) → (s : ℕ) → New s → get_or (set table dst (get_or table src 0)) s 0 < n
  moved_ranged n ranged s ns =
      ⊎_elim
      (λ sd. let e = at_dst s sd in let r = ranged src source in omega arith)
      (λ os. let e = off_dst s os.1 in let r = ranged s os.0 in omega arith)
      (sorts s ns)
