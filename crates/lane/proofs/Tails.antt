-- A file that gets blocks one by one.
use Rattle.std.proofs.Common.{◌≡◌, ℕ, ◌+◌, ◌<◌, ◌≤◌, false, List, [], ◌∷◌, ◌++◌, length, get_or, take, sym, ap, ◌∙◌, append_assoc, arith}
use Rattle.std.proofs.lemmas.List.{take_more, length-take-le, length-append, append-nil}
use Rattle.std.proofs.lemmas.Bool.{or_from, ne_eqb}
use Rattle.medium.specs.Model.{FileModel, MediumModel, file_of, count_of, with_file}
use Rattle.medium.specs.Steps.{longer, is_full}
use Rattle.medium.specs.Cuts.{extended}
use Rattle.lane.proofs.Files.{file_with, with_with, with_own}

extended_own : (x : FileModel) → extended x [] ≡ x
extended_own x = let e = append-nil x.kept in λ i. record { capacity = x.capacity; first = x.first; kept = e i; synced = x.synced }

extended_more : (x : FileModel) (bs : List (List ℕ)) (b : List ℕ) → longer (extended x bs) b ≡ extended x (bs ++ (b ∷ []))
extended_more x bs b = let e = append_assoc x.kept bs (b ∷ []) in λ i. record { capacity = x.capacity; first = x.first; kept = e i; synced = x.synced }

pub none_added : (m : MediumModel) (f : ℕ) → m ≡ with_file m f (extended (file_of m f) [])
none_added m f = sym (ap (with_file m f) (extended_own (file_of m f)) ∙ with_own m f)

module _ (m n : MediumModel) (f i : ℕ) (bs : List (List ℕ)) (lt : f < length m.files) (was : n ≡ with_file m f (extended (file_of m f) (take i bs))) (here : i < length bs) where
  now_longer : file_of n f ≡ extended (file_of m f) (take i bs)
  now_longer = ap (λ z. file_of z f) was ∙ file_with m f (extended (file_of m f) (take i bs)) lt

  pub still_room : (many : ℕ) → i < many → length (file_of m f).kept + many ≤ (file_of m f).capacity → count_of (file_of m f) + many ≤ 16777215 → is_full (file_of n f) ≡ false
  still_room many less a b =
      let c = ap (λ (x : FileModel). x.capacity) now_longer in
      let d = ap (λ (x : FileModel). x.first) now_longer in
      let e : length (file_of n f).kept ≡ length (file_of m f).kept + i = ap (λ (x : FileModel). length x.kept) now_longer ∙ length-append (file_of m f).kept (take i bs) ∙ ap (λ k. length (file_of m f).kept + k) (length-take-le i bs (omega arith)) in
      or_from _ _ (ne_eqb (length (file_of n f).kept) (file_of n f).capacity (λ q. omega arith)) (ne_eqb (count_of (file_of n f)) 16777215 (λ q. omega arith))

  pub one_added : (o : MediumModel) (b : List ℕ) → b ≡ get_or bs i [] → o ≡ with_file n f (longer (file_of n f) b) → o ≡ with_file m f (extended (file_of m f) (take (i + 1) bs))
  one_added o b at is =
      is
      ∙ ap (λ z. with_file z f (longer (file_of n f) b)) was
      ∙ with_with m f (extended (file_of m f) (take i bs)) (longer (file_of n f) b)
      ∙ ap (with_file m f) (ap (λ x. longer x b) now_longer ∙ extended_more (file_of m f) (take i bs) b ∙ ap (λ c. extended (file_of m f) (take i bs ++ (c ∷ []))) at ∙ ap (extended (file_of m f)) (sym (take_more bs i [] here)))
