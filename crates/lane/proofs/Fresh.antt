-- Lanes with no block mean a fresh medium.
use Rattle.std.proofs.Common.{◌≡◌, ℕ, ◌<◌, ◌≤◌, List, [], ◌∷◌, map, length, get_or, sym, refl, ap, ◌∙◌, subst, arith}
use lib.ListN.{length-map}
use Rattle.std.proofs.lemmas.List.{get_or-map, same_lists}
use Rattle.medium.specs.declared.mark.Mark.{Mark}
use Rattle.medium.specs.Model.{FileModel, file_of}
use Rattle.medium.specs.Sound.{zeros, fresh_file, fresh_of, Fresh, SoundFile, Sound}
use Rattle.lane.specs.declared.lane.Lane.{Lane}
use Rattle.lane.specs.Lanes.{Sized, Unused}
use Rattle.lane.specs.Meaning.{kept_of, file_of_lane, model_of}
use Rattle.lane.proofs.Kept.{length_kept}

no_items : {X : Type 0} (xs : List X) → length xs ≡ 0 → xs ≡ []
no_items [] e = refl
no_items (x ∷ xs) e = absurd (omega arith)

fresh_lane : (cell : ℕ → List ℕ) (l : Lane) (c : ℕ) → l.capacity ≡ c → l.count ≡ 0 → file_of_lane cell l ≡ fresh_file c
fresh_lane cell l c e z =
    let none = no_items (kept_of cell l) (omega (arith, length_kept cell l)) in
    let f : l.first ≡ 0 = omega (arith, l.dropped, l.lasting) in
    let s : l.synced ≡ 0 = omega (arith, l.lasting) in
    λ i. record { capacity = e i; first = f i; kept = none i; synced = s i }

module _ (cell : ℕ → List ℕ) (ls : List Lane) (cs : List ℕ) (eight : length ls ≡ 8) (all : length cs ≡ 8) (sized : Sized ls cs) (unused : Unused ls) where
  files_at : (d : Lane) → map (file_of_lane cell) ls ≡ map fresh_file cs
  files_at d =
      same_lists _ _ (length-map ls (file_of_lane cell) ∙ eight ∙ sym all ∙ sym (length-map cs fresh_file))
      (λ k e lt.
      let low : k < 8 = omega (arith, length-map ls (file_of_lane cell)) in
      get_or-map (file_of_lane cell) ls k d e (omega arith)
      ∙ fresh_lane cell (get_or ls k d) (get_or cs k 0) (sized k d low) (unused k d low)
      ∙ sym (get_or-map fresh_file cs k 0 e (omega arith)))

files_of : (cell : ℕ → List ℕ) (ls : List Lane) (cs : List ℕ) → length ls ≡ 8 → length cs ≡ 8 → Sized ls cs → Unused ls → map (file_of_lane cell) ls ≡ map fresh_file cs
files_of cell [] cs eight all sized unused = absurd (omega arith)
files_of cell (d ∷ ls) cs eight all sized unused = files_at cell (d ∷ ls) cs eight all sized unused d

pub fresh_model : (cell : ℕ → List ℕ) (ls : List Lane) (mark : Mark) (cs : List ℕ) → length ls ≡ 8 → length cs ≡ 8 → Sized ls cs → Unused ls → mark ≡ zeros → model_of cell ls mark ≡ fresh_of cs
fresh_model cell ls mark cs eight all sized unused e = λ i. record { files = files_of cell ls cs eight all sized unused i; mark = e i }

fresh_at : (cs : List ℕ) (f : ℕ) → length cs ≡ 8 → f < 8 → file_of (fresh_of cs) f ≡ fresh_file (get_or cs f 0)
fresh_at cs f all low = get_or-map fresh_file cs f 0 _ (omega arith)

pub fresh_is : (cs : List ℕ) → length cs ≡ 8 → Fresh (fresh_of cs)
fresh_is cs all =
    record {
      files = λ f low. let e = fresh_at cs f all low in record { first = ap (λ (x : FileModel). x.first) e; kept = ap (λ (x : FileModel). x.kept) e; synced = ap (λ (x : FileModel). x.synced) e };
      mark = refl;
    }

capacity_fits : (ls : List Lane) (cs : List ℕ) → length ls ≡ 8 → Sized ls cs → (f : ℕ) → f < 8 → (1 ≤ get_or cs f 0) × (get_or cs f 0 ≤ 4096)
capacity_fits [] cs eight sized f low = absurd (omega arith)
capacity_fits (d ∷ ls) cs eight sized f low = let l = get_or (d ∷ ls) f d in (omega (arith, sized f d low, l.some), omega (arith, sized f d low, l.few))

pub fresh_sound : (ls : List Lane) (cs : List ℕ) → length ls ≡ 8 → length cs ≡ 8 → Sized ls cs → Sound (fresh_of cs)
fresh_sound ls cs eight all sized =
    record {
      eight = length-map cs fresh_file ∙ all;
      files = λ f low.
          let fits = capacity_fits ls cs eight sized f low in
          let file : SoundFile (fresh_file (get_or cs f 0)) = record { some = fits.0; few = fits.1; room = omega arith; dropped = omega arith; lasting = omega arith; most = omega arith; whole = λ k lt. absurd (omega arith) } in
          subst SoundFile (sym (fresh_at cs f all low)) file;
      mark = record { starts = refl; ends = refl };
    }
