-- What a cut leaves is what a cut may leave.
use Rattle.std.proofs.Common.{◌≡◌, ℕ, zero, suc, ◌+◌, ◌<◌, ◌≤◌, min, List, [], ◌∷◌, ◌++◌, length, get_or, take, drop, refl, ap, ◌∙◌, subst, arith}
use Rattle.std.proofs.lemmas.List.{length-append, length-take, get_or-append_right}
use Rattle.medium.specs.Model.{FileModel, MediumModel, file_of, no_file}
use Rattle.medium.specs.Sound.{Block, SoundFile, Sound}
use Rattle.medium.specs.Cuts.{lasting, unsynced, cut_file, Cut, cut_files, cut_after}

record Part (f g : FileModel) : Type 0 where
  tail : List (List ℕ)
  short : length tail ≤ unsynced f
  is : g ≡ cut_file f tail

part : (fs : List FileModel) (ns : List ℕ) (tails : List (List ℕ)) (f : ℕ) → f < length fs → Part (get_or fs f no_file) (get_or (cut_files fs ns tails) f no_file)
part [] ns tails f lt = absurd (omega arith)
part (x ∷ fs) [] tails zero lt = record { tail = []; short = omega arith; is = refl }
part (x ∷ fs) [] tails (suc f) lt = part fs [] tails f (omega arith)
part (x ∷ fs) (n ∷ ns) tails zero lt = record { tail = take (min n (unsynced x)) tails; short = omega (arith, length-take (min n (unsynced x)) tails); is = refl }
part (x ∷ fs) (n ∷ ns) tails (suc f) lt = part fs ns (drop n tails) f (omega arith)

as_many : (fs : List FileModel) (ns : List ℕ) (tails : List (List ℕ)) → length (cut_files fs ns tails) ≡ length fs
as_many [] ns tails = refl
as_many (x ∷ fs) [] tails = ap suc (as_many fs [] tails)
as_many (x ∷ fs) (n ∷ ns) tails = ap suc (as_many fs ns (drop n tails))

-- the blocks of a tail are blocks, since all that the file keeps are
tail_whole : (f g : FileModel) (tail : List (List ℕ)) → g ≡ cut_file f tail → SoundFile g → (k : ℕ) → k < length tail → Block (get_or tail k [])
tail_whole f g tail is s k lt =
    let all : (j : ℕ) → j < length (lasting f ++ tail) → Block (get_or (lasting f ++ tail) j []) = (subst SoundFile is s).whole in
    let n = length (lasting f) in
    let at : get_or (lasting f ++ tail) (n + k) [] ≡ get_or tail k [] = get_or-append_right (lasting f) tail n (n + k) [] refl (omega arith) ∙ ap (λ j. get_or tail j []) (omega arith) in
    subst Block at (all (n + k) (omega (arith, length-append (lasting f) tail)))

pub cut_allowed : (m : MediumModel) (ns : List ℕ) (tails : List (List ℕ)) → Sound m → Sound (cut_after m ns tails) → Cut m (cut_after m ns tails)
cut_allowed m ns tails s t =
    record {
      eight = as_many m.files ns tails ∙ s.eight;
      files = λ f lt.
          let p = part m.files ns tails f (omega (arith, s.eight)) in
          record { tail = p.tail; short = p.short; whole = tail_whole (file_of m f) (file_of (cut_after m ns tails) f) p.tail p.is (t.files f lt); is = p.is };
      mark = refl;
    }
