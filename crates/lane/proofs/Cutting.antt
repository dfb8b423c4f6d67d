-- One file cut after the other.
use Rattle.std.proofs.Common.{◌≡◌, ℕ, ◌+◌, ◌-◌, ◌<◌, ◌≤◌, min, List, [], ◌∷◌, ◌++◌, map, length, get_or, take, drop, set, sym, ap, ◌∙◌, append_assoc, add-one, arith, drop-cons}
use Rattle.std.proofs.lemmas.List.{take_all, drop_all, drop_min, take_more_set, drop-set-lt, length-append, length-take-le, append-nil, get_or-map}
use lib.ListN.{length-map}
use Rattle.std.proofs.lemmas.List.FromFn.{get_or-range_with_len}
use Rattle.std.specs.List.{range_with_len}
use Rattle.base.specs.Files.{index_of}
use Rattle.base.specs.declared.file.File.{File}
use Rattle.medium.specs.Model.{FileModel, MediumModel, file_of, with_file, no_file}
use Rattle.medium.specs.Steps.{all_synced}
use Rattle.medium.specs.Sound.{SoundFile, Sound}
use Rattle.medium.specs.Cuts.{lasting, unsynced, trimmed, extended, cut_file, cut_files}
use Rattle.lane.proofs.Files.{file_with, with_with}

-- what lasts, with a tail, all synced
synced_tail : (x : FileModel) (tail : List (List ℕ)) → SoundFile x → all_synced (extended (trimmed x (x.synced - x.first)) tail) ≡ cut_file x tail
synced_tail x tail s =
    let a = s.dropped in
    let b = s.lasting in
    let many : x.first + length (lasting x ++ tail) ≡ x.synced + length tail = omega (arith, length-append (lasting x) tail, length-take-le (x.synced - x.first) x.kept (omega arith)) in
    λ i. record { capacity = x.capacity; first = x.first; kept = lasting x ++ tail; synced = many i }

pub cut_one : (m n o p : MediumModel) (f : ℕ) (tail : List (List ℕ)) → f < 8 → Sound m → n ≡ with_file m f (trimmed (file_of m f) ((file_of m f).synced - (file_of m f).first)) → o ≡ with_file n f (extended (file_of n f) tail) → p ≡ with_file o f (all_synced (file_of o f)) → p ≡ with_file m f (cut_file (file_of m f) tail)
cut_one m n o p f tail low s e1 e2 e3 =
    let lt : f < length m.files = omega (arith, s.eight) in
    let x = file_of m f in
    let y = trimmed x (x.synced - x.first) in
    let at_n : file_of n f ≡ y = ap (λ z. file_of z f) e1 ∙ file_with m f y lt in
    let both : o ≡ with_file m f (extended y tail) = e2 ∙ ap (λ z. with_file z f (extended (file_of n f) tail)) e1 ∙ with_with m f y (extended (file_of n f) tail) ∙ ap (λ z. with_file m f (extended z tail)) at_n in
    let at-o : file_of o f ≡ extended y tail = ap (λ z. file_of z f) both ∙ file_with m f (extended y tail) lt in
    e3 ∙ ap (λ z. with_file z f (all_synced (file_of o f))) both ∙ with_with m f (extended y tail) (all_synced (file_of o f))
    ∙ ap (with_file m f) (ap all_synced at-o ∙ synced_tail x tail (s.files f low))

-- of all files in order, the one at a place has its number
pub nth_file : (files : List File) → map index_of files ≡ range_with_len 0 8 → (i : ℕ) (d : File) → i < 8 → index_of (get_or files i d) ≡ i
nth_file files is i d low =
    let long : length files ≡ 8 = sym (length-map files index_of) ∙ ap length is in
    let at = sym (get_or-map index_of files i d 0 (omega arith)) ∙ ap (λ ks. get_or ks i 0) is ∙ get_or-range_with_len 0 8 i 0 low in
    omega (arith, at)

-- the files cut so far, then the rest as a cut leaves it
abbrev pub so_far : List FileModel → List ℕ → ℕ → List (List ℕ) → List FileModel
so_far fs ns f rest = take f fs ++ cut_files (drop f fs) (drop f ns) rest

pub cut_next : (fs : List FileModel) (ns : List ℕ) (f : ℕ) (rest : List (List ℕ)) → f < length fs → f < length ns → so_far (set fs f (cut_file (get_or fs f no_file) (take (min (get_or ns f 0) (unsynced (get_or fs f no_file))) rest))) ns (f + 1) (drop (min (get_or ns f 0) (length rest)) rest) ≡ so_far fs ns f rest
cut_next fs ns f rest lf ln =
    let x = get_or fs f no_file in
    let n = get_or ns f 0 in
    let y = cut_file x (take (min n (unsynced x)) rest) in
    let more : List FileModel = cut_files (drop (f + 1) fs) (drop (f + 1) ns) (drop n rest) in
    let files : drop f fs ≡ x ∷ drop (f + 1) fs = rw (add-one, drop-cons fs f no_file) in
    let shown : drop f ns ≡ n ∷ drop (f + 1) ns = rw (add-one, drop-cons ns f 0) in
    let right : so_far fs ns f rest ≡ take f fs ++ (y ∷ more) = λ i. take f fs ++ cut_files (files i) (shown i) rest in
    let front = take_more_set fs f y lf in
    let back = drop-set-lt (f + 1) fs f y (omega arith) in
    let tail = drop_min n rest in
    (λ i. front i ++ cut_files (back i) (drop (f + 1) ns) (tail i))
    ∙ append_assoc (take f fs) (y ∷ []) more
    ∙ sym right

pub all_cut : (fs gs : List FileModel) (ns : List ℕ) (tails : List (List ℕ)) (f : ℕ) (rest : List (List ℕ)) → length gs ≤ f → so_far gs ns f rest ≡ cut_files fs ns tails → gs ≡ cut_files fs ns tails
all_cut fs gs ns tails f rest past e =
    let none : so_far gs ns f rest ≡ gs = (λ i. take_all f gs past i ++ cut_files (drop_all f gs past i) (drop f ns) rest) ∙ append-nil gs in
    sym none ∙ e
