-- Steps of the sum.
use Rattle.std.proofs.Common.{◌≡◌, ℕ, ◌+◌, ◌-◌, ◌<◌, ◌≤◌, Bool, true, false, cond, List, [], length, get_or, take, Ok, Err, refl, ap, ◌∙◌, arith}
use Rattle.std.proofs.lemmas.List.{get_or_default, take_all}
use Rattle.std.proofs.lemmas.List.Sums.{sum_by_more}
use Rattle.std.proofs.lemmas.Bool.{le-ltb, lt-leb, or_from}
use Rattle.base.specs.declared.refusal.Refusal.{Refusal}
use Rattle.base.specs.declared.refusal.Refusal.TheVariants.{NoSuchIndex}
use Rattle.medium.specs.Model.{FileModel, MediumModel, file_of, count_of}
use Rattle.medium.specs.Steps.{no_such_file, told, lacks, fetch_into}
use Rattle.mediumdemo.specs.Tally.{total, tally_answer}

either_way : (b : Bool) (x y : ℕ) (e : Refusal) → Ok x ≡ cond b (Err e) (Ok y) → (b ≡ false) × (x ≡ y)
either_way true x y e h = absurd (let z : ◌≡◌ {A = ℕ} 0 1 = cc in omega arith)
either_way false x y e h = (refl, cc)

-- a question that was answered says that there is such a file, and what stands there
pub was_told : (m : MediumModel) (f x : ℕ) (part : FileModel → ℕ) → Ok x ≡ told m f part → (no_such_file f ≡ false) × (x ≡ part (file_of m f))
was_told m f x part h = either_way (no_such_file f) x (part (file_of m f)) NoSuchIndex h

pub fetched : (m : MediumModel) (f n : ℕ) (old : List ℕ) → no_such_file f ≡ false → (file_of m f).first ≤ n → n < count_of (file_of m f) → fetch_into m f n old ≡ get_or (file_of m f).kept (n - (file_of m f).first) []
fetched m f n old low a b =
    let some : lacks (file_of m f) n ≡ false = or_from _ _ (le-ltb _ _ a) (lt-leb (count_of (file_of m f)) n b) in
    rw (low, some) (get_or_default (file_of m f).kept (n - (file_of m f).first) old [] (omega arith))

pub one_more : (bs : List (List ℕ)) (i j sum : ℕ) (b : List ℕ) → i < length bs → j ≡ i + 1 → b ≡ get_or bs i [] → sum ≡ total (take i bs) → sum + get_or b 0 0 ≡ total (take j bs)
one_more bs i j sum b lt next is inv =
    let a = sum_by_more (λ (x : List ℕ). get_or x 0 0) bs i [] lt in
    let c = ap (λ x. get_or x 0 0) is in
    let d = ap (λ k. total (take k bs)) next in
    omega arith

pub all_done : (m : MediumModel) (f i sum : ℕ) → no_such_file f ≡ false → length (file_of m f).kept ≤ i → sum ≡ total (take i (file_of m f).kept) → Ok sum ≡ tally_answer m f
all_done m f i sum low past inv =
    let all = ap total (take_all i (file_of m f).kept past) in
    let e : sum ≡ total (file_of m f).kept = omega arith in
    ap (λ n. Ok n) e ∙ rw low
