-- What a change of the slots does to the kept blocks of each file.
use Rattle.std.proofs.Common.{◌≡◌, ℕ, zero, suc, ◌+◌, ◌-◌, ◌/◌, ◌%◌, ◌<◌, ◌≤◌, ◌≢◌, List, [], ◌∷◌, ◌++◌, map, length, get_or, take, drop, set, sym, refl, ap, ◌∙◌, subst, ⊎_elim, mul-le-mul_right, mod-lt, suc-mul, div-add-mod', arith, get_or-set_other, get_or-set_same}
use lib.ListN.{length-map}
use lib.Seq.{map-set}
use Rattle.std.specs.List.{range_with_len}
use Rattle.std.proofs.lemmas.List.FromFn.{length-map-range_with_len, get_or-map-range_with_len, map-range_with_len_more}
use Rattle.std.proofs.lemmas.List.{get_or-map, same_lists, length-drop, get_or-drop, length-take-le, get_or-take}
use Rattle.std.proofs.lemmas.Bool.{cases_lt, cases_eq}
use Rattle.medium.specs.declared.mark.Mark.{Mark}
use Rattle.medium.specs.Model.{FileModel, file_of, with_file, count_of}
use Rattle.medium.specs.Steps.{longer, all_synced, retired}
use Rattle.medium.specs.Cuts.{trimmed}
use Rattle.lane.specs.declared.lane.Lane.{Lane}
use Rattle.lane.specs.Lanes.{no_lane, lane_of, slot, Apart, Inside}
use Rattle.lane.specs.Meaning.{kept_of, file_of_lane, model_of}
use Rattle.lane.specs.Steps.{SamePlace, Grows, Stays}

-- two numbers less than m apart have different remainders
pub apart_mod : (a b m : ℕ) → 0 < m → a < b → b < a + m → a % m ≡ b % m → ⊥
apart_mod a b m pos lt near e =
    let qa = div-add-mod' a m in
    let qb = div-add-mod' b m in
    ⊎_elim
    (λ h. let step = mul-le-mul_right {m = suc (a / m)} {n = b / m} m h in omega (arith, suc-mul (a / m) m))
    (λ h. let step = mul-le-mul_right {m = b / m} {n = a / m} m h in omega arith)
    (cases_lt (a / m) (b / m))

-- two kept numbers of a lane, and the next one, have slots of their own
pub own_slot : (l : Lane) (j k : ℕ) → l.first ≤ j → j < k → k ≤ l.count → k < l.first + l.capacity → slot l j ≢ slot l k
own_slot l j k low lt high near e = apart_mod j k l.capacity l.some lt (omega arith) (omega arith)

-- the slots of two lanes are apart
pub other_slot : (ls : List Lane) (i j : ℕ) (d : Lane) (a b : ℕ) → Apart ls → i < 8 → j < 8 → i ≢ j → slot (get_or ls i d) a ≢ slot (get_or ls j d) b
other_slot ls i j d a b apart li lj ne e =
    let mine = mod-lt a (get_or ls i d).some in
    let his = mod-lt b (get_or ls j d).some in
    ⊎_elim
    (λ below. omega (arith, apart i j d (below, lj)))
    (λ above. let lt : j < i = omega arith in omega (arith, apart j i d (lt, li)))
    (cases_lt i j)

pub slot_inside : (ls : List Lane) (i : ℕ) (d : Lane) (a n : ℕ) → (get_or ls i d).base + (get_or ls i d).capacity ≤ n → slot (get_or ls i d) a < n
slot_inside ls i d a n h = omega (arith, mod-lt a (get_or ls i d).some)

map_same : {X : Type 0} (f g : ℕ → X) (a n : ℕ) → ((k : ℕ) → a ≤ k → k < a + n → f k ≡ g k) → map f (range_with_len a n) ≡ map g (range_with_len a n)
map_same f g a zero h = refl
map_same f g a (suc n) h = λ i. h a (omega arith) (omega arith) i ∷ map_same f g (a + 1) n (λ k l u. h k (omega arith) (omega arith)) i

pub length_kept : (cell : ℕ → List ℕ) (l : Lane) → length (kept_of cell l) ≡ l.count - l.first
unfolding kept_of
length_kept cell l = length-map-range_with_len _ l.first (l.count - l.first)

pub at_kept : (cell : ℕ → List ℕ) (l : Lane) (n : ℕ) (b : List ℕ) → l.first ≤ n → n < l.count → get_or (kept_of cell l) (n - l.first) b ≡ cell (slot l n)
unfolding kept_of
at_kept cell l n b low high = get_or-map-range_with_len _ l.first (l.count - l.first) (n - l.first) n b (omega arith) (omega arith)

-- the same blocks in the slots in use
pub kept_same : (new old : ℕ → List ℕ) (l : Lane) → ((k : ℕ) → l.first ≤ k → k < l.count → new (slot l k) ≡ old (slot l k)) → kept_of new l ≡ kept_of old l
unfolding kept_of
kept_same new old l h = map_same _ _ l.first (l.count - l.first) (λ k a b. h k a (omega (arith, l.dropped, l.lasting)))

-- the same slots, numbers and blocks
pub kept_alike : (cell : ℕ → List ℕ) (l g : Lane) → g.base ≡ l.base → g.capacity ≡ l.capacity → g.first ≡ l.first → g.count ≡ l.count → kept_of cell g ≡ kept_of cell l
unfolding kept_of
kept_alike cell l g e1 e2 e3 e4 = λ i. map (λ k. cell (e1 i + k % e2 i)) (range_with_len (e3 i) (e4 i - e3 i))

pub kept_past : (cell : ℕ → List ℕ) (l g : Lane) (b : List ℕ) → Grows l g → cell (slot g (g.count - 1)) ≡ b → kept_of cell g ≡ kept_of cell l ++ (b ∷ [])
unfolding kept_of
kept_past cell l g b x here =
    let long : g.count - g.first ≡ l.count - l.first + 1 = omega (arith, x.first, x.count, l.dropped, l.lasting) in
    let last : g.count - 1 ≡ l.count = omega (arith, x.count) in
    let same : map (λ k. cell (slot g k)) (range_with_len g.first (g.count - g.first)) ≡ map (λ k. cell (slot l k)) (range_with_len l.first (l.count - l.first + 1)) = λ i. map (λ k. cell (x.base i + k % x.capacity i)) (range_with_len (x.first i) (long i)) in
    let at : cell (slot l l.count) ≡ b = sym (λ i. cell (x.base i + last i % x.capacity i)) ∙ here in
    same ∙ map-range_with_len_more (λ k. cell (slot l k)) l.first (l.count - l.first) l.count (omega (arith, l.dropped, l.lasting))
    ∙ ap (λ c. kept_of cell l ++ (c ∷ [])) at

pub kept_after : (cell : ℕ → List ℕ) (l g : Lane) (n : ℕ) → g.base ≡ l.base → g.capacity ≡ l.capacity → g.first ≡ n → g.count ≡ l.count → l.first ≤ n → n ≤ l.count → kept_of cell g ≡ drop (n - l.first) (kept_of cell l)
kept_after cell l g n e1 e2 e3 e4 low high =
    same_lists _ _ (omega (arith, length_kept cell g, length_kept cell l, length-drop (n - l.first) (kept_of cell l)))
    (λ k d lt.
    let long = length_kept cell g in
    let a : get_or (kept_of cell g) k d ≡ cell (slot g (n + k)) = ap (λ j. get_or (kept_of cell g) j d) (omega arith) ∙ at_kept cell g (n + k) d (omega arith) (omega arith) in
    let b : get_or (drop (n - l.first) (kept_of cell l)) k d ≡ cell (slot l (n + k)) = get_or-drop (n - l.first) (kept_of cell l) k d ∙ ap (λ j. get_or (kept_of cell l) j d) (omega arith) ∙ at_kept cell l (n + k) d (omega arith) (omega arith) in
    a ∙ (λ i. cell (e1 i + (n + k) % e2 i)) ∙ sym b)

pub kept_before : (cell : ℕ → List ℕ) (l g : Lane) → g.base ≡ l.base → g.capacity ≡ l.capacity → g.first ≡ l.first → g.count ≤ l.count → kept_of cell g ≡ take (g.count - g.first) (kept_of cell l)
kept_before cell l g e1 e2 e3 high =
    let n = g.count - g.first in
    let longer = length_kept cell l in
    let le : n ≤ length (kept_of cell l) = omega arith in
    same_lists _ _ (length_kept cell g ∙ sym (length-take-le n (kept_of cell l) le))
    (λ k d lt.
    let long = length_kept cell g in
    let a : get_or (kept_of cell g) k d ≡ cell (slot g (g.first + k)) = ap (λ j. get_or (kept_of cell g) j d) (omega arith) ∙ at_kept cell g (g.first + k) d (omega arith) (omega arith) in
    let b : get_or (take n (kept_of cell l)) k d ≡ cell (slot l (g.first + k)) = get_or-take n (kept_of cell l) k d (omega arith) ∙ ap (λ j. get_or (kept_of cell l) j d) (omega arith) ∙ at_kept cell l (g.first + k) d (omega arith) (omega arith) in
    a ∙ (λ i. cell (e1 i + (g.first + k) % e2 i)) ∙ sym b)

pub at_file : (cell : ℕ → List ℕ) (ls : List Lane) (mark : Mark) (f : ℕ) (d : Lane) → f < length ls → file_of (model_of cell ls mark) f ≡ file_of_lane cell (get_or ls f d)
at_file cell ls mark f d h = get_or-map (file_of_lane cell) ls f d _ h

pub count_at : (cell : ℕ → List ℕ) (l : Lane) → count_of (file_of_lane cell l) ≡ l.count
count_at cell l = omega (arith, length_kept cell l, l.dropped, l.lasting)

-- the same blocks in the slots that lanes use
stays_model : (ls : List Lane) (old new : ℕ → List ℕ) (mark : Mark) → length ls ≡ 8 → Stays ls old new → model_of new ls mark ≡ model_of old ls mark
stays_model ls old new mark eight stays =
    let files : map (file_of_lane new) ls ≡ map (file_of_lane old) ls =
    same_lists _ _ (length-map ls (file_of_lane new) ∙ sym (length-map ls (file_of_lane old)))
    (λ k e lt.
    let lt' : k < length ls = omega (arith, length-map ls (file_of_lane new)) in
    let l = lane_of ls k in
    get_or-map (file_of_lane new) ls k no_lane e lt'
    ∙ (λ i. record { capacity = l.capacity; first = l.first; kept = kept_same new old l (λ j a b. stays k j (omega arith) a b) i; synced = l.synced })
    ∙ sym (get_or-map (file_of_lane old) ls k no_lane e lt')) in
    λ i. record { files = files i; mark = mark }

-- one lane is turned into another, and the slots in use keep their blocks
pub turned : (ls ns : List Lane) (old new : ℕ → List ℕ) (mark : Mark) (f : ℕ) (l g : Lane) (step : FileModel → FileModel) → length ls ≡ 8 → f < 8 → l ≡ lane_of ls f → ns ≡ set ls f g → Stays ls old new → file_of_lane new g ≡ step (file_of_lane new l) → model_of new ns mark ≡ with_file (model_of old ls mark) f (step (file_of (model_of old ls mark) f))
turned ls ns old new mark f l g step eight low at is stays e =
    let m = model_of new ls mark in
    let here : file_of_lane new l ≡ file_of m f = ap (file_of_lane new) at ∙ sym (at_file new ls mark f no_lane (omega arith)) in
    let files = map-set (file_of_lane new) ls f g in
    ap (λ z. model_of new z mark) is
    ∙ (λ i. record { files = files i; mark = mark })
    ∙ ap (with_file m f) (e ∙ ap step here)
    ∙ ap (λ z. with_file z f (step (file_of z f))) (stays_model ls old new mark eight stays)

-- what a lane turns into, as a file
pub file_longer : (cell : ℕ → List ℕ) (l g : Lane) (b : List ℕ) → Grows l g → cell (slot g (g.count - 1)) ≡ b → file_of_lane cell g ≡ longer (file_of_lane cell l) b
file_longer cell l g b x here = λ i. record { capacity = x.capacity i; first = x.first i; kept = kept_past cell l g b x here i; synced = x.synced i }

pub file_synced : (cell : ℕ → List ℕ) (l g : Lane) → SamePlace l g → g.first ≡ l.first → g.count ≡ l.count → g.synced ≡ l.count → file_of_lane cell g ≡ all_synced (file_of_lane cell l)
file_synced cell l g p e3 e4 e5 = λ i. record { capacity = p.capacity i; first = e3 i; kept = kept_alike cell l g p.base p.capacity e3 e4 i; synced = (e5 ∙ sym (count_at cell l)) i }

pub file_retired : (cell : ℕ → List ℕ) (l g : Lane) (n : ℕ) → SamePlace l g → g.first ≡ n → g.count ≡ l.count → g.synced ≡ l.synced → l.first ≤ n → n ≤ l.count → file_of_lane cell g ≡ retired (file_of_lane cell l) n
file_retired cell l g n p e3 e4 e5 low high = λ i. record { capacity = p.capacity i; first = e3 i; kept = kept_after cell l g n p.base p.capacity e3 e4 low high i; synced = e5 i }

pub file_trimmed : (cell : ℕ → List ℕ) (l g : Lane) (n : ℕ) → SamePlace l g → g.first ≡ l.first → g.count ≤ l.count → g.synced ≡ l.synced → g.count - g.first ≡ n → file_of_lane cell g ≡ trimmed (file_of_lane cell l) n
file_trimmed cell l g n p e3 e4 e5 many = λ i. record { capacity = p.capacity i; first = e3 i; kept = (kept_before cell l g p.base p.capacity e3 e4 ∙ ap (λ k. take k (kept_of cell l)) many) i; synced = e5 i }

-- the slot of the next block is in use by no lane
pub fresh_slot : (ls : List Lane) (f : ℕ) (g : Lane) → Apart ls → f < 8 → Grows (lane_of ls f) g → (j k : ℕ) → j < 8 → (lane_of ls j).first ≤ k → k < (lane_of ls j).count → slot (lane_of ls j) k ≢ slot g (g.count - 1)
fresh_slot ls f g apart low x j k lj a z q =
    let l = lane_of ls f in
    let room : l.count < l.first + l.capacity = omega (arith, x.first, x.count, x.capacity, g.room) in
    let last : g.count - 1 ≡ l.count = omega (arith, x.count) in
    let e : slot (lane_of ls j) k ≡ slot l l.count = q ∙ (λ i. x.base i + last i % x.capacity i) in
    let P : ℕ → Type 0 = λ i. (lane_of ls i).first ≤ k → k < (lane_of ls i).count → slot (lane_of ls i) k ≢ slot l l.count in
    let mine : P f = λ u v. own_slot l k l.count u v (omega arith) room in
    ⊎_elim
    (λ same. subst P (sym same) mine a z e)
    (λ ne. other_slot ls j f no_lane k l.count apart lj low ne e)
    (cases_eq j f)

pub inside_set : (ls : List Lane) (f : ℕ) (g : Lane) (n : ℕ) → length ls ≡ 8 → f < 8 → SamePlace (lane_of ls f) g → Inside ls n → Inside (set ls f g) n
inside_set ls f g n eight low p inside i d h =
    let o = cases_eq i f in
    let here = inside i d h in
    let there = inside f no_lane low in
    let e1 = p.base in
    let e2 = p.capacity in
    grind (arith, get_or-set_same, get_or-set_other)
