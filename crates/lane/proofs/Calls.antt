-- What the lane of a file says of it, and what the steps of a lane do to the medium.
use Rattle.std.proofs.Common.{◌≡◌, ℕ, ◌-◌, ◌<◌, ◌≤◌, List, length, set, sym, ap, ◌∙◌}
use Rattle.medium.specs.declared.mark.Mark.{Mark}
use Rattle.medium.specs.Model.{FileModel, MediumModel, file_of, count_of, with_file}
use Rattle.medium.specs.Steps.{longer, all_synced, retired, block_at}
use Rattle.medium.specs.Cuts.{trimmed}
use Rattle.lane.specs.declared.lane.Lane.{Lane}
use Rattle.lane.specs.Lanes.{no_lane, lane_of, slot, Shows}
use Rattle.lane.specs.Meaning.{file_of_lane, model_of}
use Rattle.lane.specs.Steps.{SamePlace, Grows, Stays}
use Rattle.lane.proofs.Kept.{at_file, at_kept, count_at, length_kept, turned, file_longer, file_synced, file_retired, file_trimmed}

pub shows : (cell : ℕ → List ℕ) (ls : List Lane) (mark : Mark) (f : ℕ) (l : Lane) → f < length ls → l ≡ lane_of ls f → Shows (file_of (model_of cell ls mark) f) l
shows cell ls mark f l lt at =
    let e : file_of (model_of cell ls mark) f ≡ file_of_lane cell l = at_file cell ls mark f no_lane lt ∙ ap (file_of_lane cell) (sym at) in
    record {
      capacity = ap (λ (x : FileModel). x.capacity) e;
      first = ap (λ (x : FileModel). x.first) e;
      kept = ap (λ (x : FileModel). length x.kept) e ∙ length_kept cell l;
      count = ap (λ (x : FileModel). count_of x) e ∙ count_at cell l;
      synced = ap (λ (x : FileModel). x.synced) e;
    }

pub block_is : (cell : ℕ → List ℕ) (ls : List Lane) (mark : Mark) (f : ℕ) (l : Lane) → f < length ls → l ≡ lane_of ls f → (n : ℕ) (b : List ℕ) → l.first ≤ n → n < l.count → cell (slot l n) ≡ block_at (file_of (model_of cell ls mark) f) n b
block_is cell ls mark f l lt at n b from to =
    let e : file_of (model_of cell ls mark) f ≡ file_of_lane cell l = at_file cell ls mark f no_lane lt ∙ ap (file_of_lane cell) (sym at) in
    sym (at_kept cell l n b from to) ∙ ap (λ x. block_at x n b) (sym e)

-- the file's lane is turned into another, and the slots in use keep their blocks
module _ (ls ns : List Lane) (old new : ℕ → List ℕ) (mark : Mark) (f : ℕ) (l g : Lane) (eight : length ls ≡ 8) (low : f < 8) (at : l ≡ lane_of ls f) (is : ns ≡ set ls f g) (stays : Stays ls old new) where
  abbrev m : MediumModel
  m = model_of old ls mark

  pub filled : (b : List ℕ) → Grows l g → new (slot g (g.count - 1)) ≡ b → model_of new ns mark ≡ with_file m f (longer (file_of m f) b)
  filled b x here = turned ls ns old new mark f l g (λ y. longer y b) eight low at is stays (file_longer new l g b x here)

  pub settled : SamePlace l g → g.first ≡ l.first → g.count ≡ l.count → g.synced ≡ l.count → model_of new ns mark ≡ with_file m f (all_synced (file_of m f))
  settled p e3 e4 e5 = turned ls ns old new mark f l g all_synced eight low at is stays (file_synced new l g p e3 e4 e5)

  pub released : (n : ℕ) → SamePlace l g → g.first ≡ n → g.count ≡ l.count → g.synced ≡ l.synced → l.first ≤ n → n ≤ l.count → model_of new ns mark ≡ with_file m f (retired (file_of m f) n)
  released n p e3 e4 e5 from to = turned ls ns old new mark f l g (λ y. retired y n) eight low at is stays (file_retired new l g n p e3 e4 e5 from to)

  pub shortened : (n : ℕ) → SamePlace l g → g.first ≡ l.first → g.count ≤ l.count → g.synced ≡ l.synced → g.count - g.first ≡ n → model_of new ns mark ≡ with_file m f (trimmed (file_of m f) n)
  shortened n p e3 e4 e5 many = turned ls ns old new mark f l g (λ y. trimmed y n) eight low at is stays (file_trimmed new l g n p e3 e4 e5 many)
