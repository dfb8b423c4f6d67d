-- What every medium keeps true, and what a fresh one is.
use Rattle.std.specs.Prelude.{◌≡◌, ℕ, ◌<◌, ◌≤◌, List, [], map, length, replicate, slice_index_or}
use Rattle.base.specs.Bytes.{Bytes}
use Rattle.medium.specs.declared.mark.Mark.{Mark}
use Rattle.medium.specs.Model.{FileModel, MediumModel, file_of, count_of}

-- 512 bytes
pub record Block (b : List ℕ) : Type 0 where
  pub long : length b ≡ 512
  pub bytes : Bytes b

pub record SoundFile (f : FileModel) : Type 0 where
  pub some : 1 ≤ f.capacity
  pub few : f.capacity ≤ 4096
  pub room : length f.kept ≤ f.capacity
  pub dropped : f.first ≤ f.synced
  pub lasting : f.synced ≤ count_of f
  pub most : count_of f ≤ 16777215
  pub whole : (k : ℕ) → k < length f.kept → Block (slice_index_or f.kept k [])

pub record SoundMark (k : Mark) : Type 0 where
  pub starts : length k.starts ≡ 8
  pub ends : length k.ends ≡ 8

pub record Sound (m : MediumModel) : Type 0 where
  pub eight : length m.files ≡ 8
  pub files : (f : ℕ) → f < 8 → SoundFile (file_of m f)
  pub mark : SoundMark m.mark

abbrev pub zeros : Mark
zeros = record { epoch = 0; starts = replicate 8 0; ends = replicate 8 0 }

abbrev pub fresh_file : ℕ → FileModel
fresh_file c = record { capacity = c; first = 0; kept = []; synced = 0 }

-- the fresh medium of these capacities
abbrev pub fresh_of : List ℕ → MediumModel
fresh_of cs = record { files = map fresh_file cs; mark = zeros }

pub record FreshFile (f : FileModel) : Type 0 where
  pub first : f.first ≡ 0
  pub kept : f.kept ≡ []
  pub synced : f.synced ≡ 0

pub record Fresh (m : MediumModel) : Type 0 where
  pub files : (f : ℕ) → f < 8 → FreshFile (file_of m f)
  pub mark : m.mark ≡ zeros
