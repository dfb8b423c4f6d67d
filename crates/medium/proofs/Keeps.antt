-- Each call keeps a medium sound, and so does a cut.
use Rattle.std.proofs.Common.{◌≡◌, ℕ, ◌+◌, ◌-◌, ◌<◌, ◌≤◌, false, eqb, ltb, ◌≢◌, List, [], ◌∷◌, ◌++◌, length, get_or, set, sym, refl, ap, ◌∙◌, subst, ⊎_elim, arith, length-set, get_or-set_other, get_or-set_same}
use Rattle.std.proofs.lemmas.Bool.{cases_lt, cases_eq, cond_both, or_parts, eqb-false, ltb-false}
use Rattle.std.proofs.lemmas.List.{length-append, length-drop, length-take-le, get_or_append_left, get_or-append_right, get_or-drop, get_or-take}
use Rattle.medium.specs.declared.mark.Mark.{Mark}
use Rattle.medium.specs.Model.{FileModel, MediumModel, file_of, count_of, with_file, no_file}
use Rattle.medium.specs.Steps.{no_such_file, is_full, longer, all_synced, retired, not_retirable, append_after, sync_after, retire_after, set_mark_after}
use Rattle.medium.specs.Sound.{Block, SoundFile, SoundMark, Sound}
use Rattle.medium.specs.Cuts.{lasting, unsynced, trimmed, cut_file, Cut}

pub joined : (xs ys : List (List ℕ)) → ((k : ℕ) → k < length xs → Block (get_or xs k [])) → ((k : ℕ) → k < length ys → Block (get_or ys k [])) → (k : ℕ) → k < length (xs ++ ys) → Block (get_or (xs ++ ys) k [])
joined xs ys hx hy k lt =
    let long = length-append xs ys in
    ⊎_elim
    (λ low. subst Block (sym (get_or_append_left xs ys [] k low)) (hx k low))
    (λ high. subst Block (sym (get_or-append_right xs ys (length xs) k [] refl high)) (hy (k - length xs) (omega arith)))
    (cases_lt k (length xs))

pub with_file_keeps : (m : MediumModel) (f : ℕ) (x : FileModel) → f < 8 → Sound m → SoundFile x → Sound (with_file m f x)
with_file_keeps m f x low s sx =
    let lt : f < length m.files = omega (arith, s.eight) in
    record {
      eight = length-set m.files f x ∙ s.eight;
      files = λ g h.
          ⊎_elim
          (λ e. subst SoundFile (sym (ap (λ j. get_or (set m.files f x) j no_file) e ∙ get_or-set_same m.files f x no_file lt)) sx)
          (λ ne. subst SoundFile (sym (get_or-set_other m.files f g x no_file ne)) (s.files g h))
          (cases_eq g f);
      mark = s.mark;
    }

pub longer_keeps : (f : FileModel) (b : List ℕ) → is_full f ≡ false → SoundFile f → Block b → SoundFile (longer f b)
longer_keeps f b room s whole =
    let parts = or_parts (eqb (length f.kept) f.capacity) (eqb (count_of f) 16777215) room in
    let ne : length f.kept ≢ f.capacity = eqb-false _ _ parts.0 in
    let nm : count_of f ≢ 16777215 = eqb-false _ _ parts.1 in
    let long = length-append f.kept (b ∷ []) in
    record {
      some = s.some;
      few = s.few;
      room = omega (arith, s.room);
      dropped = s.dropped;
      lasting = omega (arith, s.lasting);
      most = omega (arith, s.most);
      whole = joined f.kept (b ∷ []) s.whole (λ k lt. let z : k ≡ 0 = omega arith in subst (λ j. Block (get_or (b ∷ []) j [])) (sym z) whole);
    }

pub synced_keeps : (f : FileModel) → SoundFile f → SoundFile (all_synced f)
synced_keeps f s =
    record { some = s.some; few = s.few; room = s.room; dropped = omega (arith, s.dropped, s.lasting); lasting = omega arith; most = s.most; whole = s.whole }

pub retired_keeps : (f : FileModel) (n : ℕ) → not_retirable f n ≡ false → SoundFile f → SoundFile (retired f n)
retired_keeps f n ok s =
    let parts = or_parts (ltb n f.first) (ltb f.synced n) ok in
    let low = ltb-false _ _ parts.0 in
    let high = ltb-false _ _ parts.1 in
    let long = length-drop (n - f.first) f.kept in
    record {
      some = s.some;
      few = s.few;
      room = omega (arith, s.room);
      dropped = high;
      lasting = omega (arith, s.lasting);
      most = omega (arith, s.most, s.lasting);
      whole = λ k lt. subst Block (sym (get_or-drop (n - f.first) f.kept k [])) (s.whole (n - f.first + k) (omega arith));
    }

pub trimmed_keeps : (f : FileModel) (n : ℕ) → n ≤ length f.kept → f.synced ≤ f.first + n → SoundFile f → SoundFile (trimmed f n)
trimmed_keeps f n le last s =
    let long = length-take-le n f.kept le in
    record {
      some = s.some;
      few = s.few;
      room = omega (arith, s.room);
      dropped = s.dropped;
      lasting = omega arith;
      most = omega (arith, s.most);
      whole = λ k lt. subst Block (sym (get_or-take n f.kept k [] (omega arith))) (s.whole k (omega arith));
    }

pub cut_keeps_file : (f : FileModel) (tail : List (List ℕ)) → length tail ≤ unsynced f → ((k : ℕ) → k < length tail → Block (get_or tail k [])) → SoundFile f → SoundFile (cut_file f tail)
cut_keeps_file f tail short whole s =
    let a = s.lasting in
    let b = s.dropped in
    let front : length (lasting f) ≡ f.synced - f.first = length-take-le (f.synced - f.first) f.kept (omega arith) in
    let long = length-append (lasting f) tail in
    record {
      some = s.some;
      few = s.few;
      room = omega (arith, s.room);
      dropped = omega arith;
      lasting = omega arith;
      most = omega (arith, s.most);
      whole = joined (lasting f) tail (λ k lt. subst Block (sym (get_or-take (f.synced - f.first) f.kept k [] (omega arith))) (s.whole k (omega arith))) whole;
    }

module _ (m : MediumModel) (s : Sound m) where
  pub append_keeps : (f : ℕ) (b : List ℕ) → Block b → Sound (append_after m f b)
  append_keeps f b whole =
      cond_both (no_such_file f) _ _ Sound (λ _. s)
      (λ low. cond_both (is_full (file_of m f)) _ _ Sound (λ _. s)
      (λ room. let lt : f < 8 = omega (arith, ltb-false 7 f low) in with_file_keeps m f _ lt s (longer_keeps (file_of m f) b room (s.files f lt) whole)))

  pub sync_keeps : (f : ℕ) → Sound (sync_after m f)
  sync_keeps f =
      cond_both (no_such_file f) _ _ Sound (λ _. s)
      (λ low. let lt : f < 8 = omega (arith, ltb-false 7 f low) in with_file_keeps m f _ lt s (synced_keeps (file_of m f) (s.files f lt)))

  pub retire_keeps : (f n : ℕ) → Sound (retire_after m f n)
  retire_keeps f n =
      cond_both (no_such_file f) _ _ Sound (λ _. s)
      (λ low. cond_both (not_retirable (file_of m f) n) _ _ Sound (λ _. s)
      (λ ok. let lt : f < 8 = omega (arith, ltb-false 7 f low) in with_file_keeps m f _ lt s (retired_keeps (file_of m f) n ok (s.files f lt))))

  pub set_mark_keeps : (k : Mark) → SoundMark k → Sound (set_mark_after m k)
  set_mark_keeps k whole = record { eight = s.eight; files = s.files; mark = whole }

  pub cut_keeps : (n : MediumModel) → Cut m n → Sound n
  cut_keeps n c =
      record {
        eight = c.eight;
        files = λ f lt. let x = c.files f lt in subst SoundFile (sym x.is) (cut_keeps_file (file_of m f) x.tail x.short x.whole (s.files f lt));
        mark = subst SoundMark (sym c.mark) s.mark;
      }
