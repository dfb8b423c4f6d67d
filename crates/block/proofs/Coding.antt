-- A command and its bytes give each other back.
use Rattle.std.specs.Prelude.{All}
use Rattle.std.proofs.Common.{◌≡◌, ℕ, zero, suc, ◌+◌, ◌^◌, ◌<◌, ◌≤◌, List, [], ◌∷◌, ◌++◌, length, get_or, take, drop, ℤ, pos, negsuc, Some, None, Option, sym, refl, ap, ◌∙◌, arith, length-drop, take-add, w64, SFits, to_z, of_z}
use Rattle.std.proofs.lemmas.List.Elements.{All-head, All-tail}
use Rattle.std.proofs.lemmas.List.{drop_at, drop_more, drop-drop, length-take-le, take-take}
use Rattle.std.proofs.lemmas.Int.{to_z-of_z, of_z-to_z}
use Rattle.std.proofs.lemmas.Bool.Decides.{nat_tests}
use Rattle.base.specs.Bytes.{be, be_at, number_at, Bytes}
use Rattle.base.specs.Spelling.{reads_back, writes_back, be_at_lt, drop_small, take_small}
use Rattle.block.specs.declared.entry.Entry.{Entry}
use Rattle.block.specs.declared.entry.Entry.TheVariants.{Txn, Put, Del, Row, Gone}
use Rattle.block.specs.Format.{bytes_of, size_of, content, key_bytes, value_bytes}
use Rattle.block.specs.Parsing.{first_entry, whole, entries, key_at, value_at}
use Rattle.block.proofs.Entries.{entries_none, entries_some, size_suc}

pub length_bytes : (e : Entry) → length (bytes_of e) ≡ size_of e
length_bytes e = grind arith

-- every field can hold what it is to hold
abbrev pub Fields : Entry → Type 0
Fields (Txn tid) = tid < 2 ^ 64
Fields (Put key value) = (key.code < 2 ^ 128) × SFits w64 value
Fields (Del key) = key.code < 2 ^ 128
Fields (Row tid key value) = (tid < 2 ^ 64) × (key.code < 2 ^ 128) × SFits w64 value
Fields (Gone tid key) = (tid < 2 ^ 64) × (key.code < 2 ^ 128)

number_back : (k n : ℕ) → n < 256 ^ k → be_at k 0 (be k n ++ []) ≡ n
number_back k n lt = reads_back k n [] [] lt

ofZ_lt : (v : ℤ) → SFits w64 v → of_z w64 v < 2 ^ 64
ofZ_lt (pos n) fit = let f = fit.sfits in omega arith
ofZ_lt (negsuc n) fit = let f = fit.sfits in omega arith

value_back : (v : ℤ) → SFits w64 v → to_z w64 (be_at 8 0 (be 8 (of_z w64 v))) ≡ v
value_back v fit = ap (to_z w64) (number_back 8 (of_z w64 v) (ofZ_lt v fit)) ∙ to_z-of_z w64 v fit

there : (e : Entry) (bs : List ℕ) → size_of e ≤ length bs → whole e bs ≡ Some e
there e bs h = grind (arith, nat_tests)

-- the bytes of a command begin with this command, whatever follows
pub first_back : (e : Entry) (rest : List ℕ) → Fields e → first_entry (bytes_of e ++ rest) ≡ Some e
first_back (Txn tid) rest h =
    there (Txn (be_at 8 0 (be 8 tid))) (bytes_of (Txn tid) ++ rest) (omega arith)
    ∙ ap (λ t. Some (Txn t)) (number_back 8 tid h)
first_back (Put key value) rest h =
    there (Put (record { kind = key.kind; code = be_at 16 0 (be 16 key.code) }) (to_z w64 (be_at 8 0 (be 8 (of_z w64 value))))) (bytes_of (Put key value) ++ rest) (omega arith)
    ∙ (λ i. Some (Put (record { kind = key.kind; code = number_back 16 key.code h.0 i }) (value_back value h.1 i)))
first_back (Del key) rest h =
    there (Del (record { kind = key.kind; code = be_at 16 0 (be 16 key.code) })) (bytes_of (Del key) ++ rest) (omega arith)
    ∙ (λ i. Some (Del (record { kind = key.kind; code = number_back 16 key.code h i })))
first_back (Row tid key value) rest h =
    there (Row (be_at 8 0 (be 8 tid)) (record { kind = key.kind; code = be_at 16 0 (be 16 key.code) }) (to_z w64 (be_at 8 0 (be 8 (of_z w64 value))))) (bytes_of (Row tid key value) ++ rest) (omega arith)
    ∙ (λ i. Some (Row (number_back 8 tid h.0 i) (record { kind = key.kind; code = number_back 16 key.code h.1 i }) (value_back value h.2 i)))
first_back (Gone tid key) rest h =
    there (Gone (be_at 8 0 (be 8 tid)) (record { kind = key.kind; code = be_at 16 0 (be 16 key.code) })) (bytes_of (Gone tid key) ++ rest) (omega arith)
    ∙ (λ i. Some (Gone (number_back 8 tid h.0 i) (record { kind = key.kind; code = number_back 16 key.code h.1 i })))

-- the bytes of commands are read as these commands
pub entries_back : (es : List Entry) → All Fields es → entries (content es) ≡ es
entries_back [] h = entries_none [] refl
entries_back (e ∷ es) h =
    entries_some (bytes_of e ++ content es) e (first_back e (content es) (All-head Fields e es h))
    ∙ ap (λ l. e ∷ entries l) (drop_at (bytes_of e) (content es) (size_of e) (length_bytes e))
    ∙ ap (λ l. e ∷ l) (entries_back es (All-tail Fields e es h))

module _ (bs : List ℕ) (small : Bytes bs) where
  -- a field is written back as its bytes
  pub field_back : (k i : ℕ) → i + k ≤ length bs → be k (number_at k i bs) ≡ take k (drop i bs)
  field_back k i h =
      let part = take k (drop i bs) in
      let long : length part ≡ k = length-take-le k (drop i bs) (simp length-drop (omega arith)) in
      writes_back k 0 part (take_small k (drop i bs) (drop_small i bs small)) (omega arith) ∙ take-take k k (drop i bs) (omega arith)

  value_field : (i : ℕ) → i + 8 ≤ length bs → value_bytes (value_at i bs) ≡ take 8 (drop i bs)
  value_field i h =
      let lt = be_at_lt 8 0 (take 8 (drop i bs)) (take_small 8 (drop i bs) (drop_small i bs small)) in
      ap (be 8) (of_z-to_z w64 (number_at 8 i bs) lt) ∙ field_back 8 i h

  pub byte_field : (i : ℕ) → i + 1 ≤ length bs → take 1 (drop i bs) ≡ get_or bs i 0 ∷ []
  byte_field i h = ap (take 1) (drop_more bs i 0 (omega arith))

  -- a stretch in two parts
  pub parts : (i k m : ℕ) → take (k + m) (drop i bs) ≡ take k (drop i bs) ++ take m (drop (i + k) bs)
  parts i k m = take-add k m (drop i bs) ∙ ap (λ l. take k (drop i bs) ++ take m l) (drop-drop k i bs)

  pub tag : (t : ℕ) → 1 ≤ length bs → get_or bs 0 0 ≡ t → t ∷ [] ≡ take 1 (drop 0 bs)
  tag t h e = ap (λ b. b ∷ []) (sym e) ∙ sym (byte_field 0 h)

  key_back : (i : ℕ) → i + 17 ≤ length bs → key_bytes (key_at i (i + 1) bs) ≡ take 17 (drop i bs)
  key_back i h = (λ t. sym (byte_field i (omega arith)) t ++ field_back 16 (i + 1) (omega arith) t) ∙ sym (parts i 1 16)

  txn_back : get_or bs 0 0 ≡ 1 → 9 ≤ length bs → bytes_of (Txn (number_at 8 1 bs)) ≡ take 9 bs
  txn_back e h = (λ t. tag 1 (omega arith) e t ++ field_back 8 1 h t) ∙ sym (parts 0 1 8)

  put_back : get_or bs 0 0 ≡ 2 → 26 ≤ length bs → bytes_of (Put (key_at 1 2 bs) (value_at 18 bs)) ≡ take 26 bs
  put_back e h =
      (λ t. tag 2 (omega arith) e t ++ (key_back 1 (omega arith) t ++ value_field 18 h t))
      ∙ ap (λ l. take 1 (drop 0 bs) ++ l) (sym (parts 1 17 8)) ∙ sym (parts 0 1 25)

  del_back : get_or bs 0 0 ≡ 3 → 18 ≤ length bs → bytes_of (Del (key_at 1 2 bs)) ≡ take 18 bs
  del_back e h = (λ t. tag 3 (omega arith) e t ++ key_back 1 h t) ∙ sym (parts 0 1 17)

  row_back : get_or bs 0 0 ≡ 4 → 34 ≤ length bs → bytes_of (Row (number_at 8 1 bs) (key_at 9 10 bs) (value_at 26 bs)) ≡ take 34 bs
  row_back e h =
      (λ t. tag 4 (omega arith) e t ++ (field_back 8 1 (omega arith) t ++ (key_back 9 (omega arith) t ++ value_field 26 h t)))
      ∙ ap (λ l. take 1 (drop 0 bs) ++ (take 8 (drop 1 bs) ++ l)) (sym (parts 9 17 8))
      ∙ ap (λ l. take 1 (drop 0 bs) ++ l) (sym (parts 1 8 25)) ∙ sym (parts 0 1 33)

  gone_back : get_or bs 0 0 ≡ 5 → 26 ≤ length bs → bytes_of (Gone (number_at 8 1 bs) (key_at 9 10 bs)) ≡ take 26 bs
  gone_back e h =
      (λ t. tag 5 (omega arith) e t ++ (field_back 8 1 (omega arith) t ++ key_back 9 h t))
      ∙ ap (λ l. take 1 (drop 0 bs) ++ l) (sym (parts 1 8 17)) ∙ sym (parts 0 1 25)

  -- a command that was read is written as the bytes that it was read from
  pub first_only : (e : Entry) → first_entry bs ≡ Some e → (size_of e ≤ length bs) × (bytes_of e ≡ take (size_of e) bs)
  first_only e h = (grind (arith, nat_tests), grind (arith, nat_tests, txn_back, put_back, del_back, row_back, gone_back))

-- some front of the bytes
abbrev Front : List ℕ → Type 0
Front bs = (k : ℕ) × (k ≤ length bs) × (content (entries bs) ≡ take k bs)

front_step : (bs : List ℕ) → Bytes bs → (o : Option Entry) → first_entry bs ≡ o → ((e : Entry) → first_entry bs ≡ Some e → Front (drop (size_of e) bs)) → Front bs
front_step bs small None h rest = (0, omega arith, ap content (entries_none bs h))
front_step bs small (Some e) h rest =
    let here = first_only bs small e h in
    let more = rest e h in
    let k = more.0 in (
      size_of e + k,
      omega (arith, here.0, more.1, length-drop (size_of e) bs),
      ap content (entries_some bs e h) ∙ (λ i. here.1 i ++ more.2 i) ∙ sym (take-add (size_of e) k bs),
    )

-- the commands of some bytes are written as a front of these bytes
pub front_back : (n : ℕ) (bs : List ℕ) → length bs ≤ n → Bytes bs → (k : ℕ) × (k ≤ length bs) × (content (entries bs) ≡ take k bs)
front_back zero bs le small = front_step bs small (first_entry bs) refl (λ e h. absurd (omega (arith, (first_only bs small e h).0, size_suc e)))
front_back (suc n) bs le small = front_step bs small (first_entry bs) refl (λ e h. front_back n (drop (size_of e) bs) (omega (arith, size_suc e, (first_only bs small e h).0, length-drop (size_of e) bs)) (drop_small (size_of e) bs small))
