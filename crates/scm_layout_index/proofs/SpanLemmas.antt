-- The places of all keys by the rows of a layout, and the file or section that the indexes of a key find among them.
use Rattle.std.proofs.Common.{◌≡◌, ℕ, suc, ◌+◌, ◌-◌, ◌≤◌, Bool, true, false, ◌&&◌, List, [], ◌∷◌, ◌++◌, length, Option, Some, None, refl, ap, ap₂, sym, ◌∙◌, arith}
use Rattle.std.specs.Prelude.{nat_eq, nat_lt, if◌then◌else◌, option_and_then, slice_get}
use Rattle.std.proofs.lemmas.Bool.Decides.{nat_tests}
use Rattle.scm_types.specs.declared.keys.FileKey.{FileKey}
use Rattle.scm_types.specs.declared.keys.SectionKey.{SectionKey}
use Rattle.scm_types.specs.declared.keys.LineKey.{LineKey}
use Rattle.scm_types.specs.declared.keys.SelectionKey.{SelectionKey}
use Rattle.scm_types.specs.declared.keys.SelectionKey.TheVariants as keys
use Rattle.scm_types.specs.Keys.{is_key, line_key_of, section_key_of, section_of_line}
use Rattle.scm_render.specs.Hits.{first_of_two}
use Rattle.scm_render.proofs.HitLemmas.{two_none}
use Rattle.scm_document.specs.declared.index_pieces.SectionPiece.{SectionPiece}
use Rattle.scm_document.specs.Places.{Place}
use Rattle.scm_document.specs.DocumentRows.{rows_of_key}
use Rattle.scm_document.specs.Pieces.{found_in, section_places, some_rows}
use Rattle.scm_document.proofs.IndexLemmas.{found-append, line-other, lines-other, rows-found}
use Rattle.scm_layout.specs.declared.file_rows.FileRows.{FileRows}
use Rattle.scm_layout.specs.declared.section_rows.SectionRows.{SectionRows}
use Rattle.scm_layout.specs.Rows.{file_key_of}
use Rattle.scm_layout_index.specs.RowPieces.{rows_by_key, rows_in_section, rows_of_file, section_at, section_of_key, section_of_rows}

-- ---- the places of all keys by the rows of a layout

-- the places that f gives each element with its index; the first element has index i
abbrev pub places_from : {A : Type 0} → (ℕ → A → List Place) → ℕ → List A → List Place
places_from f i [] = []
places_from f i (x ∷ xs) = f i x ++ places_from f (suc i) xs

-- the places of section j of file k and its lines, counted from row `first`, if the section has rows; the file has `total` sections
abbrev pub section_places_by : ℕ → FileKey → ℕ → ℕ → SectionRows → List Place
section_places_by total k first j r =
    if nat_lt r.top r.end then section_places (section_of_rows keys.None total (section_key_of k j) first r) else []

-- the places of the sections of file i with rows r, which has none below its header if it is folded
abbrev pub sections_places_by : ℕ → FileRows → List Place
sections_places_by i r =
    if nat_lt (r.top + 1) r.end then places_from (section_places_by (length r.sections) (file_key_of 0 i) (r.top + 1)) 0 r.sections else []

-- the places of file i with rows r, its sections and their lines
abbrev pub file_places_by : ℕ → FileRows → List Place
file_places_by i r = record { key = keys.File (file_key_of 0 i); top = r.top; rows = r.end - r.top } ∷ sections_places_by i r

-- ---- a key among the places of elements

module _ {A : Type 0} (f : ℕ → A → List Place) (key : SelectionKey) where
  -- none from index i on has it
  none-from : (i : ℕ) (xs : List A) → ((n : ℕ) (x : A) → i ≤ n → found_in key (f n x) ≡ None) → found_in key (places_from f i xs) ≡ None
  none-from i [] h = refl
  none-from i (x ∷ xs) h =
      found-append key (f i x) (places_from f (suc i) xs)
      ∙ ap₂ (first_of_two {A = ℕ × ℕ}) (h i x (omega arith)) (none-from (suc i) xs (λ n y low. h n y (omega (arith, low))))

  -- none has it but the one with index t
  found-from : (t i : ℕ) (xs : List A) → ((n : ℕ) (x : A) → (n ≡ t → ⊥) → found_in key (f n x) ≡ None) → i ≤ t
      → found_in key (places_from f i xs) ≡ option_and_then (λ x. found_in key (f t x)) (slice_get xs (t - i))
  found-from t i [] h low = refl
  found-from t i (x ∷ xs) h low = go (nat_eq i t) refl (λ g. found-from t (suc i) xs h g)
    where
      go : (b : Bool) → nat_eq i t ≡ b → (suc i ≤ t → found_in key (places_from f (suc i) xs) ≡ option_and_then (λ y. found_in key (f t y)) (slice_get xs (t - suc i)))
          → found_in key (f i x ++ places_from f (suc i) xs) ≡ option_and_then (λ y. found_in key (f t y)) (slice_get (x ∷ xs) (t - i))
      go true e more =
          let same : i ≡ t = grind (arith, nat_tests, e) in
          let zero : t - i ≡ 0 = omega (arith, same) in
          found-append key (f i x) (places_from f (suc i) xs)
          ∙ ap (first_of_two (found_in key (f i x))) (none-from (suc i) xs (λ n y g. h n y (λ q. omega (arith, g, q, same))))
          ∙ two_none (found_in key (f i x)) ∙ ap (λ n. found_in key (f n x)) same ∙ rw zero refl
      go false e more =
          let differ : i ≡ t → ⊥ = λ q. grind (arith, nat_tests, e, q) in
          let next : t - i ≡ suc (t - suc i) = grind (arith, low, differ) in
          found-append key (f i x) (places_from f (suc i) xs)
          ∙ ap (λ o. first_of_two o (found_in key (places_from f (suc i) xs))) (h i x differ)
          ∙ more (grind (arith, low, differ)) ∙ rw next refl

-- ---- files and sections without the key

section-other : (key : SelectionKey) (s : SectionPiece) → is_key key (keys.Section s.key) ≡ false → ((i : ℕ) → is_key key (keys.Line (line_key_of s.key i)) ≡ false) → found_in key (section_places s) ≡ None
section-other key s own lines = rw own (lines-other s key lines)

shown-other : (key : SelectionKey) (total : ℕ) (k : FileKey) (first j : ℕ) (r : SectionRows) → found_in key (section_places (section_of_rows keys.None total (section_key_of k j) first r)) ≡ None
    → found_in key (section_places_by total k first j r) ≡ None
shown-other key total k first j r h = go (nat_lt r.top r.end)
  where
    go : (b : Bool) → found_in key (if b then section_places (section_of_rows keys.None total (section_key_of k j) first r) else []) ≡ None
    go true = h
    go false = refl

file-other : (key : SelectionKey) (i : ℕ) (r : FileRows) → is_key key (keys.File (file_key_of 0 i)) ≡ false
    → ((j : ℕ) (s : SectionPiece) → s.key ≡ section_key_of (file_key_of 0 i) j → found_in key (section_places s) ≡ None) → found_in key (file_places_by i r) ≡ None
file-other key i r own parts = rw own (go (nat_lt (r.top + 1) r.end))
  where
    by : ℕ → SectionRows → List Place
    by = section_places_by (length r.sections) (file_key_of 0 i) (r.top + 1)

    go : (b : Bool) → found_in key (if b then places_from by 0 r.sections else []) ≡ None
    go true = none-from by key 0 r.sections (λ j x low. shown-other key (length r.sections) (file_key_of 0 i) (r.top + 1) j x (parts j (section_of_rows keys.None (length r.sections) (section_key_of (file_key_of 0 i) j) (r.top + 1) x) refl))
    go false = refl

-- ---- keys that differ

two-false : (c n i : ℕ) → (c ≡ 0 → n ≡ i → ⊥) → (nat_eq c 0 && (nat_eq n i && true)) ≡ false
two-false c n i h = grind (arith, nat_tests, h)

three-false : (c n i x j : ℕ) → (c ≡ 0 → n ≡ i → x ≡ j → ⊥) → (nat_eq c 0 && (nat_eq n i && (nat_eq x j && true))) ≡ false
three-false c n i x j h = grind (arith, nat_tests, h)

less-none : (n : ℕ) → n - 0 ≡ n
less-none n = omega arith

-- ---- the key of a file

file-rows : (k : FileKey) (rs : List FileRows) → rows_of_key (keys.File k) (places_from file_places_by 0 rs) ≡ rows_of_file rs k
file-rows k rs = rows-found (keys.File k) (places_from file_places_by 0 rs) ∙ go (nat_eq k.commit_idx 0) refl
  where
    other : (n : ℕ) (r : FileRows) → (k.commit_idx ≡ 0 → n ≡ k.file_idx → ⊥) → found_in (keys.File k) (file_places_by n r) ≡ None
    other n r h = file-other (keys.File k) n r (two-false k.commit_idx k.file_idx n (λ c e. h c (sym e))) (λ j s e. section-other (keys.File k) s refl (λ i. refl))

    here : nat_eq k.commit_idx 0 ≡ true → (o : Option FileRows)
        → option_and_then some_rows (option_and_then (λ r. found_in (keys.File k) (file_places_by k.file_idx r)) o) ≡ option_and_then (λ r. some_rows (r.top, r.end - r.top)) o
    here c None = refl
    here c (Some r) = let own : nat_eq k.file_idx k.file_idx ≡ true = grind (arith, nat_tests) in rw (c, own) refl

    go : (b : Bool) → nat_eq k.commit_idx 0 ≡ b → option_and_then some_rows (found_in (keys.File k) (places_from file_places_by 0 rs))
        ≡ (if b then option_and_then (λ r. some_rows (r.top, r.end - r.top)) (slice_get rs k.file_idx) else None)
    go true e =
        ap (option_and_then some_rows) (found-from file_places_by (keys.File k) k.file_idx 0 rs (λ n r differ. other n r (λ c. differ)) (omega arith))
        ∙ ap (λ n. option_and_then some_rows (option_and_then (λ r. found_in (keys.File k) (file_places_by k.file_idx r)) (slice_get rs n))) (less-none k.file_idx)
        ∙ here e (slice_get rs k.file_idx)
    go false e =
        ap (option_and_then some_rows) (none-from file_places_by (keys.File k) 0 rs (λ n r low. other n r (λ c q. grind (arith, nat_tests, e, c))))

-- ---- the key of a section, or of a line of it

-- q is a key's section: the key is not that of a file, nor has another section a place of it
record IsSectionOf (key : SelectionKey) (q : SectionKey) : Type 0 where
  file : (k : FileKey) → is_key key (keys.File k) ≡ false
  other : (s : SectionPiece) → is_key (keys.Section q) (keys.Section s.key) ≡ false → found_in key (section_places s) ≡ None

of-section : (q : SectionKey) → IsSectionOf (keys.Section q) q
of-section q = record { file = λ k. refl; other = λ s e. section-other (keys.Section q) s e (λ i. refl) }

of-line : (l : LineKey) → IsSectionOf (keys.Line l) (section_of_line l)
of-line l = record {
  file = λ k. refl;
  other = λ s e. section-other (keys.Line l) s refl (λ i. line-other l s.key i e);
}

module _ (key : SelectionKey) (q : SectionKey) (is : IsSectionOf key q) where
  -- another section
  apart : (n j : ℕ) (s : SectionPiece) → (q.commit_idx ≡ 0 → q.file_idx ≡ n → q.section_idx ≡ j → ⊥) → s.key ≡ section_key_of (file_key_of 0 n) j → found_in key (section_places s) ≡ None
  apart n j s h e = is.other s (rw e (three-false q.commit_idx q.file_idx n q.section_idx j h))

  -- another file, or one of another commit
  elsewhere : (n : ℕ) (r : FileRows) → (q.commit_idx ≡ 0 → n ≡ q.file_idx → ⊥) → found_in key (file_places_by n r) ≡ None
  elsewhere n r h = file-other key n r (is.file (file_key_of 0 n)) (λ j s e. apart n j s (λ c f x. h c (sym f)) e)

  -- what is found in the section, if there is one
  abbrev found_there : Option SectionPiece → Option (ℕ × ℕ)
  found_there o = option_and_then (λ s. found_in key (section_places s)) o

  in-file : (r : FileRows) → q.commit_idx ≡ 0 → found_in key (file_places_by q.file_idx r) ≡ found_there (section_at r q)
  in-file r c = rw (is.file (file_key_of 0 q.file_idx)) (go (nat_lt (r.top + 1) r.end))
    where
      k : FileKey
      k = file_key_of 0 q.file_idx

      total : ℕ
      total = length r.sections

      first : ℕ
      first = r.top + 1

      named : section_key_of k q.section_idx ≡ q
      named = ap (λ n. record { commit_idx = n; file_idx = q.file_idx; section_idx = q.section_idx }) (sym c)

      shown : (x : SectionRows) (b : Bool) → found_in key (if b then section_places (section_of_rows keys.None total (section_key_of k q.section_idx) first x) else [])
          ≡ found_there (if b then Some (section_of_rows keys.None total q first x) else None)
      shown x true = ap (λ (z : SectionKey). found_in key (section_places (section_of_rows keys.None total z first x))) named
      shown x false = refl

      here : (d : Bool) (o : Option SectionRows) → option_and_then (λ x. found_in key (if d && nat_lt x.top x.end then section_places (section_of_rows keys.None total (section_key_of k q.section_idx) first x) else [])) o
          ≡ found_there (option_and_then (λ x. if d && nat_lt x.top x.end then Some (section_of_rows keys.None total q first x) else None) o)
      here d None = refl
      here d (Some x) = shown x (d && nat_lt x.top x.end)

      go : (d : Bool) → found_in key (if d then places_from (section_places_by total k first) 0 r.sections else [])
          ≡ found_there (option_and_then (λ x. if d && nat_lt x.top x.end then Some (section_of_rows keys.None total q first x) else None) (slice_get r.sections q.section_idx))
      go true =
          found-from (section_places_by total k first) key q.section_idx 0 r.sections
          (λ j x differ. shown-other key total k first j x (apart q.file_idx j (section_of_rows keys.None total (section_key_of k j) first x) (λ z f g. differ (sym g)) refl)) (omega arith)
          ∙ ap (λ n. option_and_then (λ x. found_in key (section_places_by total k first q.section_idx x)) (slice_get r.sections n)) (less-none q.section_idx)
          ∙ here true (slice_get r.sections q.section_idx)
      go false = none (slice_get r.sections q.section_idx)
        where
          none : (o : Option SectionRows) → None ≡ found_there (option_and_then (λ x. None) o)
          none None = refl
          none (Some x) = refl

  in-files : (rs : List FileRows) → found_in key (places_from file_places_by 0 rs) ≡ found_there (section_of_key rs q)
  in-files rs = go (nat_eq q.commit_idx 0) refl
    where
      here : q.commit_idx ≡ 0 → (o : Option FileRows) → option_and_then (λ r. found_in key (file_places_by q.file_idx r)) o ≡ found_there (option_and_then (λ r. section_at r q) o)
      here c None = refl
      here c (Some r) = in-file r c

      go : (b : Bool) → nat_eq q.commit_idx 0 ≡ b → found_in key (places_from file_places_by 0 rs)
          ≡ found_there (if b then option_and_then (λ r. section_at r q) (slice_get rs q.file_idx) else None)
      go true e =
          found-from file_places_by key q.file_idx 0 rs (λ n r differ. elsewhere n r (λ c. differ)) (omega arith)
          ∙ ap (λ n. option_and_then (λ r. found_in key (file_places_by q.file_idx r)) (slice_get rs n)) (less-none q.file_idx)
          ∙ here (grind (arith, nat_tests, e)) (slice_get rs q.file_idx)
      go false e = none-from file_places_by key 0 rs (λ n r low. elsewhere n r (λ c f. grind (arith, nat_tests, e, c)))

  section-rows : (rs : List FileRows) → rows_of_key key (places_from file_places_by 0 rs) ≡ rows_in_section key (section_of_key rs q)
  section-rows rs = rows-found key (places_from file_places_by 0 rs) ∙ ap (option_and_then some_rows) (in-files rs) ∙ out (section_of_key rs q)
    where
      out : (o : Option SectionPiece) → option_and_then some_rows (found_there o) ≡ rows_in_section key o
      out None = refl
      out (Some s) = sym (rows-found key (section_places s))

-- ---- any key

pub rows-by-key : (key : SelectionKey) (rs : List FileRows) → rows_of_key key (places_from file_places_by 0 rs) ≡ rows_by_key rs key
rows-by-key keys.None rs =
    rows-found keys.None (places_from file_places_by 0 rs)
    ∙ ap (option_and_then some_rows) (none-from file_places_by keys.None 0 rs (λ n r low. file-other keys.None n r refl (λ j s e. section-other keys.None s refl (λ i. refl))))
rows-by-key (keys.File k) rs = file-rows k rs
rows-by-key (keys.Section q) rs = section-rows (keys.Section q) q (of-section q) rs
rows-by-key (keys.Line l) rs = section-rows (keys.Line l) (section_of_line l) (of-line l) rs
