-- An index of rows: what stands on a row, and where a key stands, among pieces one below another.
use Rattle.std.proofs.Common.{◌≡◌, ℕ, zero, suc, ◌+◌, ◌-◌, ◌<◌, ◌≤◌, List, [], ◌∷◌, ◌++◌, length, drop, get_or, refl, sym, ap, ap₂, ◌∙◌, arith, add-one, drop-cons, true, false, Bool}
use Rattle.std.specs.Prelude.{nat_eq, ◌==◌, ◌&&◌, if◌then◌else◌, Option, Some, None, IfSome, option_and_then, option_map, slice_get}
use Rattle.std.specs.List.{flat_map}
use Rattle.std.proofs.lemmas.Bool.Decides.{nat_tests}
use Rattle.std.proofs.lemmas.List.{drop_all}
use Rattle.std.proofs.lemmas.List.Concat.{flat_map-cons}
use Rattle.scm_rows.specs.Kinds.{holds, line_of}
use Rattle.scm_types.specs.Keys.{is_key, section_of_line, line_key_of}
use Rattle.scm_types.specs.declared.keys.SectionKey.{SectionKey}
use Rattle.scm_types.specs.declared.keys.LineKey.{LineKey}
use Rattle.scm_types.specs.declared.keys.SelectionKey.{SelectionKey}
use Rattle.scm_types.specs.declared.keys.SelectionKey.TheVariants as keys
use Rattle.scm_render.specs.Hits.{first_of_two}
use Rattle.scm_document.specs.declared.row_place.RowPlace.TheVariants as part
use Rattle.scm_document.specs.declared.index_pieces.SectionPiece.{SectionPiece}
use Rattle.scm_document.specs.declared.index_pieces.Piece.{Piece}
use Rattle.scm_document.specs.Places.{Place}
use Rattle.scm_document.specs.DocumentRows.{rows_of_place, rows_of_key}
use Rattle.scm_document.specs.RowIndex.{section_parts, message_parts}
use Rattle.scm_document.specs.SectionPieces.{kind_on}
use Rattle.scm_document.specs.Pieces.{line_list, lines_places, lines_in, piece_places, piece_parts, found_in, some_rows}

-- ---- what stands on a row

pub length-parts : (k : SectionKey) (i n : ℕ) → length (section_parts k i n) ≡ n
unfolding section_parts
length-parts k i zero = refl
length-parts k i (suc n) = ap suc (length-parts k (suc i) n)

pub part-at : (k : SectionKey) (i n r j : ℕ) → r < n → j ≡ i + r → Some (part.Section k j) ≡ slice_get (section_parts k i n) r
unfolding section_parts
part-at k i zero r j h e = absurd (omega arith)
part-at k i (suc n) zero j h e = let same : j ≡ i = omega arith in ap (λ w. Some (part.Section k w)) same
part-at k i (suc n) (suc r) j h e = part-at k (suc i) n r j (omega arith) (omega arith)

pub length-message : (i n : ℕ) → length (message_parts i n) ≡ n
unfolding message_parts
length-message i zero = refl
length-message i (suc n) = ap suc (length-message (suc i) n)

pub message-at : (i n r j : ℕ) → r < n → j ≡ i + r → Some (part.Message j) ≡ slice_get (message_parts i n) r
unfolding message_parts
message-at i zero r j h e = absurd (omega arith)
message-at i (suc n) zero j h e = let same : j ≡ i = omega arith in ap (λ w. Some (part.Message w)) same
message-at i (suc n) (suc r) j h e = message-at (suc i) n r j (omega arith) (omega arith)

pub get-first : {T : Type 0} (xs ys : List T) (i : ℕ) → i < length xs → slice_get (xs ++ ys) i ≡ slice_get xs i
get-first [] ys i h = absurd (omega arith)
get-first (x ∷ xs) ys zero h = refl
get-first (x ∷ xs) ys (suc i) h = get-first xs ys i (omega arith)

pub get-rest : {T : Type 0} (xs ys : List T) (i j : ℕ) → i ≡ length xs + j → slice_get (xs ++ ys) i ≡ slice_get ys j
get-rest [] ys i j e = let same : i ≡ j = omega arith in ap (slice_get ys) same
get-rest (x ∷ xs) ys zero j e = absurd (omega arith)
get-rest (x ∷ xs) ys (suc i) j e = get-rest xs ys i j (omega arith)

-- the pieces from piece `i` on
pub pieces-more : {T : Type 0} (f : Piece → List T) (pieces : List Piece) (i : ℕ) (d : Piece) → i < length pieces → flat_map f (drop i pieces) ≡ f (get_or pieces i d) ++ flat_map f (drop (i + 1) pieces)
pieces-more f pieces i d h = ap (flat_map f) (drop-cons pieces i d h) ∙ flat_map-cons f (get_or pieces i d) (drop (suc i) pieces) ∙ rw add-one refl

pub pieces-none : {T : Type 0} (f : Piece → List T) (pieces : List Piece) (i : ℕ) → length pieces ≤ i → flat_map f (drop i pieces) ≡ []
pieces-none f pieces i h = ap (flat_map f) (drop_all i pieces h)

pub place-first : (pieces : List Piece) (i : ℕ) (d : Piece) (left own : ℕ) → i < length pieces → own ≡ length (piece_parts (get_or pieces i d)) → left < own
    → slice_get (piece_parts (get_or pieces i d)) left ≡ slice_get (flat_map piece_parts (drop i pieces)) left
place-first pieces i d left own h e k =
    sym (get-first (piece_parts (get_or pieces i d)) (flat_map piece_parts (drop (i + 1) pieces)) left (omega (arith, e, k))) ∙ ap (λ ps. slice_get ps left) (sym (pieces-more piece_parts pieces i d h))

pub place-rest : (pieces : List Piece) (i : ℕ) (d : Piece) (left own : ℕ) → i < length pieces → own ≡ length (piece_parts (get_or pieces i d)) → own ≤ left
    → slice_get (flat_map piece_parts (drop (i + 1) pieces)) (left - own) ≡ slice_get (flat_map piece_parts (drop i pieces)) left
place-rest pieces i d left own h e k =
    sym (get-rest (piece_parts (get_or pieces i d)) (flat_map piece_parts (drop (i + 1) pieces)) left (left - own) (omega (arith, e, k))) ∙ ap (λ ps. slice_get ps left) (sym (pieces-more piece_parts pieces i d h))

-- ---- where a line stands

-- a line's key is of the section and of the line's index
split-key : (a b c x : Bool) → (a && (b && (c && (x && true)))) ≡ ((a && (b && (c && true))) && x)
split-key false b c x = refl
split-key true false c x = refl
split-key true true false x = refl
split-key true true true false = refl
split-key true true true true = refl

pub line-is : (line : LineKey) (k : SectionKey) (i : ℕ) → is_key (keys.Line line) (keys.Line (line_key_of k i)) ≡ (is_key (keys.Section (section_of_line line)) (keys.Section k) && nat_eq line.line_idx i)
line-is line k i = split-key (nat_eq line.commit_idx k.commit_idx) (nat_eq line.file_idx k.file_idx) (nat_eq line.section_idx k.section_idx) (nat_eq line.line_idx i)

-- ---- where a key stands

pub found-append : (key : SelectionKey) (ps qs : List Place) → found_in key (ps ++ qs) ≡ first_of_two (found_in key ps) (found_in key qs)
found-append key [] qs = refl
found-append key (p ∷ ps) qs = go (is_key key p.key) (found-append key ps qs)
  where
    go : (b : Bool) → found_in key (ps ++ qs) ≡ first_of_two (found_in key ps) (found_in key qs)
        → (if b then Some (p.top, p.rows) else found_in key (ps ++ qs)) ≡ first_of_two (if b then Some (p.top, p.rows) else found_in key ps) (found_in key qs)
    go true e = refl
    go false e = e

-- a key of no line
list-other : (key : SelectionKey) (k : SectionKey) (row : ℕ) (o : Option ℕ) → ((i : ℕ) → is_key key (keys.Line (line_key_of k i)) ≡ false) → found_in key (line_list k row o) ≡ None
list-other key k row None never = refl
list-other key k row (Some i) never = rw (never i) refl

lines-missed : (s : SectionPiece) (key : SelectionKey) (j n : ℕ) → ((i : ℕ) → i < j + n → found_in key (line_list s.key (s.top + i) (line_of (kind_on s i))) ≡ None) → found_in key (lines_places s.key s.top (kind_on s) j n) ≡ None
unfolding lines_places
lines-missed s key j zero missed = refl
lines-missed s key j (suc n) missed =
    found-append key (line_list s.key (s.top + j) (line_of (kind_on s j))) (lines_places s.key s.top (kind_on s) (suc j) n)
    ∙ ap₂ (first_of_two {A = ℕ × ℕ}) (missed j (omega arith)) (lines-missed s key (suc j) n (λ i h. missed i (omega (arith, h))))

pub lines-other : (s : SectionPiece) (key : SelectionKey) → ((i : ℕ) → is_key key (keys.Line (line_key_of s.key i)) ≡ false) → found_in key (lines_in s) ≡ None
lines-other s key never = lines-missed s key 0 (s.end - s.top) (λ i h. list-other key s.key (s.top + i) (line_of (kind_on s i)) never)

pub line-other : (line : LineKey) (k : SectionKey) (i : ℕ) → is_key (keys.Section (section_of_line line)) (keys.Section k) ≡ false → is_key (keys.Line line) (keys.Line (line_key_of k i)) ≡ false
line-other line k i e = rw (line-is line k i, e) refl

-- a line of the section
module _ (s : SectionPiece) (line : LineKey) (own : is_key (keys.Section (section_of_line line)) (keys.Section s.key) ≡ true) where
  row-found : (i : ℕ) (b : Bool) → holds (line_of (kind_on s i)) line.line_idx ≡ b → found_in (keys.Line line) (line_list s.key (s.top + i) (line_of (kind_on s i))) ≡ (if b then Some (s.top + i, 1) else None)
  row-found i b e = one (line_of (kind_on s i)) ∙ ap (λ b. if b then Some (s.top + i, 1) else None) e
    where
      one : (o : Option ℕ) → found_in (keys.Line line) (line_list s.key (s.top + i) o) ≡ (if holds o line.line_idx then Some (s.top + i, 1) else None)
      one None = refl
      one (Some n) = rw (line-is line s.key n, own) refl

  lines-hit : (t j n : ℕ) → ((i : ℕ) → i < j + n → holds (line_of (kind_on s i)) line.line_idx ≡ (i == t)) → j ≤ t → t < j + n → found_in (keys.Line line) (lines_places s.key s.top (kind_on s) j n) ≡ Some (s.top + t, 1)
  unfolding lines_places
  lines-hit t j zero shows low high = absurd (omega arith)
  lines-hit t j (suc n) shows low high =
      found-append (keys.Line line) (line_list s.key (s.top + j) (line_of (kind_on s j))) (lines_places s.key s.top (kind_on s) (suc j) n)
      ∙ go (j == t) refl (row-found j (j == t) (shows j (omega arith))) (lines-hit t (suc j) n (λ i h. shows i (omega (arith, h))))
    where
      go : (b : Bool) → (j == t) ≡ b → found_in (keys.Line line) (line_list s.key (s.top + j) (line_of (kind_on s j))) ≡ (if b then Some (s.top + j, 1) else None)
          → (suc j ≤ t → t < suc j + n → found_in (keys.Line line) (lines_places s.key s.top (kind_on s) (suc j) n) ≡ Some (s.top + t, 1))
          → first_of_two {A = ℕ × ℕ} (found_in (keys.Line line) (line_list s.key (s.top + j) (line_of (kind_on s j)))) (found_in (keys.Line line) (lines_places s.key s.top (kind_on s) (suc j) n)) ≡ Some (s.top + t, 1)
      go true e here rest = let same : j ≡ t = grind (arith, nat_tests) in rw here (ap (λ i. Some (s.top + i, 1)) same)
      go false e here rest = rw here (rest (grind (arith, nat_tests)) (omega (arith, high)))

  -- its row among the section's n rows, if it has one
  pub line-found : (row : Option ℕ) (n : ℕ) → n ≡ s.end - s.top → ((i : ℕ) → i < n → holds (line_of (kind_on s i)) line.line_idx ≡ holds row i) → IfSome row (λ t. t < n)
      → option_map (λ t. (s.top + t, 1)) row ≡ found_in (keys.Line line) (lines_in s)
  line-found None n size shows fits = sym (lines-missed s (keys.Line line) 0 (s.end - s.top) (λ i h. row-found i false (shows i (omega (arith, h, size)))))
  line-found (Some t) n size shows fits = sym (lines-hit t 0 (s.end - s.top) (λ i h. shows i (omega (arith, h, size))) (omega arith) (omega (arith, fits, size)))

-- ---- pieces one below another

-- the rows of a key are those of its place, unless there are none
pub rows-found : (key : SelectionKey) (ps : List Place) → rows_of_key key ps ≡ option_and_then some_rows (found_in key ps)
unfolding rows_of_key
rows-found key [] = refl
rows-found key (p ∷ ps) = go (is_key key p.key) (rows-found key ps)
  where
    go : (b : Bool) → rows_of_key key ps ≡ option_and_then some_rows (found_in key ps)
        → (if b then rows_of_place p else rows_of_key key ps) ≡ option_and_then some_rows (if b then Some (p.top, p.rows) else found_in key ps)
    go true e = refl
    go false e = e

-- the rows of a key among two lists
rows-append : (key : SelectionKey) (ps qs : List Place) (o : Option (ℕ × ℕ)) → found_in key ps ≡ o → rows_of_key key (ps ++ qs) ≡ option_and_then some_rows (first_of_two o (found_in key qs))
rows-append key ps qs o e = rows-found key (ps ++ qs) ∙ ap (option_and_then some_rows) (found-append key ps qs ∙ ap (λ p. first_of_two p (found_in key qs)) e)

pub find-first : (pieces : List Piece) (i : ℕ) (d : Piece) (key : SelectionKey) (rows : ℕ × ℕ) → i < length pieces → found_in key (piece_places (get_or pieces i d)) ≡ Some rows
    → rows_of_key key (flat_map piece_places (drop i pieces)) ≡ some_rows rows
find-first pieces i d key rows h e = ap (rows_of_key key) (pieces-more piece_places pieces i d h) ∙ rows-append key (piece_places (get_or pieces i d)) (flat_map piece_places (drop (i + 1) pieces)) (Some rows) e

pub find-rest : (pieces : List Piece) (i : ℕ) (d : Piece) (key : SelectionKey) → i < length pieces → found_in key (piece_places (get_or pieces i d)) ≡ None
    → rows_of_key key (flat_map piece_places (drop i pieces)) ≡ rows_of_key key (flat_map piece_places (drop (i + 1) pieces))
find-rest pieces i d key h e = ap (rows_of_key key) (pieces-more piece_places pieces i d h) ∙ rows-append key (piece_places (get_or pieces i d)) (flat_map piece_places (drop (i + 1) pieces)) None e ∙ sym (rows-found key (flat_map piece_places (drop (i + 1) pieces)))

pub find-none : (pieces : List Piece) (i : ℕ) (key : SelectionKey) → length pieces ≤ i → rows_of_key key (flat_map piece_places (drop i pieces)) ≡ None
unfolding rows_of_key
find-none pieces i key h = ap (rows_of_key key) (pieces-none piece_places pieces i h)
