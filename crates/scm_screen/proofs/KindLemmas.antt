-- Each row of a section shows what its kind says, by the view of the section.
use Rattle.std.proofs.Common.{◌≡◌, ℕ, zero, suc, ◌+◌, ◌-◌, ◌<◌, ◌≤◌, ◌==◌, Bool, true, false, not, ◌&&◌, List, [], ◌∷◌, ◌++◌, length, take, drop, get_or, nat_lt, refl, sym, ap, ◌∙◌, arith}
use Rattle.std.specs.Prelude.{if◌then◌else◌, nat_le, Option, Some, None}
use Rattle.std.proofs.lemmas.Bool.Decides.{nat_tests}
use Rattle.std.proofs.lemmas.List.{length-take, length-drop, get_or-take, get_or-drop, get_or_append_left, get_or-append_right}
use Rattle.scm_types.specs.declared.line.SectionChangedLine.{SectionChangedLine}
use Rattle.scm_types.specs.declared.line.ChangeType.TheVariants.{Added}
use Rattle.scm_types.specs.declared.file_mode.FileMode as mode
use Rattle.scm_types.specs.declared.section.Section.{Section}
use Rattle.scm_types.specs.declared.section.Section.TheVariants.{Unchanged, Changed, FileMode, Binary}
use Rattle.scm_rows.specs.declared.row_kind.RowKind.TheVariants as kinds
use Rattle.scm_rows.specs.declared.section_place.SectionPlace.{SectionPlace}
use Rattle.scm_rows.specs.declared.section_shape.SectionShape.TheVariants as shapes
use Rattle.scm_rows.specs.Context.{are_all_shown, dots_height, first_below, has_dots, is_first, lines_above, lines_height}
use Rattle.scm_rows.specs.Heights.{shape_of}
use Rattle.scm_rows.specs.Kinds.{context_kind, line_of, row_kind}
use Rattle.scm_rows.proofs.HeightLemmas.{above-le}
use Rattle.scm_widgets.specs.Boxes.{is_fold_open}
use Rattle.scm_document.specs.declared.section_view.SectionView.{SectionView}
use Rattle.scm_document.specs.Texts.{binary_text, dots_text, mode_change_text}
use Rattle.scm_document.specs.Rows.{DocRow, SectionRow, MarkRow, DotsRow, BlankRow, changed_row, changed_rows, numbered_row, numbered_rows, rows_of_lines, context_rows, gap_row, shown_lines, rows_of, section_box, section_heading, is_selected, section_height, section_rows, row_on, line_on, place_of}
use Rattle.scm_document.proofs.RowsLemmas.{length-taken}
use Rattle.scm_document.proofs.SectionsLemmas.{one_or_none}

-- the row of dots, if there is one
abbrev pub dots_rows : SectionView → Bool → List DocRow
dots_rows v b = if b then DotsRow (dots_text v.use_unicode) ∷ [] else []

-- a row of a section: that of the line it shows, or another
abbrev pub row_with : (ℕ → DocRow) → DocRow → Option ℕ → DocRow
row_with row other None = other
row_with row other (Some i) = row i

-- a row of section v, which has the lines of context ls; d stands for a line that it lacks
abbrev pub context_at : SectionView → List ℕ → List (List ℕ) → Option ℕ → DocRow
context_at v d ls = row_with (λ i. numbered_row v i (get_or ls i d)) (gap_row v (length ls))

-- a row of section v, which has the changed lines ls; d stands for a line that it lacks
abbrev pub changed_at : SectionView → SectionChangedLine → List SectionChangedLine → Option ℕ → DocRow
changed_at v d ls = row_with (λ i. changed_row v i (get_or ls i d)) (SectionRow (is_selected v) (section_heading v))

lines-at : {L : Type 0} (row : ℕ → L → DocRow) (d : L) (i k : ℕ) (ls : List L) → k < length ls → get_or (rows_of_lines row i ls) k BlankRow ≡ row (i + k) (get_or ls k d)
unfolding rows_of_lines
lines-at row d i k [] h = absurd (omega (arith, h))
lines-at row d i zero (l ∷ ls) h = let here : i + 0 ≡ i = omega arith in rw here refl
lines-at row d i (suc k) (l ∷ ls) h = let next : i + suc k ≡ suc i + k = omega arith in rw next (lines-at row d (suc i) k ls (omega (arith, h)))

first-lines : {L : Type 0} (row : ℕ → L → DocRow) (d : L) (k : ℕ) (ls : List L) → k < length ls → get_or (rows_of_lines row 0 ls) k BlankRow ≡ row k (get_or ls k d)
first-lines row d k ls h = let same : 0 + k ≡ k = omega arith in rw same at (lines-at row d 0 k ls h)

-- a lines, below them d rows of dots, below them the lines b..n
three-at : (row : ℕ → DocRow) (other : DocRow) (above dots below : List DocRow) (a d b n j : ℕ) → length above ≡ a → length dots ≡ d → j < a + (d + (n - b))
    → ((k : ℕ) → k < a → get_or above k BlankRow ≡ row k) → ((k : ℕ) → k < d → get_or dots k BlankRow ≡ other) → ((k : ℕ) → k < n - b → get_or below k BlankRow ≡ row (b + k))
    → get_or (above ++ (dots ++ below)) j BlankRow
    ≡ row_with row other (line_of (if nat_lt j a then kinds.Context j else if nat_le (a + d) j && nat_lt (j - (a + d)) (n - b) then kinds.Context (b + (j - (a + d))) else kinds.Blank))
three-at row other above dots below a d b n j la ld within fa fd fb = go (nat_lt j a) (nat_le (a + d) j && nat_lt (j - (a + d)) (n - b)) refl refl
  where
    go : (q r : Bool) → nat_lt j a ≡ q → (nat_le (a + d) j && nat_lt (j - (a + d)) (n - b)) ≡ r
        → get_or (above ++ (dots ++ below)) j BlankRow ≡ row_with row other (line_of (if q then kinds.Context j else if r then kinds.Context (b + (j - (a + d))) else kinds.Blank))
    go true r e o =
        let less : j < a = grind (arith, nat_tests) in
        get_or_append_left above (dots ++ below) BlankRow j (omega (arith, la, less)) ∙ fa j less
    go false true e o =
        let past : a ≤ j = grind (arith, nat_tests) in
        let low : a + d ≤ j = grind (arith, nat_tests) in
        let high : j - (a + d) < n - b = grind (arith, nat_tests) in
        let same : j - a - d ≡ j - (a + d) = omega arith in
        get_or-append_right above (dots ++ below) a j BlankRow la past ∙ get_or-append_right dots below d (j - a) BlankRow ld (omega (arith, low)) ∙ ap (λ i. get_or below i BlankRow) same ∙ fb (j - (a + d)) high
    go false false e o =
        let past : a ≤ j = grind (arith, nat_tests) in
        let short : j - a < d = grind (arith, nat_tests, within) in
        get_or-append_right above (dots ++ below) a j BlankRow la past ∙ get_or_append_left dots below BlankRow (j - a) (omega (arith, short, ld)) ∙ fd (j - a) short

dots-at : (v : SectionView) (b : Bool) (n k : ℕ) → (b ≡ true → (n == 0) ≡ false) → k < (if b then 1 else 0) → get_or (dots_rows v b) k BlankRow ≡ gap_row v n
dots-at v true n zero some h = rw (some refl) refl
dots-at v true n (suc k) some h = absurd (omega (arith, h))
dots-at v false n k some h = absurd (omega (arith, h))

some-dots : (t : Bool) (n : ℕ) → (not t && nat_lt 3 n) ≡ true → (n == 0) ≡ false
some-dots t n h = grind (arith, nat_tests, h)

shown-is : (v : SectionView) (d : List ℕ) (ls : List (List ℕ)) (j : ℕ) → j < lines_height (place_of v) (length ls) → get_or (shown_lines v ls) j BlankRow ≡ context_at v d ls (line_of (context_kind (place_of v) (length ls) j))
shown-is v d ls j within =
    let n = length ls in
    let p = place_of v in
    let a = lines_above p n in
    let b = first_below p n in
    let most : a ≤ n = above-le (are_all_shown p n) (is_first p) n in
    three-at (λ i. numbered_row v i (get_or ls i d)) (gap_row v n) (numbered_rows v 0 (take a ls)) (dots_rows v (has_dots p n)) (numbered_rows v b (drop b ls)) a (dots_height p n) b n j
    (length-taken v a ls most) (one_or_none (has_dots p n) (DotsRow (dots_text v.use_unicode))) within
    (λ k h. first-lines (numbered_row v) d k (take a ls) (omega (arith, h, most, length-take a ls)) ∙ ap (numbered_row v k) (get_or-take a ls k d h))
    (λ k h. dots-at v (has_dots p n) n k (some-dots (are_all_shown p n) n) h)
    (λ k h. lines-at (numbered_row v) d b k (drop b ls) (omega (arith, h, length-drop b ls)) ∙ ap (numbered_row v (b + k)) (get_or-drop b ls k d))

context-is : (v : SectionView) (d : List ℕ) (ls : List (List ℕ)) (j : ℕ) → j < section_height v (Unchanged ls) → get_or (rows_of v (Unchanged ls)) j BlankRow ≡ context_at v d ls (line_of (context_kind (place_of v) (length ls) j))
unfolding context_rows
context-is v d ls j h = go j (length ls == 0) refl h
  where
    go : (j : ℕ) (b : Bool) → (length ls == 0) ≡ b → j < (if b then 1 else lines_height (place_of v) (length ls))
        → get_or (if b then BlankRow ∷ [] else shown_lines v ls) j BlankRow ≡ context_at v d ls (line_of (context_kind (place_of v) (length ls) j))
    go zero true e within =
        let none : context_kind (place_of v) (length ls) 0 ≡ kinds.Blank = grind (arith, nat_tests, above-le (are_all_shown (place_of v) (length ls)) (is_first (place_of v)) (length ls)) in
        rw (none, e) refl
    go (suc j) true e within = absurd (omega (arith, within))
    go j false e within = shown-is v d ls j within

changed-lines : (v : SectionView) (d : SectionChangedLine) (ls : List SectionChangedLine) (j : ℕ) → suc j < section_height v (Changed ls) → get_or (rows_of v (Changed ls)) (suc j) BlankRow ≡ changed_row v j (get_or ls j d)
changed-lines v d ls j h = go (is_fold_open v.expand_box) h
  where
    go : (b : Bool) → suc j < (if b then 1 + length ls else 1) → get_or (if b then changed_rows v 0 ls else []) j BlankRow ≡ changed_row v j (get_or ls j d)
    go true within = first-lines (changed_row v) d j ls (omega (arith, within))
    go false within = absurd (omega (arith, within))

line-kind : (p : SectionPlace) (j : ℕ) → row_kind p shapes.Changed (suc j) ≡ kinds.Line j
line-kind p j =
    let some : (suc j == 0) ≡ false = grind arith in
    let here : suc j - 1 ≡ j = omega arith in
    rw (some, here) refl

changed-is : (v : SectionView) (d : SectionChangedLine) (ls : List SectionChangedLine) (j : ℕ) → j < section_height v (Changed ls)
    → get_or (rows_of v (Changed ls)) j BlankRow ≡ changed_at v d ls (line_of (row_kind (place_of v) shapes.Changed j))
changed-is v d ls zero h = refl
changed-is v d ls (suc j) h = changed-lines v d ls j h ∙ ap (λ k. changed_at v d ls (line_of k)) (sym (line-kind (place_of v) j))

-- ---- row j of section v

context-on : (v : SectionView) (d : List ℕ) (s : Section) (ls : List (List ℕ)) (j : ℕ) → s ≡ Unchanged ls → j < section_height v s
    → get_or (rows_of v s) j BlankRow ≡ context_at v d ls (line_of (row_kind (place_of v) (shape_of s) j))
context-on v d s ls j e h = rw e (context-is v d ls j (rw e at h))

changed-on : (v : SectionView) (d : SectionChangedLine) (s : Section) (ls : List SectionChangedLine) (j : ℕ) → s ≡ Changed ls → j < section_height v s
    → get_or (rows_of v s) j BlankRow ≡ changed_at v d ls (line_of (row_kind (place_of v) (shape_of s) j))
changed-on v d s ls j e h = rw e (changed-is v d ls j (rw e at h))

pub context-line : (v : SectionView) (d : List ℕ) (ls : List (List ℕ)) (j i : ℕ) → v.section.now ≡ Unchanged ls → j < section_height v v.section.now → line_on v j ≡ Some i
    → row_on v j ≡ numbered_row v i (get_or ls i d)
unfolding section_rows
context-line v d ls j i e h l = context-on v d v.section.now ls j e h ∙ ap (context_at v d ls) l

pub context-gap : (v : SectionView) (ls : List (List ℕ)) (j : ℕ) → v.section.now ≡ Unchanged ls → j < section_height v v.section.now → line_on v j ≡ None → row_on v j ≡ gap_row v (length ls)
unfolding section_rows
context-gap v ls j e h l = context-on v [] v.section.now ls j e h ∙ ap (context_at v [] ls) l

pub changed-line : (v : SectionView) (d : SectionChangedLine) (ls : List SectionChangedLine) (j i : ℕ) → v.section.now ≡ Changed ls → j < section_height v v.section.now → line_on v j ≡ Some i
    → row_on v j ≡ changed_row v i (get_or ls i d)
unfolding section_rows
changed-line v d ls j i e h l = changed-on v d v.section.now ls j e h ∙ ap (changed_at v d ls) l

pub changed-header : (v : SectionView) (ls : List SectionChangedLine) (j : ℕ) → v.section.now ≡ Changed ls → j < section_height v v.section.now → line_on v j ≡ None
    → row_on v j ≡ SectionRow (is_selected v) (section_heading v)
unfolding section_rows
changed-header v ls j e h l =
    let none : SectionChangedLine = record { is_checked = false; change_type = Added; line = [] } in
    changed-on v none v.section.now ls j e h ∙ ap (changed_at v none ls) l

pub mode-row : (v : SectionView) (b : Bool) (m : mode.FileMode) (j : ℕ) → v.section.now ≡ FileMode b m → j < section_height v v.section.now
    → row_on v j ≡ MarkRow (is_selected v) (section_box v b) (mode_change_text m)
unfolding section_rows
mode-row v b m zero e h = rw e refl
mode-row v b m (suc j) e h = let one = rw e at h in absurd (omega (arith, one))

pub binary-row : (v : SectionView) (b : Bool) (old new : Option (List ℕ)) (j : ℕ) → v.section.now ≡ Binary b old new → j < section_height v v.section.now
    → row_on v j ≡ MarkRow (is_selected v) (section_box v b) (binary_text old new)
unfolding section_rows
binary-row v b old new zero e h = rw e refl
binary-row v b old new (suc j) e h = let one = rw e at h in absurd (omega (arith, one))
