-- A section's place answers for the rows of its view: who owns their columns.
use mathlib.Core.Bool.{or-false}
use Rattle.std.proofs.Common.{◌≡◌, ℕ, suc, ◌+◌, ◌-◌, ◌<◌, ◌≤◌, ◌==◌, Bool, true, false, not, ◌&&◌, ◌||◌, cond, List, [], ◌∷◌, length, map, take, drop, get_or, nat_lt, refl, sym, ap, ap₂, ◌∙◌, arith}
use Rattle.std.specs.Prelude.{pos, ◌+ℤ◌, int_le, int_lt, if◌then◌else◌, nat_le, Option, Some, None}
use Rattle.std.specs.List.{list_any}
use Rattle.std.proofs.lemmas.Bool.Decides.{nat_tests}
use Rattle.std.proofs.lemmas.Int.{ints}
use Rattle.std.proofs.lemmas.List.{length-take, length-drop, length-map, get_or-map}
use Rattle.std.proofs.lemmas.List.Folds.{list_any-append}
use Rattle.scm_types.specs.declared.keys.SelectionKey.TheVariants as selection
use Rattle.scm_types.specs.declared.section.Section.{Section}
use Rattle.scm_types.specs.declared.section.Section.TheVariants.{Unchanged, Changed, FileMode, Binary}
use Rattle.scm_render.specs.Hits.{first_of_two}
use Rattle.scm_render.specs.Lines.{line}
use Rattle.scm_render.proofs.LineLemmas.{line-get}
use Rattle.scm_widgets.specs.declared.ids.ComponentId.{ComponentId}
use Rattle.scm_widgets.specs.declared.ids.ComponentId.TheVariants as ids
use Rattle.scm_document.specs.declared.section_view.SectionView.{SectionView}
use Rattle.scm_rows.specs.declared.row_kind.RowKind.TheVariants as kinds
use Rattle.scm_rows.specs.declared.section_shape.SectionShape.TheVariants as shapes
use Rattle.scm_widgets.specs.Layers.{Strip, clear, owned, is_among}
use Rattle.scm_document.specs.Owners.{AreRowsOf}
use Rattle.scm_rows.specs.Context.{are_all_shown, dots_height, first_below, has_dots, is_first, lines_above, lines_height}
use Rattle.scm_document.specs.Rows.{DocRow, SectionRow, BlankRow, line_id, changed_row, changed_rows, numbered_row, numbered_rows, rows_of_lines, context_rows, shown_lines, rows_below, rows_of, section_heading, is_selected, section_height, section_rows, section_id, shown_of_view, place_of}
use Rattle.scm_widgets.specs.Boxes.{is_fold_open}
use Rattle.scm_types.specs.Keys.{line_key_of}
use Rattle.scm_document.specs.Strips.{row_strip, is_whole, is_wide, is_of_section, section_strips}
use Rattle.scm_document.specs.PieceOwners.{box_owner, part_owner, section_owner}
use Rattle.scm_rows.specs.Heights.{shape_of}
use Rattle.scm_rows.proofs.HeightLemmas.{above-le}
use Rattle.scm_rows.specs.Kinds.{row_kind}
use Rattle.scm_document.specs.SectionPieces.{is_wide_section}
use Rattle.scm_document.specs.ViewPieces.{section_piece_of}
use Rattle.scm_document.proofs.KindLemmas.{IsRead, dots_rows, kind-at}
use Rattle.scm_document.proofs.SectionsLemmas.{height-of, section-size}
use Rattle.scm_widgets.proofs.DrawsStrips.{line-owned}

-- ---- who owns a row's columns

pub two_boxes : (t u : Bool) (a b : ComponentId)
    → ◌≡◌ {A = Option ComponentId} (first_of_two None (first_of_two (cond t (Some a) None) (first_of_two None (cond u (Some b) None)))) (if t then Some a else if u then Some b else None)
two_boxes true u a b = refl
two_boxes false true a b = refl
two_boxes false false a b = refl

box_or : (t : Bool) (a b : ComponentId) → ◌≡◌ {A = Option ComponentId} (first_of_two (first_of_two None (cond t (Some a) None)) (Some b)) (Some (if t then a else b))
box_or true a b = refl
box_or false a b = refl

one_box : (t : Bool) (a : ComponentId) → ◌≡◌ {A = Option ComponentId} (first_of_two None (cond t (Some a) None)) (if t then Some a else None)
one_box true a = refl
one_box false a = refl

heading-part : (w x : ℕ) (v : SectionView) (sel : Bool) → v.toggle_box.id ≡ ids.ToggleBox (selection.Section v.section_key) → v.expand_box.id ≡ ids.ExpandBox (selection.Section v.section_key)
    → (row_strip w (SectionRow sel (section_heading v))).owner x ≡ box_owner w 2 (selection.Section v.section_key) x
unfolding row_strip
heading-part w x v sel t f = rw (t, f) (two_boxes (is_among 2 3 x) (is_among (w - 3) 3 x) (ids.ToggleBox (selection.Section v.section_key)) (ids.ExpandBox (selection.Section v.section_key)))

owners-read : (w x : ℕ) (v : SectionView) → IsRead v (λ r. (row_strip w r).owner x) (λ k. part_owner w k v.section_key x)
unfolding part_owner row_strip
owners-read w x v = record {
  line = λ i l. box_or (is_among 4 3 x) (ids.ToggleBox (selection.Line (line_key_of v.section_key i))) (line_id (line_key_of v.section_key i));
  mark = λ b t. one_box (is_among 2 3 x) (ids.ToggleBox (selection.Section v.section_key));
  context = λ i l. refl;
  dots = λ t. refl;
  blank = refl;
}

header-read : (w x : ℕ) (v : SectionView) (section : Section) → AreRowsOf v.section_key 0 (rows_of v section) → shape_of section ≡ shapes.Changed
    → (row_strip w (SectionRow (is_selected v) (section_heading v))).owner x ≡ part_owner w kinds.Header v.section_key x
unfolding part_owner
header-read w x v (Changed ls) e c = heading-part w x v (is_selected v) e.0.1 e.0.2
header-read w x v _ e c = absurd (cc c)

part-at : (w x j : ℕ) (v : SectionView) (section : Section) → AreRowsOf v.section_key 0 (rows_of v section) → j < section_height v section
    → (get_or (map (row_strip w) (rows_of v section)) j clear).owner x ≡ part_owner w (row_kind (place_of v) (shape_of section) j) v.section_key x
part-at w x j v section e h =
    ap (λ (s : Strip ComponentId). s.owner x) (get_or-map (row_strip w) (rows_of v section) j BlankRow clear (omega (arith, h, height-of v section)))
    ∙ kind-at v (λ r. (row_strip w r).owner x) (λ k. part_owner w k v.section_key x) (owners-read w x v) j section (header-read w x v section e) h

-- ---- whether a section owns columns 0 and 1

any-lines : {L : Type 0} (row : ℕ → L → DocRow) → ((i : ℕ) (l : L) → is_whole (row i l) ≡ true) → (i : ℕ) (ls : List L) → list_any is_whole (rows_of_lines row i ls) ≡ nat_lt 0 (length ls)
unfolding rows_of_lines
any-lines row whole i [] = refl
any-lines row whole i (l ∷ ls) = let some : nat_lt 0 (suc (length ls)) ≡ true = grind (arith, nat_tests) in rw (some, whole i l) refl

any-numbered : (v : SectionView) (i : ℕ) (ls : List (List ℕ)) → list_any is_whole (numbered_rows v i ls) ≡ nat_lt 0 (length ls)
any-numbered v i ls = any-lines (numbered_row v) (λ j l. refl) i ls

any-dots : (v : SectionView) (b : Bool) → list_any is_whole (dots_rows v b) ≡ false
any-dots v true = refl
any-dots v false = refl

some-left : (a b n : ℕ) → a ≡ n - b → nat_lt 0 a ≡ nat_lt b n
some-left a b n e = go (nat_lt b n) refl
  where
    go : (t : Bool) → nat_lt b n ≡ t → nat_lt 0 a ≡ t
    go true h = let less : b < n = grind (arith, nat_tests) in let some : 0 < a = omega (arith, e, less) in grind (arith, nat_tests, some)
    go false h = let more : n ≤ b = grind (arith, nat_tests) in let none : a ≡ 0 = omega (arith, e, more) in rw none refl

any-shown : (v : SectionView) (ls : List (List ℕ)) → list_any is_whole (shown_lines v ls) ≡ (nat_lt 0 (lines_above (place_of v) (length ls)) || nat_lt (first_below (place_of v) (length ls)) (length ls))
any-shown v ls =
    let n = length ls in
    let most = above-le (are_all_shown (place_of v) n) (is_first (place_of v)) n in
    let taken : length (take (lines_above (place_of v) n) ls) ≡ lines_above (place_of v) n = omega (arith, most, length-take (lines_above (place_of v) n) ls) in
    let top : List DocRow = numbered_rows v 0 (take (lines_above (place_of v) n) ls) in
    let end : List DocRow = numbered_rows v (first_below (place_of v) n) (drop (first_below (place_of v) n) ls) in
    list_any-append is_whole top (rows_below v ls)
    ∙ ap₂ (λ a b. a || b) (any-numbered v 0 (take (lines_above (place_of v) n) ls) ∙ ap (nat_lt 0) taken)
    (list_any-append is_whole (dots_rows v (has_dots (place_of v) n)) end
    ∙ ap₂ (λ a b. a || b) (any-dots v (has_dots (place_of v) n)) (any-numbered v (first_below (place_of v) n) (drop (first_below (place_of v) n) ls) ∙ some-left (length (drop (first_below (place_of v) n) ls)) (first_below (place_of v) n) n (length-drop (first_below (place_of v) n) ls)))

-- more rows than the dots have lines
more-than-dots : (a d b n : ℕ) → (nat_lt 0 a || nat_lt b n) ≡ nat_lt d (a + (d + (n - b)))
more-than-dots a d b n = go (nat_lt 0 a) (nat_lt b n) refl refl
  where
    go : (p q : Bool) → nat_lt 0 a ≡ p → nat_lt b n ≡ q → (p || q) ≡ nat_lt d (a + (d + (n - b)))
    go true q e f = grind (arith, nat_tests, e)
    go false true e f = grind (arith, nat_tests, f)
    go false false e f = grind (arith, nat_tests, e, f)

wide-is : (v : SectionView) (section : Section) → is_wide (rows_of v section) ≡ is_wide_section (is_selected v) (place_of v) (section_height v section) (shape_of section)
unfolding context_rows
wide-is v (Unchanged ls) = go (length ls == 0)
  where
    n : ℕ
    n = length ls

    go : (b : Bool) → list_any is_whole (if b then BlankRow ∷ [] else shown_lines v ls) ≡ (not b && nat_lt (dots_height (place_of v) n) (if b then 1 else lines_height (place_of v) n))
    go true = refl
    go false = any-shown v ls ∙ more-than-dots (lines_above (place_of v) n) (dots_height (place_of v) n) (first_below (place_of v) n) n
wide-is v (Changed ls) = ap (λ b. is_selected v || b) (go (is_fold_open v.expand_box))
  where
    go : (b : Bool) → list_any is_whole (if b then changed_rows v 0 ls else []) ≡ nat_lt 1 (if b then 1 + length ls else 1)
    go true = let more : nat_lt 0 (length ls) ≡ nat_lt 1 (1 + length ls) = grind (arith, nat_tests) in any-lines (changed_row v) (λ i l. refl) 0 ls ∙ more
    go false = refl
wide-is v (FileMode checked mode) = or-false (is_selected v)
wide-is v (Binary checked old new) = or-false (is_selected v)

-- ---- who owns a section's columns

if_wide : (t a b : Bool) (i : ComponentId) → t ≡ true → a ≡ b → ◌≡◌ {A = Option ComponentId} (cond (t && a) (Some i) None) (if b then Some i else None)
if_wide t a b i e f = rw (e, f) refl

pub row-within : (top j n : ℕ) → j < n → (int_le (pos top) (pos (top + j)) && int_lt (pos (top + j)) (pos top +ℤ pos n)) ≡ true
row-within top j n h =
    let a : int_le (pos top) (pos (top + j)) ≡ true = grind (arith, ints) in
    let b : int_lt (pos (top + j)) (pos top +ℤ pos n) ≡ true = grind (arith, ints, h) in
    rw (a, b) refl

pub length-section : (w : ℕ) (v : SectionView) → length (section_strips w (shown_of_view v)) ≡ section_height v v.section.now
unfolding section_strips
length-section w v =
    length-map (map (row_strip w) (section_rows v)) (owned (section_id v.section_key) (is_of_section (section_rows v)))
    ∙ length-map (section_rows v) (row_strip w) ∙ section-size v

pub section-owner : (w x top j : ℕ) (v : SectionView) → AreRowsOf v.section_key 0 (section_rows v) → j < section_height v v.section.now
    → (line clear (section_strips w (shown_of_view v)) (pos top) (pos (top + j))).owner x ≡ section_owner w (section_piece_of v top) j x
unfolding section_strips section_rows
section-owner w x top j v e h =
    let rows = rows_of v v.section.now in
    let ss : List (Strip ComponentId) = map (row_strip w) rows in
    let n : length ss ≡ section_height v v.section.now = length-map rows (row_strip w) ∙ height-of v v.section.now in
    let size : (top + section_height v v.section.now) - top ≡ section_height v v.section.now = omega arith in
    sym (line-owned (section_id v.section_key) (is_of_section rows) ss (pos top) (pos (top + j)) x)
    ∙ ap₂ first_of_two
    (ap (λ (s : Strip ComponentId). s.owner x) (line-get clear ss top j) ∙ part-at w x j v v.section.now e h)
    (if_wide _ _ _ (section_id v.section_key) (row-within top j (length ss) (omega (arith, h, n))) (ap (λ b. b || nat_le 2 x) (wide-is v v.section.now ∙ ap (λ n. is_wide_section (is_selected v) (place_of v) n (shape_of v.section.now)) (sym size))))
