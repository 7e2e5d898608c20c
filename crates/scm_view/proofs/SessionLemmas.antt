-- The documents that are shown of a session have the ids of their keys.
use Rattle.std.proofs.Common.{◌≡◌, ℕ, suc, ◌+◌, ◌-◌, ◌<◌, ◌≤◌, ◌==◌, Bool, true, false, List, [], ◌∷◌, ◌++◌, length, map, take, drop, refl, arith, ◌⊎◌, inl, inr}
use Rattle.std.specs.Prelude.{min, nat_le, not, ◌&&◌, ◌||◌, if◌then◌else◌}
use Rattle.std.proofs.lemmas.List.{length-take}
use Rattle.std.proofs.lemmas.Bool.Decides.{nat_tests}
use Rattle.std.proofs.lemmas.Bool.{cond_both}
use Rattle.scm_types.specs.declared.file.File.{File}
use Rattle.scm_types.specs.declared.line.SectionChangedLine.{SectionChangedLine}
use Rattle.scm_types.specs.declared.section.Section.{Section}
use Rattle.scm_types.specs.declared.section.Section.TheVariants.{Unchanged, Changed}
use Rattle.scm_types.specs.Marks.{is_editable_section}
use Rattle.scm_types.specs.declared.keys.FileKey.{FileKey}
use Rattle.scm_types.specs.declared.keys.SectionKey.{SectionKey}
use Rattle.scm_types.specs.declared.keys.SelectionKey.TheVariants as selection
use Rattle.scm_widgets.specs.declared.ids.ComponentId.TheVariants as ids
use Rattle.scm_document.specs.declared.section_view.SectionView.{SectionView}
use Rattle.scm_document.specs.Texts.{dots_text}
use Rattle.scm_rows.specs.declared.section_place.SectionPlace.{SectionPlace}
use Rattle.scm_rows.specs.Context.{are_all_shown, context_height, dots_height, first_below, has_dots, is_first, is_last, lines_above, lines_height}
use Rattle.scm_rows.specs.Heights.{is_section_visible}
use Rattle.scm_document.specs.Rows.{DocRow, HeaderRow, MarkRow, ContextRow, DotsRow, BlankRow, ShownSection, is_open, is_first_open, shown_lines, rows_below, context_rows, rows_of_lines, changed_rows, numbered_rows, rows_of, section_rows, shown_section, shown_sections, shown_file, document_of, place_of}
use Rattle.scm_widgets.specs.Boxes.{is_fold_open}
use Rattle.scm_types.specs.Keys.{section_key_of}
use Rattle.scm_rows.specs.Lines.{old_lines}
use Rattle.scm_rows.proofs.HeightLemmas.{above-le}
use Rattle.scm_document.proofs.SectionsLemmas.{height-of}
use Rattle.scm_view.specs.ViewState.{ViewState, Totals, totals_of, section_view_of, section_views_of, file_view_of, file_views_of, commit_view_of}
use Rattle.scm_document.specs.Owners.{IsRowOf, after_row, AreRowsOf, AreSectionsOf}
use Rattle.scm_document.proofs.FilesOf.{HaveRows, IsFileOf, AreFilesOf, HasItsIds}

-- ---- from an earlier rank or index on

row-earlier : (k : SectionKey) (n m : ℕ) (d : DocRow) → n ≤ m → IsRowOf k m d → IsRowOf k n d
row-earlier k n m (HeaderRow key h) less e = e
row-earlier k n m (MarkRow selected b t) less e = (omega (arith, less, e.0), e.1)
row-earlier k n m (ContextRow key ts) less e = (omega (arith, less, e.0), e.1)
row-earlier k n m (DotsRow t) less e = tt
row-earlier k n m BlankRow less e = tt
row-earlier k n m _ less e = (omega (arith, less, e.0), e.1, e.2)

after-earlier : (k : SectionKey) (n m : ℕ) (d : DocRow) → n ≤ m → after_row n d ≤ after_row m d
after-earlier k n m (HeaderRow key h) less = less
after-earlier k n m (DotsRow t) less = less
after-earlier k n m BlankRow less = less
after-earlier k n m _ less = omega arith

rows-earlier : (k : SectionKey) (n m : ℕ) (ds : List DocRow) → n ≤ m → AreRowsOf k m ds → AreRowsOf k n ds
rows-earlier k n m [] less e = tt
rows-earlier k n m (d ∷ ds) less e = (row-earlier k n m d less e.0, rows-earlier k (after_row n d) (after_row m d) ds (after-earlier k n m d less) e.1)

sections-earlier : (f : FileKey) (n m : ℕ) (ps : List ShownSection) → n ≤ m → AreSectionsOf f m ps → AreSectionsOf f n ps
sections-earlier f n m [] less e = tt
sections-earlier f n m (p ∷ ps) less e = (omega (arith, less, e.0), e.1, e.2, e.3)

-- ---- the rows of a section

-- lines of context, and rows after them
numbered-are : (v : SectionView) (n i : ℕ) (ls : List (List ℕ)) (rest : List DocRow) → n ≤ suc i → AreRowsOf v.section_key (suc (i + length ls)) rest → AreRowsOf v.section_key n (numbered_rows v i ls ++ rest)
unfolding rows_of_lines
numbered-are v n i [] rest h e = rows-earlier v.section_key n (suc (i + 0)) rest (omega (arith, h)) e
numbered-are v n i (l ∷ ls) rest h e =
    let next : suc (i + suc (length ls)) ≡ suc (suc i + length ls) = omega arith in
    ((h, refl), numbered-are v (suc (suc i)) (suc i) ls rest (omega arith) (rw next at e))

numbered-alone : (v : SectionView) (n i : ℕ) (ls : List (List ℕ)) → n ≤ suc i → AreRowsOf v.section_key n (numbered_rows v i ls)
unfolding rows_of_lines
numbered-alone v n i [] h = tt
numbered-alone v n i (l ∷ ls) h = ((h, refl), numbered-alone v (suc (suc i)) (suc i) ls (omega arith))

changed-are : (v : SectionView) (n i : ℕ) (ls : List SectionChangedLine) → n ≤ suc i → AreRowsOf v.section_key n (changed_rows v i ls)
unfolding rows_of_lines
changed-are v n i [] h = tt
changed-are v n i (l ∷ ls) h = ((h, refl, refl), changed-are v (suc (suc i)) (suc i) ls (omega arith))

-- no more lines stand above the dots than there are before the first one below them
above-below : (first last few : Bool) (n : ℕ) → nat_le n 6 ≡ few
    → (if not first && (not last && few) then n else if first then 0 else min n 3) ≤ (if not first && (not last && few) then n else if last then n else n - 3)
above-below false false false n e = let many : 6 < n = grind (arith, nat_tests) in omega (arith, many)
above-below _ _ _ n e = omega arith

dots-are : (v : SectionView) (b : Bool) (n : ℕ) (rest : List DocRow) → AreRowsOf v.section_key n rest → AreRowsOf v.section_key n ((if b then DotsRow (dots_text v.use_unicode) ∷ [] else []) ++ rest)
dots-are v true n rest e = (tt, e)
dots-are v false n rest e = e

context-are : (v : SectionView) (ls : List (List ℕ)) → AreRowsOf v.section_key 0 (context_rows v ls)
unfolding context_rows
context-are v ls = go (length ls == 0)
  where
    n : ℕ
    n = length ls

    above : ℕ
    above = lines_above (place_of v) n

    taken : length (take above ls) ≡ above
    taken = let h = above-le (are_all_shown (place_of v) n) (is_first (place_of v)) n in omega (arith, length-take above ls, h)

    apart : suc (0 + length (take above ls)) ≤ suc (first_below (place_of v) n)
    apart = let h = above-below (is_first (place_of v)) (is_last (place_of v)) (nat_le n 6) n refl in omega (arith, taken, h)

    go : (b : Bool) → AreRowsOf v.section_key 0 (if b then BlankRow ∷ [] else shown_lines v ls)
    go true = (tt, tt)
    go false =
        numbered-are v 0 0 (take above ls) (rows_below v ls) (omega arith)
        (dots-are v (has_dots (place_of v) n) (suc (0 + length (take above ls))) (numbered_rows v (first_below (place_of v) n) (drop (first_below (place_of v) n) ls))
        (numbered-alone v (suc (0 + length (take above ls))) (first_below (place_of v) n) (drop (first_below (place_of v) n) ls) apart))

-- the boxes of a section's view have the ids of its key
record HasBoxesOf (k : SectionKey) (v : SectionView) : Type 0 where
  key : v.section_key ≡ k
  toggle : v.toggle_box.id ≡ ids.ToggleBox (selection.Section k)
  fold : v.expand_box.id ≡ ids.ExpandBox (selection.Section k)

rows-are : (v : SectionView) (section : Section) → HasBoxesOf v.section_key v → AreRowsOf v.section_key 0 (rows_of v section)
rows-are v (Unchanged ls) h = context-are v ls
rows-are v (Changed ls) h = ((refl, h.toggle, h.fold), cond_both (is_fold_open v.expand_box) (changed_rows v 0 ls) [] (AreRowsOf v.section_key 1) (λ _. changed-are v 1 0 ls (omega arith)) (λ _. tt))
rows-are v _ h = ((refl, refl), tt)

-- ---- a section has a row, but for one of context that is both the first and the last

lines-tall : (first last few : Bool) (dots n : ℕ) → 0 < n → (first ≡ true → last ≡ false)
    → 0 < (if not first && (not last && few) then n else if first then 0 else min n 3) + (dots + (n - (if not first && (not last && few) then n else if last then n else n - 3)))
lines-tall true true few dots n some h = absurd (cc (h refl))
lines-tall false false true dots n some h = omega (arith, some)
lines-tall _ _ _ dots n some h = omega (arith, some)

context-tall : (p : SectionPlace) (n : ℕ) → (is_first p ≡ true → is_last p ≡ false) → 0 < context_height p n
context-tall p n h = go (n == 0) refl
  where
    go : (b : Bool) → (n == 0) ≡ b → 0 < (if b then 1 else lines_height p n)
    go true e = omega arith
    go false e = lines-tall (is_first p) (is_last p) (nat_le n 6) (dots_height p n) n (grind (arith, e)) h

rows-some : (v : SectionView) (section : Section) → (is_editable_section section ≡ true) ⊎ (is_first (place_of v) ≡ true → is_last (place_of v) ≡ false) → 0 < length (rows_of v section)
rows-some v (Unchanged ls) (inl e) = absurd (cc e)
rows-some v (Unchanged ls) (inr h) =
    let size : length (rows_of v (Unchanged ls)) ≡ context_height (place_of v) (length ls) = height-of v (Unchanged ls) in
    omega (arith, size, context-tall (place_of v) (length ls) h)
rows-some v _ h = omega arith

-- ---- the sections of a file

open-more : (s : ViewState) (totals : Totals) (k : FileKey) (i editable line : ℕ) (sections : List Section) → is_first_open (section_views_of s totals k i editable line sections) ≡ true → 0 < length sections
unfolding section_views_of
open-more s totals k i editable line [] h = absurd (cc h)
open-more s totals k i editable line (section ∷ more) h = omega arith

not-zero : (i : ℕ) → 0 < i → (i == 0) ≡ false
not-zero i h = grind (arith, h)

not-last : (i n total : ℕ) → total ≡ i + suc n → 0 < n → (i + 1 == total) ≡ false
not-last i n total e h = grind (arith, e, h)

-- a section that is shown can be edited, or is not the first, or not the last
pub shown-which : (before editable after first last : Bool) → (editable || (before || after)) ≡ true → (before ≡ true → first ≡ false) → (after ≡ true → last ≡ false)
    → (editable ≡ true) ⊎ (first ≡ true → last ≡ false)
shown-which before true after first last h p q = inl refl
shown-which true false after first last h p q = inr (λ e. absurd (cc (e, p refl)))
shown-which false false true first last h p q = inr (λ e. q refl)
shown-which false false false first last h p q = absurd (cc h)

-- the sections of a file that are shown have their ids, and rows
sections-are : (s : ViewState) (totals : Totals) (k : FileKey) (before : Bool) (i editable line : ℕ) (sections : List Section) → totals.sections ≡ i + length sections → (before ≡ true → 0 < i)
    → let ps = shown_sections before (section_views_of s totals k i editable line sections) in AreSectionsOf k i ps × HaveRows ps
unfolding section_views_of shown_sections section_rows
sections-are s totals k before i editable line [] e h = (tt, tt)
sections-are s totals k before i editable line (section ∷ more) e h =
    go (is_section_visible before v.section.now (is_first_open vs)) refl (sections-are s totals k (is_open v) (suc i) next below more (omega (arith, e)) (λ _. omega arith))
  where
    v : SectionView
    v = section_view_of s totals (section_key_of k i) editable line section

    next : ℕ
    next = if is_editable_section section then editable + 1 else editable

    below : ℕ
    below = line + old_lines section

    vs : List SectionView
    vs = section_views_of s totals k (suc i) next below more

    go : (b : Bool) → is_section_visible before v.section.now (is_first_open vs) ≡ b → AreSectionsOf k (suc i) (shown_sections (is_open v) vs) × HaveRows (shown_sections (is_open v) vs)
        → AreSectionsOf k i (shown_section b v ++ shown_sections (is_open v) vs) × HaveRows (shown_section b v ++ shown_sections (is_open v) vs)
    go true shown rest = (
      (omega arith, refl, rows-are v section (record { key = refl; toggle = refl; fold = refl }), rest.0),
      (
        rows-some v section (shown-which before (is_editable_section section) (is_first_open vs) (is_first (place_of v)) (is_last (place_of v)) shown
            (λ p. not-zero i (h p)) (λ p. not-last i (length more) totals.sections e (open-more s totals k (suc i) next below more p))),
        rest.1,
      ),
    )
    go false shown rest = (sections-earlier k i (suc i) (shown_sections (is_open v) vs) (omega arith) rest.0, rest.1)

-- ---- files

file-of : (s : ViewState) (k : FileKey) (n : ℕ) (f : File) → n ≤ k.file_idx → IsFileOf k.commit_idx n (shown_file (file_view_of s k f))
unfolding shown_file
file-of s k n f h =
    let v = file_view_of s k f in
    let are = sections-are s (totals_of f.sections) k false 0 0 0 f.sections (omega arith) (λ e. absurd (cc e)) in
    record {
      commit_is = refl;
      index = h;
      heading = record { toggle = refl; fold = refl };
      sections = cond_both (is_fold_open v.expand_box) (shown_sections false v.section_views) [] (AreSectionsOf k 0) (λ _. are.0) (λ _. tt);
      rows = cond_both (is_fold_open v.expand_box) (shown_sections false v.section_views) [] HaveRows (λ _. are.1) (λ _. tt);
    }

files-of : (s : ViewState) (commit i : ℕ) (fs : List File) → AreFilesOf commit i (map shown_file (file_views_of s commit i fs))
unfolding file_views_of shown_file
files-of s commit i [] = tt
files-of s commit i (f ∷ fs) = (file-of s (record { commit_idx = commit; file_idx = i }) i f (omega arith), files-of s commit (suc i) fs)

-- the document that is shown of a commit has the ids of its keys
pub session-ids : (shown : ViewState) (commit : ℕ) → HasItsIds (document_of (commit_view_of shown commit))
session-ids shown commit = files-of shown commit 0 shown.state.files
