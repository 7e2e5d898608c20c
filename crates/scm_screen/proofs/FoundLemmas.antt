-- The row of a document that a search in its layout finds.
use Rattle.std.proofs.Common.{◌≡◌, ℕ, zero, suc, ◌+◌, ◌-◌, ◌<◌, ◌≤◌, nat_le, nat_lt, ◌&&◌, Bool, true, false, List, [], ◌∷◌, ◌++◌, length, map, get_or, refl, sym, ap, subst, ◌∙◌, arith, append_assoc, append-nil, Option, Some, None, cond}
use Rattle.std.specs.Prelude.{if◌then◌else◌, option_map, slice_get}
use Rattle.std.proofs.lemmas.Bool.Decides.{nat_tests}
use Rattle.std.proofs.lemmas.Option.{slice_get-get_or, slice_get_past}
use Rattle.std.proofs.lemmas.List.{length-append, length-map}
use Rattle.scm_types.specs.declared.file.File.{File}
use Rattle.scm_types.specs.declared.file_mode.FileMode.TheVariants.{Unix}
use Rattle.scm_types.specs.declared.keys.FileKey.{FileKey}
use Rattle.scm_types.specs.declared.keys.SelectionKey.TheVariants as keys
use Rattle.scm_types.specs.declared.section.Section.{Section}
use Rattle.scm_types.specs.declared.section.Section.TheVariants.{Unchanged}
use Rattle.scm_types.specs.declared.state.Commit.{Commit}
use Rattle.scm_types.specs.Keys.{has_key, section_key_of}
use Rattle.scm_types.specs.Limits.{max_items, state_size}
use Rattle.scm_rows.specs.Heights.{is_section_visible, message_height, shape_of}
use Rattle.scm_layout.specs.declared.file_rows.FileRows.{FileRows}
use Rattle.scm_layout.specs.declared.section_rows.SectionRows.{SectionRows}
use Rattle.scm_rows.specs.Lines.{old_lines}
use Rattle.scm_layout.specs.declared.file_counts.FileCounts.{FileCounts}
use Rattle.scm_layout.specs.declared.state_layout.Layout.{Layout}
use Rattle.scm_layout.specs.Counts.{editable_after, file_counts}
use Rattle.scm_layout.specs.Layouts.{files_top, layout_of}
use Rattle.scm_layout.specs.Rows.{each_file_rows, file_height, file_key_of, file_rows, moved_to, is_first_open as layout_first, is_open as layout_open, rows_at, sections_height, sections_rows as layout_sections, stacked, visible_height}
use Rattle.scm_layout.specs.Searches.{file_on, index_on, section_on}
use Rattle.scm_layout.proofs.RowLemmas.{length-sections_rows}
use Rattle.scm_layout.proofs.StackLemmas.{file-within, length-stacked}
use Rattle.scm_document.specs.declared.file_view.FileView.{FileView}
use Rattle.scm_document.specs.declared.section_view.SectionView.{SectionView}
use Rattle.scm_document.specs.FilesRows.{files_rows}
use Rattle.scm_document.specs.Rows as views
use Rattle.scm_document.specs.Rows.{DocRow, BlankRow, ShownFile, is_first_open, is_open, row_on, section_height, section_rows, sections_rows, shown_file, shown_section, shown_sections}
use Rattle.scm_document.specs.Strips.{is_over}
use Rattle.scm_document.proofs.SectionsLemmas.{section-size}
use Rattle.scm_document.proofs.ViewPieceLemmas as heights
use Rattle.scm_strips.specs.Shows.{AreaRow, FileRow}
use Rattle.scm_widgets.specs.Boxes.{is_fold_open}
use Rattle.scm_view.specs.ViewState.{Totals, ViewState, commit_at, file_view_of, file_views_of, section_view_of, section_views_of, totals_of}
use Rattle.scm_view.specs.Window.{inline_document}
use Rattle.scm_view_state.specs.ViewRows.{section_views_rows, view_height}
use Rattle.scm_view_state.proofs.ViewRowLemmas as rows
use Rattle.scm_screen.specs.declared.document_rows.RowFile.{RowFile}
use Rattle.scm_screen.specs.RowFiles.{HasRow, NoFileHas}
use Rattle.scm_screen.specs.DocumentRows.{file_over, header_of, message_rows, pinned_on, row_in, row_shown, rows_of_sections}

-- ---- elements of two lists, one below the other

module _ {X : Type 0} where
  pub get-left : (xs ys : List X) (i : ℕ) → i < length xs → slice_get (xs ++ ys) i ≡ slice_get xs i
  get-left [] ys i h = absurd (omega (arith, h))
  get-left (x ∷ xs) ys zero h = refl
  get-left (x ∷ xs) ys (suc i) h = get-left xs ys i (omega (arith, h))

  pub get-right : (xs ys : List X) (i : ℕ) → length xs ≤ i → slice_get (xs ++ ys) i ≡ slice_get ys (i - length xs)
  get-right [] ys i h = let same : i ≡ i - 0 = omega arith in ap (slice_get ys) same
  get-right (x ∷ xs) ys zero h = absurd (omega (arith, h))
  get-right (x ∷ xs) ys (suc i) h =
      let same : i - length xs ≡ suc i - suc (length xs) = omega arith in
      get-right xs ys i (omega (arith, h)) ∙ ap (slice_get ys) same

  -- below `n` rows that end at row `t + n`
  pub get-below : (xs ys : List X) (n t y : ℕ) → length xs ≡ n → t + n ≤ y → slice_get (xs ++ ys) (y - t) ≡ slice_get ys (y - (t + n))
  get-below xs ys n t y e h =
      let same : (y - t) - length xs ≡ y - (t + n) = omega (arith, e) in
      get-right xs ys (y - t) (omega (arith, e, h)) ∙ ap (slice_get ys) same

  pub get-map : {Y : Type 0} (f : X → Y) (xs : List X) (i : ℕ) → slice_get (map f xs) i ≡ option_map f (slice_get xs i)
  get-map f [] i = refl
  get-map f (x ∷ xs) zero = refl
  get-map f (x ∷ xs) (suc i) = get-map f xs i

-- ---- rows top..end

has-true : (top end y : ℕ) → (nat_le top y && nat_lt y end) ≡ true → (top ≤ y) × (y < end)
has-true top end y e = (grind (arith, nat_tests, e), grind (arith, nat_tests, e))

has-false : (top end y : ℕ) → (nat_le top y && nat_lt y end) ≡ false → top ≤ y → end ≤ y
has-false top end y e h = grind (arith, nat_tests, e, h)

-- ---- sections

abbrev section_index : ℕ → ℕ → List SectionRows → Option ℕ
section_index y i rs = index_on (λ (r : SectionRows). r.top) (λ (r : SectionRows). r.end) y i rs

-- section j of those from section i on, the n-th of them, has row y, and it is the section's row y - top
pub record FoundSection (before : Bool) (t y i j : ℕ) (vs : List SectionView) (v0 : SectionView) (r0 : SectionRows) (n : ℕ) : Type 0 where
  pub at : j ≡ i + n
  pub within : n < length vs
  pub above : t ≤ (get_or (section_views_rows t before vs) n r0).top
  pub low : (get_or (section_views_rows t before vs) n r0).top ≤ y
  pub high : y - (get_or (section_views_rows t before vs) n r0).top < section_height (get_or vs n v0) (get_or vs n v0).section.now
  pub shows : slice_get (sections_rows (shown_sections before vs)) (y - t) ≡ Some (row_on (get_or vs n v0) (y - (get_or (section_views_rows t before vs) n r0).top))

section-long : (b : Bool) (v : SectionView) → length (sections_rows (shown_section b v)) ≡ (if b then section_height v v.section.now else 0)
unfolding sections_rows
section-long true v = length-append (section_rows v) [] ∙ (let none : length (section_rows v) + 0 ≡ length (section_rows v) = omega arith in none) ∙ section-size v
section-long false v = refl

sections-both : (ps qs : List views.ShownSection) → sections_rows (ps ++ qs) ≡ sections_rows ps ++ sections_rows qs
unfolding sections_rows
sections-both [] qs = refl
sections-both (p ∷ ps) qs = ap (λ rs. p.rows ++ rs) (sections-both ps qs) ∙ sym (append_assoc p.rows (sections_rows ps) (sections_rows qs))

none-or : (b : Bool) (n : ℕ) → 0 < (if b then n else 0) → b ≡ true
none-or true n h = refl
none-or false n h = absurd (omega (arith, h))

-- the row of a section that is shown
own-row : (b : Bool) (v : SectionView) (rest : List DocRow) (k : ℕ) → k < (if b then section_height v v.section.now else 0)
    → slice_get (sections_rows (shown_section b v) ++ rest) k ≡ Some (row_on v k)
unfolding sections_rows
own-row true v rest k h =
    let within : k < length (section_rows v) = omega (arith, h, section-size v) in
    ap (λ rs. slice_get (rs ++ rest) k) (append-nil (section_rows v)) ∙ get-left (section_rows v) rest k within ∙ slice_get-get_or (section_rows v) k BlankRow within
own-row false v rest k h = absurd (omega (arith, h))

own-high : (b : Bool) (n k : ℕ) → k < (if b then n else 0) → k < n
own-high true n k h = h
own-high false n k h = absurd (omega (arith, h))

module _ (y : ℕ) (v0 : SectionView) (r0 : SectionRows) where
  pub found-section : (before : Bool) (t i j : ℕ) (vs : List SectionView) → section_index y i (section_views_rows t before vs) ≡ Some j → (n : ℕ) × FoundSection before t y i j vs v0 r0 n
  unfolding section_views_rows shown_sections
  found-section before t i j [] e = absurd (cc e)
  found-section before t i j (v ∷ vs) e = go (nat_le t y && nat_lt y (t + h)) refl e (λ q. found-section (is_open v) (t + h) (suc i) j vs q)
    where
      b : Bool
      b = is_section_visible before v.section.now (is_first_open vs)

      h : ℕ
      h = view_height before v (is_first_open vs)

      rest : List DocRow
      rest = sections_rows (shown_sections (is_open v) vs)

      here : t ≤ y → y < t + h → FoundSection before t y i i (v ∷ vs) v0 r0 0
      here low high =
          let under : y - t < h = omega (arith, low, high) in
          record {
            at = omega arith;
            within = omega arith;
            above = omega arith;
            low = low;
            high = own-high b (section_height v v.section.now) (y - t) under;
            shows = ap (λ rs. slice_get rs (y - t)) (sections-both (shown_section b v) (shown_sections (is_open v) vs)) ∙ own-row b v rest (y - t) under;
          }

      there : (n : ℕ) → FoundSection (is_open v) (t + h) y (suc i) j vs v0 r0 n → FoundSection before t y i j (v ∷ vs) v0 r0 (suc n)
      there n f =
          let reach : t + h ≤ y = omega (arith, f.above, f.low) in
          record {
            at = omega (arith, f.at);
            within = omega (arith, f.within);
            above = omega (arith, f.above);
            low = f.low;
            high = f.high;
            shows = ap (λ rs. slice_get rs (y - t)) (sections-both (shown_section b v) (shown_sections (is_open v) vs))
                ∙ get-below (sections_rows (shown_section b v)) rest h t y (section-long b v) reach ∙ f.shows;
          }

      go : (c : Bool) → (nat_le t y && nat_lt y (t + h)) ≡ c → (if c then Some i else section_index y (suc i) (section_views_rows (t + h) (is_open v) vs)) ≡ Some j
          → (section_index y (suc i) (section_views_rows (t + h) (is_open v) vs) ≡ Some j → (n : ℕ) × FoundSection (is_open v) (t + h) y (suc i) j vs v0 r0 n)
          → (n : ℕ) × FoundSection before t y i j (v ∷ vs) v0 r0 n
      go true w q more =
          let same : i ≡ j = cc in
          let inside = has-true t (t + h) y w in
          (0, subst (λ k. FoundSection before t y i k (v ∷ vs) v0 r0 0) same (here inside.0 inside.1))
      go false w q more = let f = more q in (suc f.0, there f.0 f.1)

pub no-section : (y : ℕ) (before : Bool) (t i : ℕ) (vs : List SectionView) → section_index y i (section_views_rows t before vs) ≡ None → t ≤ y
    → slice_get (sections_rows (shown_sections before vs)) (y - t) ≡ None
unfolding section_views_rows shown_sections sections_rows
no-section y before t i [] e low = refl
no-section y before t i (v ∷ vs) e low = go (nat_le t y && nat_lt y (t + h)) refl e (λ q r. no-section y (is_open v) (t + h) (suc i) vs q r)
  where
    b : Bool
    b = is_section_visible before v.section.now (is_first_open vs)

    h : ℕ
    h = view_height before v (is_first_open vs)

    go : (c : Bool) → (nat_le t y && nat_lt y (t + h)) ≡ c → (if c then Some i else section_index y (suc i) (section_views_rows (t + h) (is_open v) vs)) ≡ None
        → (section_index y (suc i) (section_views_rows (t + h) (is_open v) vs) ≡ None → t + h ≤ y → slice_get (sections_rows (shown_sections (is_open v) vs)) (y - (t + h)) ≡ None)
        → slice_get (sections_rows (shown_section b v ++ shown_sections (is_open v) vs)) (y - t) ≡ None
    go true w q more = absurd (cc q)
    go false w q more =
        let past = has-false t (t + h) y w low in
        ap (λ rs. slice_get rs (y - t)) (sections-both (shown_section b v) (shown_sections (is_open v) vs))
        ∙ get-below (sections_rows (shown_section b v)) (sections_rows (shown_sections (is_open v) vs)) h t y (section-long b v) past ∙ more q past

-- ---- files

abbrev file_index : ℕ → ℕ → List FileRows → Option ℕ
file_index y i rs = index_on (λ (r : FileRows). r.top) (λ (r : FileRows). r.end) y i rs

-- the rows of files from file i on, the first of which begins on row t
abbrev rows_from : ViewState → ℕ → ℕ → ℕ → List File → List FileRows
rows_from s commit t i fs = stacked t (each_file_rows s.expanded commit i fs)

-- what is shown of these files
abbrev shown_from : ViewState → ℕ → ℕ → List File → List ShownFile
shown_from s commit i fs = map shown_file (file_views_of s commit i fs)

-- file j of those from file i on, the n-th of them, has row y, and it is the file's row y - top
pub record FoundFile (s : ViewState) (commit t y i j : ℕ) (fs : List File) (f0 : File) (r0 : FileRows) (n : ℕ) : Type 0 where
  pub at : j ≡ i + n
  pub within : n < length fs
  pub rows : get_or (rows_from s commit t i fs) n r0 ≡ moved_to (get_or (rows_from s commit t i fs) n r0).top (file_rows s.expanded (file_key_of commit j) (get_or fs n f0))
  pub above : t ≤ (get_or (rows_from s commit t i fs) n r0).top
  pub low : (get_or (rows_from s commit t i fs) n r0).top ≤ y
  pub high : y < (get_or (rows_from s commit t i fs) n r0).end
  pub shows : slice_get (files_rows (shown_from s commit i fs)) (y - t)
      ≡ slice_get (views.file_rows (shown_file (file_view_of s (file_key_of commit j) (get_or fs n f0)))) (y - (get_or (rows_from s commit t i fs) n r0).top)
  pub over : file_over y t (shown_from s commit i fs)
      ≡ (if nat_lt (get_or (rows_from s commit t i fs) n r0).top y then Some (shown_file (file_view_of s (file_key_of commit j) (get_or fs n f0))) else None)

-- how many rows a file has
pub file-long : (s : ViewState) (k : FileKey) (f : File) → length (views.file_rows (shown_file (file_view_of s k f))) ≡ file_height s.expanded k f - 0
file-long s k f =
    let less : file_height s.expanded k f ≡ file_height s.expanded k f - 0 = omega arith in
    heights.file-height (file_view_of s k f) ∙ sym (rows.file-height s k f) ∙ less

-- no file begins above a row above the first
over-none : (y t : ℕ) (fs : List ShownFile) → y ≤ t → file_over y t fs ≡ None
unfolding file_over
over-none y t [] h = refl
over-none y t (f ∷ fs) h = go (is_over y t f) refl (over-none y (t + length (views.file_rows f)) fs (omega (arith, h)))
  where
    go : (b : Bool) → is_over y t f ≡ b → file_over y (t + length (views.file_rows f)) fs ≡ None → cond b (Some f) (file_over y (t + length (views.file_rows f)) fs) ≡ None
    go true e rest = let early : t < y = grind (arith, nat_tests, e) in absurd (omega (arith, early, h))
    go false e rest = rest

module _ (s : ViewState) (commit y : ℕ) (f0 : File) (r0 : FileRows) where
  pub found-file : (t i j : ℕ) (fs : List File) → file_index y i (rows_from s commit t i fs) ≡ Some j → (n : ℕ) × FoundFile s commit t y i j fs f0 r0 n
  unfolding stacked each_file_rows file_views_of files_rows file_over
  found-file t i j [] e = absurd (cc e)
  found-file t i j (f ∷ fs) e = go (nat_le t y && nat_lt y (t + h)) refl e (λ q. found-file (t + h) (suc i) j fs q)
    where
      k : FileKey
      k = file_key_of commit i

      h : ℕ
      h = file_height s.expanded k f - 0

      f' : ShownFile
      f' = shown_file (file_view_of s k f)

      rest : List ShownFile
      rest = shown_from s commit (suc i) fs

      long : length (views.file_rows f') ≡ h
      long = file-long s k f

      here : t ≤ y → y < t + h → FoundFile s commit t y i i (f ∷ fs) f0 r0 0
      here low high = record {
        at = omega arith;
        within = omega arith;
        rows = refl;
        above = omega arith;
        low = low;
        high = high;
        shows = get-left (views.file_rows f') (files_rows rest) (y - t) (omega (arith, long, low, high));
        over = begun (nat_lt t y) refl;
      }
        where
          inside : nat_lt y (t + length (views.file_rows f')) ≡ true
          inside = grind (arith, nat_tests, long, high)

          begun : (b : Bool) → nat_lt t y ≡ b → cond (b && nat_lt y (t + length (views.file_rows f'))) (Some f') (file_over y (t + length (views.file_rows f')) rest) ≡ (if b then Some f' else None)
          begun true q = ap (λ c. cond c (Some f') (file_over y (t + length (views.file_rows f')) rest)) inside
          begun false q =
              let first : y ≤ t = grind (arith, nat_tests, q) in
              over-none y (t + length (views.file_rows f')) rest (omega (arith, first))

      there : (n : ℕ) → FoundFile s commit (t + h) y (suc i) j fs f0 r0 n → FoundFile s commit t y i j (f ∷ fs) f0 r0 (suc n)
      there n r =
          let reach : t + h ≤ y = omega (arith, r.above, r.low) in
          let past : (nat_lt t y && nat_lt y (t + length (views.file_rows f'))) ≡ false = grind (arith, nat_tests, long, reach) in
          record {
            at = omega (arith, r.at);
            within = omega (arith, r.within);
            rows = r.rows;
            above = omega (arith, r.above);
            low = r.low;
            high = r.high;
            shows = get-below (views.file_rows f') (files_rows rest) h t y long reach ∙ r.shows;
            over = ap (λ c. cond c (Some f') (file_over y (t + length (views.file_rows f')) rest)) past ∙ ap (λ n. file_over y (t + n) rest) long ∙ r.over;
          }

      go : (c : Bool) → (nat_le t y && nat_lt y (t + h)) ≡ c → (if c then Some i else file_index y (suc i) (rows_from s commit (t + h) (suc i) fs)) ≡ Some j
          → (file_index y (suc i) (rows_from s commit (t + h) (suc i) fs) ≡ Some j → (n : ℕ) × FoundFile s commit (t + h) y (suc i) j fs f0 r0 n) → (n : ℕ) × FoundFile s commit t y i j (f ∷ fs) f0 r0 n
      go true w q more =
          let same : i ≡ j = cc in
          let inside = has-true t (t + h) y w in
          (0, subst (λ m. FoundFile s commit t y i m (f ∷ fs) f0 r0 0) same (here inside.0 inside.1))
      go false w q more = let r = more q in (suc r.0, there r.0 r.1)

-- no file has row y: the document has none there, and no header is pinned there
pub no-file : (s : ViewState) (commit y t i : ℕ) (fs : List File) → file_index y i (rows_from s commit t i fs) ≡ None → t ≤ y
    → slice_get (files_rows (shown_from s commit i fs)) (y - t) ≡ None
unfolding stacked each_file_rows file_views_of files_rows
no-file s commit y t i [] e low = refl
no-file s commit y t i (f ∷ fs) e low = go (nat_le t y && nat_lt y (t + h)) refl e (λ q r. no-file s commit y (t + h) (suc i) fs q r)
  where
    k : FileKey
    k = file_key_of commit i

    h : ℕ
    h = file_height s.expanded k f - 0

    go : (c : Bool) → (nat_le t y && nat_lt y (t + h)) ≡ c → (if c then Some i else file_index y (suc i) (rows_from s commit (t + h) (suc i) fs)) ≡ None
        → (file_index y (suc i) (rows_from s commit (t + h) (suc i) fs) ≡ None → t + h ≤ y → slice_get (files_rows (shown_from s commit (suc i) fs)) (y - (t + h)) ≡ None)
        → slice_get (views.file_rows (shown_file (file_view_of s k f)) ++ files_rows (shown_from s commit (suc i) fs)) (y - t) ≡ None
    go true w q more = absurd (cc q)
    go false w q more =
        let past = has-false t (t + h) y w low in
        get-below (views.file_rows (shown_file (file_view_of s k f))) (files_rows (shown_from s commit (suc i) fs)) h t y (file-long s k f) past ∙ more q past

pub no-over : (s : ViewState) (commit y t i : ℕ) (fs : List File) → file_index y i (rows_from s commit t i fs) ≡ None → file_over y t (shown_from s commit i fs) ≡ None
unfolding stacked each_file_rows file_views_of file_over
no-over s commit y t i [] e = refl
no-over s commit y t i (f ∷ fs) e = go (nat_le t y && nat_lt y (t + h)) refl e (λ q. no-over s commit y (t + h) (suc i) fs q)
  where
    k : FileKey
    k = file_key_of commit i

    h : ℕ
    h = file_height s.expanded k f - 0

    f' : ShownFile
    f' = shown_file (file_view_of s k f)

    go : (c : Bool) → (nat_le t y && nat_lt y (t + h)) ≡ c → (if c then Some i else file_index y (suc i) (rows_from s commit (t + h) (suc i) fs)) ≡ None
        → (file_index y (suc i) (rows_from s commit (t + h) (suc i) fs) ≡ None → file_over y (t + h) (shown_from s commit (suc i) fs) ≡ None)
        → cond (is_over y t f') (Some f') (file_over y (t + length (views.file_rows f')) (shown_from s commit (suc i) fs)) ≡ None
    go true w q more = absurd (cc q)
    go false w q more =
        let none : is_over y t f' ≡ false = grind (arith, nat_tests, w, file-long s k f) in
        ap (λ c. cond c (Some f') (file_over y (t + length (views.file_rows f')) (shown_from s commit (suc i) fs))) none
        ∙ ap (λ n. file_over y (t + n) (shown_from s commit (suc i) fs)) (file-long s k f) ∙ more q

-- ---- the sections of a file

views-long : (s : ViewState) (t : Totals) (k : FileKey) (i editable line : ℕ) (xs : List Section) → length (section_views_of s t k i editable line xs) ≡ length xs
unfolding section_views_of
views-long s t k i editable line [] = refl
views-long s t k i editable line (x ∷ xs) = ap suc (views-long s t k (suc i) _ _ xs)

-- the views of the sections of a file
abbrev pub views_in : ViewState → FileKey → File → List SectionView
views_in s k f = section_views_of s (totals_of f.sections) k 0 0 0 f.sections

-- the view of a section, where any will do
abbrev pub no-view : ViewState → FileKey → SectionView
no-view s k = section_view_of s (record { sections = 0; editable = 0 }) (section_key_of k 0) 0 0 (Unchanged [])

-- the rows of the sections of a file
abbrev pub rows_in : ViewState → FileKey → File → List SectionRows
rows_in s k f = layout_sections s.expanded k (length f.sections) 0 0 false f.sections

module _ (s : ViewState) (t : Totals) (k : FileKey) where
  -- the rows of sections by their views are those of the layout
  rows-are : (i editable line top : ℕ) (before before' : Bool) (xs : List Section) → before ≡ before'
      → section_views_rows top before (section_views_of s t k i editable line xs) ≡ layout_sections s.expanded k t.sections i top before' xs
  unfolding section_views_rows section_views_of layout_sections
  rows-are i editable line top before before' [] e = refl
  rows-are i editable line top before before' (x ∷ xs) e =
      let editable' = editable_after editable x in
      let line' = line + old_lines x in
      let vs = section_views_of s t k (suc i) editable' line' xs in
      let h = visible_height s.expanded k t.sections i before' x (layout_first s.expanded k (suc i) xs) in
      ap (λ n. rows_at top n (shape_of x) ∷ section_views_rows (top + n) (is_open (section_view_of s t (section_key_of k i) editable line x)) vs) (rows.visible-is s t k i editable line before before' x xs editable' line' e)
      ∙ ap (λ rs. rows_at top h (shape_of x) ∷ rs) (rows-are (suc i) editable' line' (top + h) (is_open (section_view_of s t (section_key_of k i) editable line x)) (layout_open s.expanded k i x) xs (rows.open-is s t k i editable line x))

-- section j of a file has row y of the rows below the header, and it is the section's row y - top
pub record FoundHere (s : ViewState) (k : FileKey) (f : File) (y j : ℕ) (rs : List SectionRows) (v0 : SectionView) (r0 : SectionRows) : Type 0 where
  pub within : j < length f.sections
  pub long : j < length rs
  pub low : (get_or rs j r0).top ≤ y
  pub high : y - (get_or rs j r0).top < section_height (get_or (views_in s k f) j v0) (get_or (views_in s k f) j v0).section.now
  pub shows : slice_get (rows_of_sections s k f) y ≡ Some (row_on (get_or (views_in s k f) j v0) (y - (get_or rs j r0).top))

module _ (s : ViewState) (k : FileKey) (f : File) (y : ℕ) where
  same-rows : section_views_rows 0 false (views_in s k f) ≡ rows_in s k f
  same-rows = rows-are s (totals_of f.sections) k 0 0 0 0 false false f.sections refl

  none-off : y - 0 ≡ y
  none-off = omega arith

  pub section-here : (j : ℕ) (rs : List SectionRows) (v0 : SectionView) (r0 : SectionRows) → rs ≡ rows_in s k f → section_on y rs ≡ Some j → FoundHere s k f y j rs v0 r0
  section-here j rs v0 r0 e at =
      subst (λ (qs : List SectionRows). FoundHere s k f y j qs v0 r0) (same-rows ∙ sym e)
      (here (found-section y v0 r0 false 0 0 j (views_in s k f) (ap (λ qs. section_on y qs) (same-rows ∙ sym e) ∙ at)))
    where
      here : (n : ℕ) × FoundSection false 0 y 0 j (views_in s k f) v0 r0 n → FoundHere s k f y j (section_views_rows 0 false (views_in s k f)) v0 r0
      here found =
          let same : found.0 ≡ j = omega (arith, found.1.at) in
          let g : FoundSection false 0 y 0 j (views_in s k f) v0 r0 j = subst (λ n. FoundSection false 0 y 0 j (views_in s k f) v0 r0 n) same found.1 in
          let count = views-long s (totals_of f.sections) k 0 0 0 f.sections in
          record {
            within = omega (arith, g.within, count);
            long = omega (arith, g.within, count, ap (λ (qs : List SectionRows). length qs) same-rows, length-sections_rows s.expanded k (length f.sections) 0 0 false f.sections);
            low = g.low;
            high = g.high;
            shows = ap (λ n. slice_get (rows_of_sections s k f) n) (sym none-off) ∙ g.shows;
          }

  pub section-nowhere : (rs : List SectionRows) → rs ≡ rows_in s k f → section_on y rs ≡ None → slice_get (rows_of_sections s k f) y ≡ None
  section-nowhere rs e at =
      ap (λ n. slice_get (rows_of_sections s k f) n) (sym none-off)
      ∙ no-section y false 0 0 (views_in s k f) (ap (λ qs. section_on y qs) (same-rows ∙ sym e) ∙ at) (omega arith)

-- ---- the rows of a file

-- below its header, an unfolded file has the rows of its sections
pub below-header : (s : ViewState) (k : FileKey) (f : File) (r : FileRows) (y : ℕ) → r ≡ moved_to r.top (file_rows s.expanded k f) → y < r.end → r.top ≤ y → (j : ℕ) → y - r.top ≡ suc j
    → slice_get (views.file_rows (shown_file (file_view_of s k f))) (y - r.top) ≡ slice_get (rows_of_sections s k f) j
unfolding views.file_rows shown_file
below-header s k f r y e high low j at = ap (λ n. slice_get (views.HeaderRow v.file_key heading ∷ sections_rows shown) n) at ∙ go (is_fold_open v.expand_box) refl
  where
    v : FileView
    v = file_view_of s k f

    heading : views.Heading
    heading = (shown_file v).heading

    shown : List views.ShownSection
    shown = if is_fold_open v.expand_box then shown_sections false v.section_views else []

    end : r.end ≡ r.top + (file_height s.expanded k f - 0)
    end = ap (λ (q : FileRows). q.end) e

    go : (b : Bool) → is_fold_open v.expand_box ≡ b → slice_get (sections_rows (if b then shown_sections false v.section_views else [])) j ≡ slice_get (rows_of_sections s k f) j
    go true q = refl
    go false q =
        let folded : has_key s.expanded (keys.File k) ≡ false = sym (rows.file-box s k f) ∙ q in
        let one : file_height s.expanded k f ≡ 1 = ap (λ b. 1 + (if b then sections_height s.expanded k (length f.sections) 0 false f.sections else 0)) folded in
        absurd (omega (arith, end, one, high, low, at))

-- the header of a file
pub at-header : (s : ViewState) (k : FileKey) (f : File) (n : ℕ) → n ≡ 0
    → slice_get (views.file_rows (shown_file (file_view_of s k f))) n ≡ Some (views.HeaderRow k (shown_file (file_view_of s k f)).heading)
unfolding views.file_rows shown_file
at-header s k f n e = ap (λ m. slice_get (views.file_rows (shown_file (file_view_of s k f))) m) e

-- ---- documents

-- file j of a state has row y of the document
pub record FoundInState (s : ViewState) (y j : ℕ) (rs : List FileRows) (f0 : File) (r0 : FileRows) : Type 0 where
  pub within : j < length s.state.files
  pub long : j < length rs
  pub rows : get_or rs j r0 ≡ moved_to (get_or rs j r0).top (file_rows s.expanded (file_key_of 0 j) (get_or s.state.files j f0))
  pub low : (get_or rs j r0).top ≤ y
  pub high : y < (get_or rs j r0).end
  pub shows : row_shown (inline_document s) y
      ≡ option_map FileRow (slice_get (views.file_rows (shown_file (file_view_of s (file_key_of 0 j) (get_or s.state.files j f0)))) (y - (get_or rs j r0).top))
  pub over : pinned_on (inline_document s) y
      ≡ (if nat_lt (get_or rs j r0).top y then Some (header_of (shown_file (file_view_of s (file_key_of 0 j) (get_or s.state.files j f0)))) else None)

header-if : (b : Bool) (f : ShownFile) → option_map header_of (if b then Some f else None) ≡ (if b then Some (header_of f) else None)
header-if true f = refl
header-if false f = refl

each-long : (s : ViewState) (commit i : ℕ) (fs : List File) → length (each_file_rows s.expanded commit i fs) ≡ length fs
unfolding each_file_rows
each-long s commit i [] = refl
each-long s commit i (f ∷ fs) = ap suc (each-long s commit (suc i) fs)

message-long : (k : ℕ) (m : Option (List ℕ)) → length (message_rows k m) ≡ message_height m
message-long k None = refl
message-long k (Some m) = refl

-- the files begin below the message of the first commit
pub top-is : (cs : List Commit) → files_top cs ≡ 1 + message_height (commit_at 0 cs).message
unfolding commit_at
top-is [] = refl
top-is (c ∷ cs) = refl

-- the rows of the message, and below them others
row-below : (k : ℕ) (m : Option (List ℕ)) (ds : List AreaRow) (y : ℕ) → 1 + message_height m ≤ y → row_in (message_rows k m ++ ds) y ≡ slice_get ds (y - (1 + message_height m))
row-below k m ds zero h = absurd (omega (arith, h))
row-below k m ds (suc y) h =
    let same : y - length (message_rows k m) ≡ suc y - (1 + message_height m) = omega (arith, message-long k m) in
    get-right (message_rows k m) ds y (omega (arith, h, message-long k m)) ∙ ap (slice_get ds) same

row-above : (k : ℕ) (m : Option (List ℕ)) (ds : List AreaRow) (y : ℕ) → y < 1 + message_height m → row_in (message_rows k m ++ ds) y ≡ row_in (message_rows k m) y
row-above k m ds zero h = refl
row-above k m ds (suc y) h = get-left (message_rows k m) ds y (omega (arith, h, message-long k m))

-- below the message are no rows of it
message-past : (k : ℕ) (m : Option (List ℕ)) (y : ℕ) → 1 + message_height m ≤ y → row_in (message_rows k m) y ≡ None
message-past k m zero h = refl
message-past k m (suc y) h = slice_get_past (message_rows k m) y (omega (arith, h, message-long k m))

module _ (s : ViewState) (y : ℕ) where
  -- the first row of the files
  abbrev pub top : ℕ
  top = files_top s.state.commits

  abbrev pub files : List ShownFile
  files = shown_from s 0 0 s.state.files

  abbrev pub m : Option (List ℕ)
  m = (commit_at 0 s.state.commits).message

  pub state-here : (j : ℕ) (rs : List FileRows) (f0 : File) (r0 : FileRows) → rs ≡ rows_from s 0 (files_top s.state.commits) 0 s.state.files → file_on y rs ≡ Some j → FoundInState s y j rs f0 r0
  state-here j rs f0 r0 e at =
      subst (λ (qs : List FileRows). FoundInState s y j qs f0 r0) (sym e) (here (found-file s 0 y f0 r0 top 0 j s.state.files (ap (λ qs. file_on y qs) (sym e) ∙ at)))
    where
      all : List FileRows
      all = rows_from s 0 top 0 s.state.files

      here : (n : ℕ) × FoundFile s 0 top y 0 j s.state.files f0 r0 n → FoundInState s y j all f0 r0
      here found =
          let same : found.0 ≡ j = omega (arith, found.1.at) in
          let g : FoundFile s 0 top y 0 j s.state.files f0 r0 j = subst (λ n. FoundFile s 0 top y 0 j s.state.files f0 r0 n) same found.1 in
          let first = top-is s.state.commits in
          let below : 1 + message_height m ≤ y = omega (arith, first, g.above, g.low) in
          let off : y - (1 + message_height m) ≡ y - top = ap (λ n. y - n) (sym first) in
          record {
            within = g.within;
            long = omega (arith, g.within, length-stacked top (each_file_rows s.expanded 0 0 s.state.files), each-long s 0 0 s.state.files);
            rows = g.rows;
            low = g.low;
            high = g.high;
            shows = row-below 0 m (map FileRow (files_rows files)) y below ∙ ap (slice_get (map FileRow (files_rows files))) off
                ∙ get-map FileRow (files_rows files) (y - top) ∙ ap (option_map FileRow) g.shows;
            over = ap (λ t. option_map header_of (file_over y t files)) (sym first) ∙ ap (option_map header_of) g.over
                ∙ header-if (nat_lt (get_or all j r0).top y) (shown_file (file_view_of s (file_key_of 0 j) (get_or s.state.files j f0)));
          }

  -- no file has row y, so it is one of the message, or none
  pub state-nowhere : (rs : List FileRows) → rs ≡ rows_from s 0 (files_top s.state.commits) 0 s.state.files → file_on y rs ≡ None → row_shown (inline_document s) y ≡ row_in (message_rows 0 m) y
  state-nowhere rs e at = go (nat_lt y (1 + message_height m)) refl
    where
      missed : file_index y 0 (rows_from s 0 top 0 s.state.files) ≡ None
      missed = ap (λ qs. file_on y qs) (sym e) ∙ at

      go : (b : Bool) → nat_lt y (1 + message_height m) ≡ b → row_in (message_rows 0 m ++ map FileRow (files_rows files)) y ≡ row_in (message_rows 0 m) y
      go true q = let early : y < 1 + message_height m = grind (arith, nat_tests, q) in row-above 0 m (map FileRow (files_rows files)) y early
      go false q =
          let below : 1 + message_height m ≤ y = grind (arith, nat_tests, q) in
          let first = top-is s.state.commits in
          let low : top ≤ y = omega (arith, first, below) in
          row-below 0 m (map FileRow (files_rows files)) y below ∙ ap (λ t. slice_get (map FileRow (files_rows files)) (y - t)) (sym first)
          ∙ get-map FileRow (files_rows files) (y - top) ∙ ap (option_map FileRow) (no-file s 0 y top 0 s.state.files missed low) ∙ sym (message-past 0 m y below)

  pub over-nowhere : (rs : List FileRows) → rs ≡ rows_from s 0 (files_top s.state.commits) 0 s.state.files → file_on y rs ≡ None → pinned_on (inline_document s) y ≡ None
  over-nowhere rs e at =
      ap (λ t. option_map header_of (file_over y t files)) (sym (top-is s.state.commits))
      ∙ ap (option_map header_of) (no-over s 0 y top 0 s.state.files (ap (λ qs. file_on y qs) (sym e) ∙ at))

-- ---- the file that has a row

-- a file and its rows, where any will do
abbrev no-file-at-all : File
no-file-at-all = record { old_path = None; path = []; file_mode = Unix 0; sections = [] }

abbrev no-rows : FileRows
no-rows = record { top = 0; end = 0; folded = 0; sections = [] }

-- the rows of a layout
pub layout-rows : (s : ViewState) (l : Layout) (rs : List FileRows) → l ≡ layout_of s.state s.expanded → rs ≡ l.rows.files → rs ≡ rows_from s 0 (files_top s.state.commits) 0 s.state.files
layout-rows s l rs e k = k ∙ ap (λ (q : Layout). q.rows.files) e

-- the counts of a layout
layout-counts : (s : ViewState) (l : Layout) (ns : List FileCounts) → l ≡ layout_of s.state s.expanded → ns ≡ l.counts.files → ns ≡ map file_counts s.state.files
layout-counts s l ns e k = k ∙ ap (λ (q : Layout). q.counts.files) e

counts-at : (j : ℕ) (fs : List File) (n : FileCounts) (f : File) → j < length fs → n ≡ get_or (map file_counts fs) j n → f ≡ get_or fs j f → n ≡ file_counts f
counts-at j [] n f h p q = absurd (omega (arith, h))
counts-at zero (x ∷ xs) n f h p q = p ∙ ap (λ (g : File). file_counts g) (sym q)
counts-at (suc j) (x ∷ xs) n f h p q = counts-at j xs n f (omega (arith, h)) p q

-- the file that has a row is one of the state, and has counts and rows
pub state-within : (s : ViewState) (y j : ℕ) (l : Layout) (rs : List FileRows) (ns : List FileCounts) → l ≡ layout_of s.state s.expanded → rs ≡ l.rows.files → ns ≡ l.counts.files → file_on y rs ≡ Some j
    → (j < length s.state.files) × (j < length ns) × (j < length rs)
state-within s y j l rs ns e p q at =
    let g = state-here s y j rs no-file-at-all no-rows (layout-rows s l rs e p) at in
    let long : length ns ≡ length s.state.files = ap (λ (ms : List FileCounts). length ms) (layout-counts s l ns e q) ∙ length-map s.state.files file_counts in
    (g.within, omega (arith, g.within, long), g.long)

pub has-row : (s : ViewState) (y j : ℕ) (c : RowFile) (l : Layout) (rs : List FileRows) (ns : List FileCounts) → l ≡ layout_of s.state s.expanded → rs ≡ l.rows.files → ns ≡ l.counts.files
    → state_size s.state ≤ max_items → file_on y rs ≡ Some j → c.key ≡ file_key_of 0 j → c.file.now ≡ get_or s.state.files j c.file.now → c.counts.now ≡ get_or ns j c.counts.now → c.rows.now ≡ get_or rs j c.rows.now → HasRow s y c
has-row s y j c l rs ns e p q size at key file counts row =
    let g = state-here s y j rs c.file.now c.rows.now (layout-rows s l rs e p) at in
    let all = layout-counts s l ns e q in
    record {
      layout = record {
        counts = counts-at j s.state.files c.counts.now c.file.now g.within (counts ∙ ap (λ (ms : List FileCounts). get_or ms j c.counts.now) all) file;
        size = file-within j s.state.files c.file.now g.within file size;
        rows = row ∙ g.rows ∙ (λ i. moved_to (sym row i).top (file_rows s.expanded (sym key i) (sym file i)));
      };
      low = subst (λ (r : FileRows). r.top ≤ y) (sym row) g.low;
      high = subst (λ (r : FileRows). y < r.end) (sym row) g.high;
      shows = g.shows ∙ (λ i. option_map FileRow (slice_get (views.file_rows (shown_file (file_view_of s (sym key i) (sym file i)))) (y - (sym row i).top)));
      over = g.over ∙ (λ i. if nat_lt (sym row i).top y then Some (header_of (shown_file (file_view_of s (sym key i) (sym file i)))) else None);
    }

pub no-row : (s : ViewState) (y : ℕ) (l : Layout) (rs : List FileRows) → l ≡ layout_of s.state s.expanded → rs ≡ l.rows.files → file_on y rs ≡ None → NoFileHas s y
no-row s y l rs e p at = record { shows = state-nowhere s y rs (layout-rows s l rs e p) at; over = over-nowhere s y rs (layout-rows s l rs e p) at }

-- its header, and its sections
pub header-shown : (s : ViewState) (k : FileKey) (f : File) → FileRow (views.HeaderRow k (shown_file (file_view_of s k f)).heading) ≡ header_of (shown_file (file_view_of s k f))
unfolding shown_file
header-shown s k f = refl

pub first-shown : (s : ViewState) (y : ℕ) (c : RowFile) → HasRow s y c → y - c.rows.now.top ≡ 0 → row_shown (inline_document s) y ≡ Some (header_of (shown_file (file_view_of s c.key c.file.now)))
first-shown s y c h e =
    h.shows ∙ ap (option_map FileRow) (at-header s c.key c.file.now (y - c.rows.now.top) e) ∙ ap Some (header-shown s c.key c.file.now)

pub later-shown : (s : ViewState) (y j : ℕ) (c : RowFile) → HasRow s y c → y - c.rows.now.top ≡ suc j → row_shown (inline_document s) y ≡ option_map FileRow (slice_get (rows_of_sections s c.key c.file.now) j)
later-shown s y j c h e =
    h.shows ∙ ap (option_map FileRow) (below-header s c.key c.file.now c.rows.now y h.layout.rows h.high h.low j e)
