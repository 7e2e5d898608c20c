-- Who owns the columns of the rows of files that are drawn in an area, by the boxes that are drawn: whom the strips name, and over them the pinned header's.
use Rattle.std.proofs.Common.{◌≡◌, ℕ, suc, ◌+◌, ◌<◌, ◌≤◌, max, Bool, true, false, cond, List, [], ◌∷◌, ◌++◌, length, length-append, refl, sym, ap, ap₂, ◌∙◌, arith, ◌⊎◌, inl, inr}
use Rattle.std.specs.Prelude.{ℤ, pos, ◌+ℤ◌, ◌-ℤ◌, ◌<ℤ◌, ◌||◌, nat_lt, Option, Some, None, if◌then◌else◌}
use Rattle.std.specs.Ordering.{int_eq}
use Rattle.std.proofs.lemmas.Bool.{or_right}
use Rattle.std.proofs.lemmas.Bool.Decides.{Decides-int_eq}
use Rattle.std.proofs.lemmas.Int.{ints}
use Rattle.std.proofs.lemmas.List.{length-map}
use Rattle.scm_cells.specs.Clusters.{text_width}
use Rattle.scm_render.specs.Canvas.{Sight, under}
use Rattle.scm_render.specs.Drawing.{span_picture}
use Rattle.scm_render.specs.Hits.{IsLawful, holds, has_id, first_of_two, hit}
use Rattle.scm_render.specs.Lines.{line}
use Rattle.scm_render.specs.Picture.{Box, nothing, followed_by, part, box_rect}
use Rattle.scm_render.proofs.HitLemmas.{Each, each-append, each_more, hit-append, hit_apart, hit_box, hit_replaced, two_assoc}
use Rattle.scm_render.proofs.LineLemmas.{line-below}
use Rattle.scm_types.specs.declared.keys.FileKey.{FileKey}
use Rattle.scm_types.specs.declared.keys.SectionKey.{SectionKey}
use Rattle.scm_types.specs.declared.keys.SelectionKey.{SelectionKey}
use Rattle.scm_types.specs.declared.keys.SelectionKey.TheVariants as selection
use Rattle.scm_types.specs.Keys.{section_of_line, file_of_section}
use Rattle.scm_widgets.specs.declared.ids.ComponentId.{ComponentId}
use Rattle.scm_widgets.specs.declared.ids.ComponentId.TheVariants as ids
use Rattle.scm_widgets.specs.Clicks.{is_clickable}
use Rattle.scm_widgets.specs.Layers.{Strip, clear, owned}
use Rattle.scm_widgets.specs.Pictures.{box_picture}
use Rattle.scm_widgets.proofs.DrawsStrips.{Apart, none_of, apart, line-more, line-owned, draws_nothing, draws_part}
use Rattle.scm_document.specs.Owners.{AreSectionsOf}
use Rattle.scm_document.specs.Pictures.{heading_picture, row_picture, sections_picture, shown_file_picture, file_mask, pinned_mask, mask_row, pinned_header, pinned_picture, one_file_picture, files_picture}
use Rattle.scm_document.specs.Rows.{file_id, Heading, HeaderRow, ShownFile, ShownSection, sections_rows, file_rows}
use Rattle.scm_document.specs.Strips.{is_over, only_shows}
use Rattle.scm_document.proofs.DocumentLemmas.{over-below}
use Rattle.scm_document.proofs.FilesOf.{IsHeadingOf, IsFileOf, AreFilesOf}
use Rattle.scm_overlay.proofs.MenuLemmas.{differ}
use Rattle.scm_strips.specs.declared.area.Area.{Area}
use Rattle.scm_strips.specs.AreaStrips.{area_file, area_files, area_header, area_pinned, area_section, area_sections, area_strip, file_part, owned_in}
use Rattle.scm_strips.specs.Parts.{end_of_texts, header_part, heading_parts, owner_in}
use Rattle.scm_strips.specs.Shows.{FileRow}
use Rattle.scm_view.proofs.FileOwnerLemmas.{IsBoxOf, IsFileFrom, IsHeadOf, IsOfFile, both-owners, file_of, none-owner, not-file, one-or-later, owner_at}
use Rattle.scm_view.proofs.OwnerLemmas.{IsSectionFrom, Owns, no-owner, no_rows, owns-as, section_of}
use Rattle.scm_beside_laws.proofs.AreaBoxLemmas.{farthest, file-lies, heading-lies}
use Rattle.scm_beside_laws.proofs.DocumentPaintLemmas.{sections-inner}
use Rattle.scm_beside_laws.proofs.RowOwnerLemmas.{from-zero, has-part, heading-boxes, heading-first, heading-owns, in_part, length-section, one-owner, owner-last, part_strip, sections-own}
use Rattle.scm_beside_laws.proofs.SeenLemmas.{IsSeen, under-seen}

-- ---- whose the ids are

abbrev key_file : SelectionKey → Option FileKey
key_file selection.None = None
key_file (selection.File k) = Some k
key_file (selection.Section k) = Some (file_of_section k)
key_file (selection.Line k) = Some (file_of_section (section_of_line k))

key-file : (i : ComponentId) (k : SelectionKey) (m : SectionKey) → file_of i ≡ key_file k → section_of (ids.SelectableItem k) ≡ Some m → file_of i ≡ Some (file_of_section m)
key-file i (selection.Section k) m f e = let same : k ≡ m = cc e in f ∙ ap (λ k. Some (file_of_section k)) same
key-file i (selection.Line k) m f e = let same : section_of_line k ≡ m = cc e in f ∙ ap (λ k. Some (file_of_section k)) same
key-file i _ m f e = absurd (cc e)

-- a part of a section is one of the section's file
section-file : (i : ComponentId) (m : SectionKey) → section_of i ≡ Some m → file_of i ≡ Some (file_of_section m)
section-file (ids.SelectableItem k) m e = key-file (ids.SelectableItem k) k m refl e
section-file (ids.ToggleBox k) m e = key-file (ids.ToggleBox k) k m refl e
section-file (ids.ExpandBox k) m e = key-file (ids.ExpandBox k) k m refl e
section-file _ m e = absurd (cc e)

head-file : (k : FileKey) (i : ComponentId) → IsHeadOf k i → IsOfFile k i
head-file k i (inl e) = ap file_of e
head-file k i (inr (inl e)) = ap file_of e
head-file k i (inr (inr e)) = ap file_of e

head-section : (k : FileKey) (i : ComponentId) → IsHeadOf k i → section_of i ≡ None
head-section k i (inl e) = ap section_of e
head-section k i (inr (inl e)) = ap section_of e
head-section k i (inr (inr e)) = ap section_of e

-- ---- a file's header

-- the header row of a file; no part of it owns columns there if the header is pinned elsewhere
abbrev pub head_strip : Area → Bool → ShownFile → Strip ComponentId
head_strip a pinned f = cond pinned (only_shows (area_header a f).shows) (area_header a f)

pub length-sections : (a : Area) (ps : List ShownSection) → length (area_sections a ps) ≡ length (sections_rows ps)
unfolding area_sections sections_rows
length-sections a [] = refl
length-sections a (p ∷ ps) =
    length-append (area_section a p) (area_sections a ps) ∙ ap₂ (λ (m n : ℕ). m + n) (length-section a p) (length-sections a ps) ∙ sym (length-append p.rows (sections_rows ps))

pub length-file : (a : Area) (pinned : Bool) (f : ShownFile) → length (area_file a pinned f) ≡ length (file_rows f)
unfolding area_file file_rows
length-file a pinned f = ap suc (length-map (area_sections a f.sections) (owned_in a (file_part a.width f)) ∙ length-sections a f.sections)

module _ (same : ComponentId → ComponentId → Bool) (law : IsLawful same) where
  pub header-owns : (k : FileKey) (h : Heading) (s : Sight) (w : ℕ) (a : Area) (y : ℤ) → 10 ≤ a.width → IsSeen s w a → IsHeadingOf k h
      → Owns same w (IsHeadOf k) (row_picture (HeaderRow k h) s (pos a.left) y) y (area_strip a (FileRow (HeaderRow k h)) ∷ [])
  unfolding row_picture
  header-owns k h s w a y fits o e =
      let v = a.width in
      let n = text_width h.title in
      let here : a.left + 0 ≡ a.left = omega arith in
      let boxes = heading_parts v 0 h.toggle.id h.fold.id in
      let whole = header_part v (ids.FileViewHeader k) n in
      let inner = heading-owns same law h s w a 0 y (IsBoxOf k) (omega (arith, fits)) o (ap is_clickable e.toggle) (ap is_clickable e.fold) (λ q. cc (e.toggle, e.fold, q)) (inl e.toggle) (inr e.fold) in
      let box = has-part _ a y 1 w 0 (max v (end_of_texts 4 n)) whole (heading-first v 0 n (omega (arith, fits))) (ap pos (omega (arith, fits))) (heading-lies h s w a 0 y (omega (arith, fits)) o) in
      let drawn : Owns same w (IsHeadOf k) (part (ids.FileViewHeader k) (heading_picture h s (pos (a.left + 0)) y)) y (owned (ids.FileViewHeader k) (in_part a whole) (part_strip a boxes) ∷ []) =
      draws_part same is_clickable (no_rows w) (IsBoxOf k) (IsHeadOf k) (ids.FileViewHeader k) (heading_picture h s (pos (a.left + 0)) y) y (part_strip a boxes ∷ []) (in_part a whole)
      inner box refl (λ j p. differ same law (ids.FileViewHeader k) j (not-box j p)) (inl refl) (λ j p. inr p) in
      owns-as same w (IsHeadOf k) (part (ids.FileViewHeader k) (heading_picture h s (pos (a.left + 0)) y)) (part (ids.FileViewHeader k) (heading_picture h s (pos a.left) y)) y _ (area_strip a (FileRow (HeaderRow k h)) ∷ [])
      (ap (λ c. (part (ids.FileViewHeader k) (heading_picture h s (pos c) y)).boxes) here)
      (λ z x. one-owner (owned (ids.FileViewHeader k) (in_part a whole) (part_strip a boxes)) (area_strip a (FileRow (HeaderRow k h))) (λ i. owner-last boxes whole (pos i -ℤ pos a.left)) y z x) drawn
    where
      not-box : (j : ComponentId) → IsBoxOf k j → ids.FileViewHeader k ≡ j → ⊥
      not-box j (inl p) q = cc (p, q)
      not-box j (inr p) q = cc (p, q)

  -- boxes that are all drawn again later own nothing
  all-gone : (rep : ComponentId → Bool) (bs : List (Box ComponentId)) (y x : ℤ) → Each (λ i. rep i ≡ true) bs → hit same is_clickable rep bs y x ≡ None
  unfolding hit
  all-gone rep [] y x e = refl
  all-gone rep (b ∷ bs) y x e = hit_replaced same is_clickable rep b bs y x e.0 ∙ all-gone rep bs y x e.1

  -- the header row of a file whose header is pinned elsewhere, or is not
  header-under : (f : ShownFile) (b : Bool) (rep : ComponentId → Bool) (s : Sight) (w : ℕ) (a : Area) (y z : ℤ) (x : ℕ) → 10 ≤ a.width → IsSeen s w a → IsHeadingOf f.key f.heading → ((i : ComponentId) → IsHeadOf f.key i → rep i ≡ b) → x < w
      → hit same is_clickable rep (row_picture (HeaderRow f.key f.heading) s (pos a.left) y).boxes z (pos x) ≡ (line clear (head_strip a b f ∷ []) y z).owner x
  header-under f false rep s w a y z x fits o e heads within = (header-owns f.key f.heading s w a y fits o e).owns rep heads z x within
  header-under f true rep s w a y z x fits o e heads within =
      let own = header-owns f.key f.heading s w a y fits o e in
      let boxes = (row_picture (HeaderRow f.key f.heading) s (pos a.left) y).boxes in
      all-gone rep boxes z (pos x) (each_more (IsHeadOf f.key) (λ i. rep i ≡ true) boxes heads own.ids) ∙ sym (no-owner (head_strip a true f) (λ x. refl) y z x)

  head-or-section : (k : FileKey) → Apart same is_clickable (IsHeadOf k) (IsSectionFrom k 0)
  head-or-section k i j p q = differ same law i j (λ e. let none = head-section k i p in let some = q.section in cc (none, some, ap section_of e))

  -- the parts of a file
  parts-own : (f : ShownFile) (b : Bool) (rep : ComponentId → Bool) (s : Sight) (w : ℕ) (a : Area) (y z : ℤ) (x : ℕ) → 10 ≤ a.width → IsSeen s w a → IsHeadingOf f.key f.heading → AreSectionsOf f.key 0 f.sections
      → ((i : ComponentId) → IsHeadOf f.key i → rep i ≡ b) → ((i : ComponentId) → IsSectionFrom f.key 0 i → rep i ≡ false) → x < w
      → hit same is_clickable rep (shown_file_picture f s (pos a.left) y).boxes z (pos x) ≡ (line clear (head_strip a b f ∷ area_sections a f.sections) y z).owner x
  unfolding shown_file_picture followed_by
  parts-own f b rep s w a y z x fits o e es heads live within =
      let head = header-owns f.key f.heading s w a y fits o e in
      let below = sections-own same law f.key 0 f.sections s w a (y +ℤ pos 1) fits o es in
      hit_apart same is_clickable rep (row_picture (HeaderRow f.key f.heading) s (pos a.left) y).boxes (sections_picture f.sections s (pos (a.left + 2)) (y +ℤ pos 1)).boxes z (pos x)
      (apart same is_clickable (IsHeadOf f.key) (IsSectionFrom f.key 0) _ _ (head-or-section f.key) head.ids below.ids)
      ∙ ap₂ first_of_two (below.owns rep live z x within) (header-under f b rep s w a y z x fits o e heads within)
      ∙ ap (λ (t : Strip ComponentId). t.owner x) (line-more (head_strip a b f ∷ []) (area_sections a f.sections) y z)

  pub parts-ids : (f : ShownFile) (s : Sight) (w : ℕ) (a : Area) (y : ℤ) → 10 ≤ a.width → IsSeen s w a → IsHeadingOf f.key f.heading → AreSectionsOf f.key 0 f.sections
      → Each (λ i. IsHeadOf f.key i ⊎ IsSectionFrom f.key 0 i) (shown_file_picture f s (pos a.left) y).boxes
  unfolding shown_file_picture followed_by
  parts-ids f s w a y fits o e es =
      each-append (λ i. IsHeadOf f.key i ⊎ IsSectionFrom f.key 0 i) (row_picture (HeaderRow f.key f.heading) s (pos a.left) y).boxes (sections_picture f.sections s (pos (a.left + 2)) (y +ℤ pos 1)).boxes
      (each_more (IsHeadOf f.key) _ _ (λ i p. inl p) (header-owns f.key f.heading s w a y fits o e).ids)
      (each_more (IsSectionFrom f.key 0) _ _ (λ i p. inr p) (sections-own same law f.key 0 f.sections s w a (y +ℤ pos 1) fits o es).ids)

  -- a file and its parts
  whole_file-owns : (commit n : ℕ) (f : ShownFile) (b : Bool) (rep : ComponentId → Bool) (s : Sight) (w : ℕ) (a : Area) (y z : ℤ) (x : ℕ) → 10 ≤ a.width → IsSeen s w a → IsFileOf commit n f
      → ((i : ComponentId) → IsHeadOf f.key i → rep i ≡ b) → ((i : ComponentId) → IsSectionFrom f.key 0 i → rep i ≡ false) → rep (file_id f.key) ≡ false → x < w
      → hit same is_clickable rep (part (file_id f.key) (shown_file_picture f s (pos a.left) y)).boxes z (pos x) ≡ (line clear (area_file a b f) y z).owner x
  unfolding part holds area_file owner_in
  whole_file-owns commit n f b rep s w a y z x fits o e heads live itself within =
      let m = shown_file_picture f s (pos a.left) y in
      let ss = head_strip a b f ∷ area_sections a f.sections in
      let p = file_part a.width f in
      let lies = file-lies f s w a y fits o (sections-inner f.key 0 f.sections e.sections) e.rows in
      let box = has-part (box_rect m) a y (length (file_rows f)) w 0 (farthest a.width (file_rows f)) p (from-zero a.width (file_rows f) fits) refl lies in
      hit_box same is_clickable rep (file_id f.key, box_rect m) m.boxes z (pos x) refl itself (none_of same is_clickable _ (file_id f.key) m.boxes (not-file same law f.key) (parts-ids f s w a y fits o e.heading e.sections))
      ∙ rw (parts-own f b rep s w a y z x fits o e.heading e.sections heads live within, box.top, box.rows ∙ length-rows, box.columns x within) (line-owned (file_id f.key) (in_part a p) ss y z x)
    where
      length-rows : length (file_rows f) ≡ suc (length (area_sections a f.sections))
      length-rows = sym (length-file a b f) ∙ ap suc (length-map (area_sections a f.sections) (owned_in a (file_part a.width f)))

-- ---- a file and its pinned header

module _ (same : ComponentId → ComponentId → Bool) (law : IsLawful same) where
  -- the pinned header, if there is one, owns its strip
  pub pinned-owns : (f : ShownFile) (b : Bool) (s : Sight) (w : ℕ) (a : Area) (m : ℕ) → 10 ≤ a.width → IsSeen s w a → IsHeadingOf f.key f.heading
      → Owns same w (IsHeadOf f.key) (if b then pinned_header f s (pos a.left) (pos m) else nothing) (pos m) (cond b (area_header a f ∷ []) [])
  pinned-owns f true s w a m fits o e = header-owns same law f.key f.heading (under (pinned_mask s (pos a.left) (pos m)) s) w a (pos m) fits (under-seen s w a (pos m) (Some 1) o) e
  pinned-owns f false s w a m fits o e = draws_nothing same is_clickable (no_rows w) (IsHeadOf f.key) (pos m)

  -- the ids of a header are those of any header of the file
  has-head : (k : FileKey) (h : Heading) (s : Sight) (c : ℕ) (y : ℤ) (i : ComponentId) → IsHeadingOf k h → IsHeadOf k i → has_id same i (row_picture (HeaderRow k h) s (pos c) y).boxes ≡ true
  unfolding row_picture part has_id followed_by box_picture span_picture
  has-head k h s c y i e p = rw (heading-boxes h s c y) (go p)
    where
      go : IsHeadOf k i → (same i (ids.FileViewHeader k) || (same i h.fold.id || (same i h.toggle.id || false))) ≡ true
      go (inl q) = let t : same i (ids.FileViewHeader k) ≡ true = rw q (law.self (ids.FileViewHeader k)) in rw t refl
      go (inr (inl q)) = let t : same i h.toggle.id ≡ true = rw (q, e.toggle) (law.self (ids.ToggleBox (selection.File k))) in rw t (or_right (same i (ids.FileViewHeader k)) (same i h.fold.id || (true || false)) (or_right (same i h.fold.id) (true || false) refl))
      go (inr (inr q)) = let t : same i h.fold.id ≡ true = rw (q, e.fold) (law.self (ids.ExpandBox (selection.File k))) in rw t (or_right (same i (ids.FileViewHeader k)) (true || (same i h.toggle.id || false)) refl)

  -- the pinned header draws these ids again, and no others
  redrawn : (f : ShownFile) (b : Bool) (s : Sight) (c m : ℕ) (i : ComponentId) → IsHeadingOf f.key f.heading → IsHeadOf f.key i
      → has_id same i (if b then pinned_header f s (pos c) (pos m) else nothing).boxes ≡ b
  unfolding nothing has_id
  redrawn f true s c m i e p = has-head f.key f.heading (under (pinned_mask s (pos c) (pos m)) s) c (pos m) i e p
  redrawn f false s c m i e p = refl

  or-known : (a b c : Bool) → a ≡ false → b ≡ c → (a || b) ≡ c
  or-known a b c p q = rw (p, q) refl

  section-head : (k : FileKey) (i j : ComponentId) → IsSectionFrom k 0 i → IsHeadOf k j → same i j ≡ false
  section-head k i j p q = differ same law i j (λ e. let none = head-section k j q in let some = p.section in cc (none, some, ap section_of e))

  one_file-owns : (commit n : ℕ) (f : ShownFile) (s : Sight) (w : ℕ) (a : Area) (m top : ℕ) (z : ℤ) (x : ℕ) (rep : ComponentId → Bool) → 10 ≤ a.width → IsSeen s w a → mask_row s ≡ pos m → IsFileOf commit n f
      → ((i : ComponentId) → IsOfFile f.key i → rep i ≡ false) → x < w
      → hit same is_clickable rep (one_file_picture f s (pos a.left) (pos top)).boxes z (pos x)
      ≡ first_of_two (owner_at (cond (is_over m top f) (area_header a f ∷ []) []) (pos m) z x) (owner_at (area_file a (is_over m top f) f) (pos top) z x)
  unfolding one_file_picture pinned_picture followed_by
  one_file-owns commit n f s w a m top z x rep fits o row e live within =
      let l = pos a.left in
      let b = is_over m top f in
      let t = under (file_mask s l (pos top)) s in
      let pinned = if b then pinned_header f s l (pos m) else nothing in
      let again = pinned-owns f b s w a m fits o e.heading in
      let after : ComponentId → Bool = λ i. rep i || has_id same i pinned.boxes in
      rw row
      (hit-append same is_clickable rep (part (file_id f.key) (shown_file_picture f t l (pos top))).boxes pinned.boxes z (pos x)
      ∙ ap₂ first_of_two (again.owns rep (λ i p. live i (head-file f.key i p)) z x within)
      (whole_file-owns same law commit n f b after t w a (pos top) z x fits (under-seen s w a (pos top) None o) e
      (λ i p. or-known (rep i) (has_id same i pinned.boxes) b (live i (head-file f.key i p)) (redrawn f b s a.left m i e.heading p))
      (λ i p. or-known (rep i) (has_id same i pinned.boxes) false (live i (section-file i p.key p.section ∙ ap Some p.file)) (none_of same is_clickable (IsHeadOf f.key) i pinned.boxes (λ j q. section-head f.key i j p q) again.ids))
      (or-known (rep (file_id f.key)) (has_id same (file_id f.key) pinned.boxes) false (live (file_id f.key) refl) (none_of same is_clickable (IsHeadOf f.key) (file_id f.key) pinned.boxes (λ j q. not-file same law f.key j (inl q)) again.ids))
      within))

  file-or-part : (k : FileKey) (i : ComponentId) → IsHeadOf k i ⊎ IsSectionFrom k 0 i → IsOfFile k i
  file-or-part k i (inl p) = head-file k i p
  file-or-part k i (inr p) = section-file i p.key p.section ∙ ap Some p.file

  pub one_file-ids : (commit n : ℕ) (f : ShownFile) (s : Sight) (w : ℕ) (a : Area) (m top : ℕ) → 10 ≤ a.width → IsSeen s w a → mask_row s ≡ pos m → IsFileOf commit n f → Each (IsOfFile f.key) (one_file_picture f s (pos a.left) (pos top)).boxes
  unfolding one_file_picture pinned_picture followed_by part
  one_file-ids commit n f s w a m top fits o row e =
      let l = pos a.left in
      let b = is_over m top f in
      let t = under (file_mask s l (pos top)) s in
      rw row (
        refl,
        each-append (IsOfFile f.key) (shown_file_picture f t l (pos top)).boxes (if b then pinned_header f s l (pos m) else nothing).boxes
            (each_more _ (IsOfFile f.key) _ (λ i p. file-or-part f.key i p) (parts-ids same law f t w a (pos top) fits (under-seen s w a (pos top) None o) e.heading e.sections))
            (each_more (IsHeadOf f.key) (IsOfFile f.key) _ (λ i p. head-file f.key i p) (pinned-owns f b s w a m fits o e.heading).ids),
      )

-- ---- files one below another

-- one strip on row m, and strips below that row
owners-apart : (p : Strip ComponentId) (rest own : List (Strip ComponentId)) (m y k z : ℤ) (x : ℕ) → m <ℤ k → y +ℤ pos (length own) ≡ k
    → first_of_two (owner_at rest k z x) (first_of_two (owner_at (p ∷ []) m z x) (owner_at own y z x)) ≡ first_of_two (owner_at (p ∷ []) m z x) (owner_at (own ++ rest) y z x)
unfolding line
owners-apart p rest own m y k z x h e = go (int_eq z m) refl
  where
    go : (b : Bool) → int_eq z m ≡ b → first_of_two (owner_at rest k z x) (first_of_two ((cond b p clear).owner x) (owner_at own y z x)) ≡ first_of_two ((cond b p clear).owner x) (owner_at (own ++ rest) y z x)
    go true q =
        let here : z ≡ m = (Decides-int_eq z m).0 q in
        let above : z <ℤ k = omega (arith, ints, here, h) in
        let none : owner_at rest k z x ≡ None = ap (λ (t : Strip ComponentId). t.owner x) (line-below clear rest k z above) in
        let joined = both-owners own rest y k z x e in
        ap (λ o. first_of_two o (first_of_two (p.owner x) (owner_at own y z x))) none
        ∙ ap (first_of_two (p.owner x)) (sym (ap (λ o. first_of_two o (owner_at own y z x)) none) ∙ joined)
    go false q = both-owners own rest y k z x e

-- a file's strips, its pinned header's and those of the files below, as their boxes are drawn, and as layers
owners-in_layers : (b : Bool) (hs own rest : List (Strip ComponentId)) (p : Strip ComponentId) (m y k z : ℤ) (x : ℕ) → (b ≡ true → hs ≡ []) → (b ≡ true → m <ℤ k) → y +ℤ pos (length own) ≡ k
    → first_of_two (first_of_two (owner_at hs m z x) (owner_at rest k z x)) (first_of_two (owner_at (cond b (p ∷ []) []) m z x) (owner_at own y z x))
    ≡ first_of_two (owner_at (cond b (p ∷ []) hs) m z x) (owner_at (own ++ rest) y z x)
owners-in_layers true hs own rest p m y k z x none below e = rw (none refl, none-owner m z x) (owners-apart p rest own m y k z x (below refl) e)
owners-in_layers false hs own rest p m y k z x none below e =
    rw (none-owner m z x) (two_assoc (owner_at hs m z x) (owner_at rest k z x) (owner_at own y z x) ∙ ap (first_of_two (owner_at hs m z x)) (both-owners own rest y k z x e))

-- no header of a file from row m on is pinned on row m
none-pinned : (a : Area) (m top : ℕ) (fs : List ShownFile) → m ≤ top → area_pinned a m top fs ≡ []
unfolding area_pinned
none-pinned a m top [] h = refl
none-pinned a m top (f ∷ fs) h =
    let no : nat_lt top m ≡ false = grind (arith, h) in
    rw no (none-pinned a m (top + length (file_rows f)) fs (omega (arith, h)))

module _ (same : ComponentId → ComponentId → Bool) (law : IsLawful same) where
  pub files-ids : (commit n : ℕ) (fs : List ShownFile) (s : Sight) (w : ℕ) (a : Area) (m top : ℕ) → 10 ≤ a.width → IsSeen s w a → mask_row s ≡ pos m → AreFilesOf commit n fs → Each (IsFileFrom commit n) (files_picture fs s (pos a.left) (pos top)).boxes
  unfolding files_picture followed_by nothing
  files-ids commit n [] s w a m top fits o row e = tt
  files-ids commit n (f ∷ fs) s w a m top fits o row e =
      each-append (IsFileFrom commit n) (one_file_picture f s (pos a.left) (pos top)).boxes (files_picture fs s (pos a.left) (pos top +ℤ pos (length (file_rows f)))).boxes
      (each_more (IsOfFile f.key) (IsFileFrom commit n) _ (λ i p. record { key = f.key; file = p; commit_is = e.0.commit_is; index = e.0.index }) (one_file-ids same law commit n f s w a m top fits o row e.0))
      (each_more (IsFileFrom commit (suc f.key.file_idx)) (IsFileFrom commit n) _ (λ i p. record { key = p.key; file = p.file; commit_is = p.commit_is; index = let j = p.index in let k = e.0.index in omega (arith, j, k) })
      (files-ids commit (suc f.key.file_idx) fs s w a m (top + length (file_rows f)) fits o row e.1))

  -- the boxes of files own what their strips say, and over them the pinned header's
  pub files-own : (commit n : ℕ) (fs : List ShownFile) (s : Sight) (w : ℕ) (a : Area) (m top : ℕ) (z : ℤ) (x : ℕ) (rep : ComponentId → Bool) → 10 ≤ a.width → IsSeen s w a → mask_row s ≡ pos m → AreFilesOf commit n fs
      → ((i : ComponentId) → IsFileFrom commit n i → rep i ≡ false) → x < w
      → hit same is_clickable rep (files_picture fs s (pos a.left) (pos top)).boxes z (pos x)
      ≡ first_of_two (owner_at (area_pinned a m top fs) (pos m) z x) (owner_at (area_files a m top fs) (pos top) z x)
  unfolding files_picture area_files area_pinned followed_by nothing hit line
  files-own commit n [] s w a m top z x rep fits o row e live within = refl
  files-own commit n (f ∷ fs) s w a m top z x rep fits o row e live within =
      let l = pos a.left in
      let k = length (file_rows f) in
      let b = is_over m top f in
      let below = top + k in
      hit_apart same is_clickable rep (one_file_picture f s l (pos top)).boxes (files_picture fs s l (pos top +ℤ pos k)).boxes z (pos x)
      (apart same is_clickable (IsOfFile f.key) (IsFileFrom commit (suc f.key.file_idx)) _ _ (one-or-later same law commit n f.key e.0.commit_is) (one_file-ids same law commit n f s w a m top fits o row e.0) (files-ids commit (suc f.key.file_idx) fs s w a m below fits o row e.1))
      ∙ ap₂ first_of_two
      (files-own commit (suc f.key.file_idx) fs s w a m below z x rep fits o row e.1 (λ i p. live i (record { key = p.key; file = p.file; commit_is = p.commit_is; index = let j = p.index in let c = e.0.index in omega (arith, j, c) })) within)
      (one_file-owns same law commit n f s w a m top z x rep fits o row e.0 (λ i p. live i (record { key = f.key; file = p; commit_is = e.0.commit_is; index = e.0.index })) within)
      ∙ owners-in_layers b (area_pinned a m below fs) (area_file a b f) (area_files a m below fs) (area_header a f) (pos m) (pos top) (pos below) z x
      (λ q. none-pinned a m below fs (let past = over-below m top f q in omega (arith, past))) (λ q. let past = over-below m top f q in omega (arith, ints, past))
      (ap (λ n. pos top +ℤ pos n) (length-file a b f))
