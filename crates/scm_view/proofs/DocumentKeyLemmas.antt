-- The boxes of the keys of a document are on the rows of their places.
use Rattle.std.proofs.Common.{◌≡◌, ℕ, suc, ◌+◌, ◌<◌, ◌≤◌, ◌==◌, Bool, true, false, List, [], ◌∷◌, length, refl, sym, ap, arith, inl, inr}
use Rattle.std.specs.Prelude.{ℤ, pos, ◌+ℤ◌, Some, None, option_map, if◌then◌else◌}
use Rattle.std.proofs.lemmas.Int.{ints}
use Rattle.scm_render.specs.Picture.{nothing, part}
use Rattle.scm_render.specs.Canvas.{Sight, under}
use Rattle.scm_render.specs.Drawing.{span_picture}
use Rattle.scm_render.specs.Hits.{IsLawful, has_id, box_of}
use Rattle.scm_render.proofs.HitLemmas.{Each, each_more, not_true}
use Rattle.scm_types.specs.declared.keys.FileKey.{FileKey}
use Rattle.scm_types.specs.declared.keys.SectionKey.{SectionKey}
use Rattle.scm_types.specs.declared.keys.SelectionKey.{SelectionKey}
use Rattle.scm_types.specs.declared.keys.SelectionKey.TheVariants as selection
use Rattle.scm_widgets.specs.declared.ids.ComponentId.{ComponentId}
use Rattle.scm_widgets.specs.declared.ids.ComponentId.TheVariants as ids
use Rattle.scm_widgets.specs.Clicks.{is_clickable}
use Rattle.scm_document.specs.OpenSights.{IsOpen}
use Rattle.scm_document.specs.Owners.{IsRowOf, after_row, AreRowsOf, AreSectionsOf}
use Rattle.scm_document.proofs.FilesOf.{HaveRows, IsFileOf, AreFilesOf, HasItsIds}
use Rattle.scm_widgets.specs.Boxes.{IdBox}
use Rattle.scm_rows.specs.Heights.{message_height}
use Rattle.scm_document.specs.Rows.{file_id, section_id, line_id, DocRow, HeaderRow, SectionRow, LineRow, MarkRow, ContextRow, DotsRow, BlankRow, ShownSection, ShownFile, Document, file_rows}
use Rattle.scm_widgets.specs.Pictures.{IdPicture, box_picture, box_part}
use Rattle.scm_document.specs.Pictures.{changed_picture, context_picture, row_picture, rows_picture, sections_picture, shown_file_picture, file_mask, mask_row, pinned_header, pinned_picture, one_file_picture, files_picture, message_picture, no_files_picture, body_picture, document_picture}
use Rattle.scm_document.specs.Strips.{is_over}
use Rattle.scm_document.specs.Places.{line_places, rows_places, sections_places, files_places, places}
use Rattle.scm_view.specs.Window.{rows_of_box}
use Rattle.scm_document.specs.DocumentRows.{rows_of_key}
use Rattle.scm_widgets.proofs.DrawsStrips.{none_of, box-part}
use Rattle.scm_overlay.proofs.MenuLemmas.{differ}
use Rattle.scm_document.proofs.StripLemmas.{under-open}
use Rattle.scm_view.proofs.OwnerLemmas.{is_item, rank_of, IsAmong, IsFrom, IsOf, IsSectionFrom, line_parts, context_parts, line_row, context_row, line_box, context_box, row_owns, rows_own, section_owns, sections_own, index-of}
use Rattle.scm_document.proofs.OwnerLemmas.{rows-inner}
use Rattle.scm_document.proofs.FileBoxLemmas.{section-span, file-span}
use Rattle.scm_view.proofs.FileOwnerLemmas.{file_of, IsHeadOf, IsOfFile, header-owns, not-file, parts-ids, pinned-owns, one_file-ids, IsFileFrom, files-ids}
use Rattle.scm_view.proofs.DocumentOwnerLemmas.{IsOfMessage, message-owns, no_files-none}
use Rattle.scm_document.proofs.DocumentOwnerLemmas.{document_part}
use Rattle.scm_document.proofs.WindowLemmas.{body_sight, open-below, row-below}
use Rattle.scm_view.proofs.PlaceLemmas.{Places, IsKeyless, places_keyless, places_beside, places_after, places_as, places_below, places_part, places_still, keyless_of}

-- ---- ids that are of no key

-- a part of a section that is of the first rank
among-first : (k : SectionKey) (n : ℕ) (i : ComponentId) → IsAmong k n 1 i → is_item i ≡ false
among-first k n i p = not_true (is_item i) (λ e. let high = p.high in let low = p.inner e in absurd (omega (arith, high, low)))

among-none : (k : SectionKey) (n : ℕ) (i : ComponentId) → IsAmong k n n i → is_item i ≡ false
among-none k n i p = let high = p.high in let low = p.low in absurd (omega (arith, high, low))

head-item : (k : FileKey) (i : ComponentId) → IsHeadOf k i → is_item i ≡ false
head-item k i (inl e) = ap is_item e
head-item k i (inr (inl e)) = ap is_item e
head-item k i (inr (inr e)) = ap is_item e

message-item : (commit : ℕ) (i : ComponentId) → IsOfMessage commit i → is_item i ≡ false
message-item commit i (inl e) = ap is_item e
message-item commit i (inr e) = ap is_item e

next-row : (top : ℕ) → pos top +ℤ pos 1 ≡ pos (suc top)
next-row top = omega (arith, ints)

same-file : (i : ComponentId) (k m : FileKey) → file_of i ≡ Some k → file_of i ≡ Some m → k.file_idx ≡ m.file_idx
same-file i k m p q = let e : k ≡ m = cc (p, q) in ap (λ (t : FileKey). t.file_idx) e

box-ids : (b : IdBox) (s : Sight) (x y : ℤ) → is_item b.id ≡ false → Each (λ i. is_item i ≡ false) (box_part b s x y).boxes
unfolding part box_picture span_picture
box-ids b s x y e = (e, tt)

-- ---- rows

module _ (same : ComponentId → ComponentId → Bool) (law : IsLawful same) where
  -- boxes whose ids are all of a kind that has no key
  no_keys : (P : ComponentId → Type 0) (m : IdPicture) → ((i : ComponentId) → P i → is_item i ≡ false) → Each P m.boxes → IsKeyless same m
  no_keys P m none h = keyless_of same law m (each_more P (λ i. is_item i ≡ false) m.boxes none h)

  row-places : (k : SectionKey) (n : ℕ) (d : DocRow) (s : Sight) (w top : ℕ) → 10 ≤ w → IsOpen s w → IsRowOf k n d → Places same (row_picture d s (pos 2) (pos top)) (line_places top d)
  row-places k n (HeaderRow key h) s w top fits o e = absurd e
  row-places k n (SectionRow selected h) s w top fits o e =
      places_keyless same (row_picture (SectionRow selected h) s (pos 2) (pos top))
      (no_keys (IsAmong k n 1) (row_picture (SectionRow selected h) s (pos 2) (pos top)) (among-first k n) (row_owns same law k n (SectionRow selected h) s w (pos top) fits o e).ids)
  row-places k n (LineRow key b ts) s w top fits o e =
      let m = changed_picture b ts s (pos 4) (pos top) in
      let none : IsKeyless same m = keyless_of same law m (rw (line_row same law b ts s (pos top)) at (box-ids b s (pos 4) (pos top) (ap is_item e.2))) in
      let box = line_box same law key b ts s w (pos top) fits o in
      places_as same (part (line_id key) m) (row_picture (LineRow key b ts) s (pos 2) (pos top)) _ (line_parts key b ts s (pos top))
      (places_part same law m (selection.Line key) top 1 [] (places_keyless same m none) (none (selection.Line key)) box.top box.rows (omega arith))
  row-places k n (MarkRow selected b t) s w top fits o e =
      places_keyless same (row_picture (MarkRow selected b t) s (pos 2) (pos top))
      (no_keys (IsAmong k n 1) (row_picture (MarkRow selected b t) s (pos 2) (pos top)) (among-first k n) (row_owns same law k n (MarkRow selected b t) s w (pos top) fits o e).ids)
  row-places k n (ContextRow key ts) s w top fits o e =
      let m = context_picture ts s (pos 4) (pos top) in
      let none : IsKeyless same m = keyless_of same law m (rw (context_row same law ts s (pos top)) tt) in
      let box = context_box same law key ts s w (pos top) fits o in
      places_as same (part (line_id key) m) (row_picture (ContextRow key ts) s (pos 2) (pos top)) _ (context_parts key ts s (pos top))
      (places_part same law m (selection.Line key) top 1 [] (places_keyless same m none) (none (selection.Line key)) box.top box.rows (omega arith))
  row-places k n (DotsRow t) s w top fits o e =
      places_keyless same (row_picture (DotsRow t) s (pos 2) (pos top))
      (no_keys (IsAmong k n n) (row_picture (DotsRow t) s (pos 2) (pos top)) (among-none k n) (row_owns same law k n (DotsRow t) s w (pos top) fits o e).ids)
  row-places k n BlankRow s w top fits o e =
      places_keyless same (row_picture BlankRow s (pos 2) (pos top))
      (no_keys (IsAmong k n n) (row_picture BlankRow s (pos 2) (pos top)) (among-none k n) (row_owns same law k n BlankRow s w (pos top) fits o e).ids)

  nothing-keyless : IsKeyless same nothing
  unfolding nothing has_id
  nothing-keyless k = refl

  rows-placed : (k : SectionKey) (n : ℕ) (ds : List DocRow) (s : Sight) (w top : ℕ) → 10 ≤ w → IsOpen s w → AreRowsOf k n ds → Places same (rows_picture ds s (pos 2) (pos top)) (rows_places top ds)
  unfolding rows_picture rows_places
  rows-placed k n [] s w top fits o e = places_keyless same nothing nothing-keyless
  rows-placed k n (d ∷ ds) s w top fits o e =
      let m = after_row n d in
      rw (next-row top)
      (places_below same law (IsAmong k n m) (IsFrom k m) (row_picture d s (pos 2) (pos top)) (rows_picture ds s (pos 2) (pos (suc top))) (line_places top d) (rows_places (suc top) ds)
      (row_owns same law k n d s w (pos top) fits o e.0).ids (rows_own same law k m ds s w (pos (suc top)) fits o e.1).ids
      (λ i p q. let high = p.high in let low = q.low in omega (arith, high, low))
      (row-places k n d s w top fits o e.0) (rows-placed k m ds s w (suc top) fits o e.1))

  -- ---- sections

  section-apart : (k : SectionKey) (i : ComponentId) → IsFrom k 0 i → same (section_id k) i ≡ false
  section-apart k i p = differ same law (section_id k) i (λ e. let t : is_item i ≡ true = ap is_item (sym e) in let r : rank_of i ≡ 1 = ap rank_of (sym e) in let m = p.inner t in absurd (omega (arith, r, m)))

  section-placed : (p : ShownSection) (s : Sight) (w top : ℕ) → 10 ≤ w → IsOpen s w → AreRowsOf p.key 0 p.rows → 0 < length p.rows
      → Places same (part (section_id p.key) (rows_picture p.rows s (pos 2) (pos top))) (record { key = selection.Section p.key; top = top; rows = length p.rows } ∷ rows_places top p.rows)
  section-placed p s w top fits o e some =
      let m = rows_picture p.rows s (pos 2) (pos top) in
      let span = rw (box-part (section_id p.key) m) at (section-span (section_id p.key) p.rows s w (pos top) fits o some (rows-inner p.key 0 p.rows e)) in
      places_part same law m (selection.Section p.key) top (length p.rows) (rows_places top p.rows) (rows-placed p.key 0 p.rows s w top fits o e)
      (none_of same is_clickable (IsFrom p.key 0) (section_id p.key) m.boxes (section-apart p.key) (rows_own same law p.key 0 p.rows s w (pos top) fits o e).ids) span.top span.rows some

  sections-placed : (f : FileKey) (n : ℕ) (ps : List ShownSection) (s : Sight) (w top : ℕ) → 10 ≤ w → IsOpen s w → AreSectionsOf f n ps → HaveRows ps
      → Places same (sections_picture ps s (pos 2) (pos top)) (sections_places top ps)
  unfolding sections_picture sections_places
  sections-placed f n [] s w top fits o e some = places_keyless same nothing nothing-keyless
  sections-placed f n (p ∷ ps) s w top fits o e some =
      let m = suc p.key.section_idx in
      let below = top + length p.rows in
      places_below same law (IsOf p.key) (IsSectionFrom f m) (part (section_id p.key) (rows_picture p.rows s (pos 2) (pos top))) (sections_picture ps s (pos 2) (pos below))
      (record { key = selection.Section p.key; top = top; rows = length p.rows } ∷ rows_places top p.rows) (sections_places below ps)
      (section_owns same law p.key p.rows s w (pos top) fits o e.2).ids (sections_own same law f m ps s w (pos below) fits o e.3).ids
      (λ i a b. let t = index-of i p.key b.key a b.section in let low = b.low in omega (arith, t, low))
      (section-placed p s w top fits o e.2 some.0) (sections-placed f m ps s w below fits o e.3 some.1)

  -- ---- files

  header-keyless : (f : ShownFile) (s : Sight) (w : ℕ) (y : ℤ) (commit n : ℕ) → 10 ≤ w → IsOpen s w → IsFileOf commit n f → IsKeyless same (row_picture (HeaderRow f.key f.heading) s (pos 0) y)
  header-keyless f s w y commit n fits o e = no_keys (IsHeadOf f.key) (row_picture (HeaderRow f.key f.heading) s (pos 0) y) (head-item f.key) (header-owns same law f.key f.heading s w y fits o e.heading).ids

  parts-placed : (commit n : ℕ) (f : ShownFile) (s : Sight) (w top : ℕ) → 10 ≤ w → IsOpen s w → IsFileOf commit n f → Places same (shown_file_picture f s (pos 0) (pos top)) (sections_places (suc top) f.sections)
  unfolding shown_file_picture
  parts-placed commit n f s w top fits o e =
      rw (next-row top)
      (places_after same (row_picture (HeaderRow f.key f.heading) s (pos 0) (pos top)) (sections_picture f.sections s (pos 2) (pos (suc top))) (sections_places (suc top) f.sections)
      (header-keyless f s w (pos top) commit n fits o e) (sections-placed f.key 0 f.sections s w (suc top) fits o e.sections e.rows))

  one_file-placed : (commit n : ℕ) (f : ShownFile) (s : Sight) (w m top : ℕ) → 10 ≤ w → IsOpen s w → mask_row s ≡ pos m → IsFileOf commit n f
      → Places same (one_file_picture f s (pos 0) (pos top)) (record { key = selection.File f.key; top = top; rows = length (file_rows f) } ∷ sections_places (suc top) f.sections)
  unfolding one_file_picture pinned_picture file_rows
  one_file-placed commit n f s w m top fits o row e =
      let t = under (file_mask s (pos 0) (pos top)) s in
      let inner = shown_file_picture f t (pos 0) (pos top) in
      let opened = under-open s w (pos top) None o in
      let span = file-span commit n f t w (pos top) fits opened e in
      let b = is_over m top f in
      let again = pinned-owns same law f b s w m fits o e.heading in
      rw row
      (places_beside same (part (file_id f.key) inner) (if b then pinned_header f s (pos 0) (pos m) else nothing) _
      (places_part same law inner (selection.File f.key) top (length (file_rows f)) (sections_places (suc top) f.sections) (parts-placed commit n f t w top fits opened e)
      (none_of same is_clickable _ (file_id f.key) inner.boxes (not-file same law f.key) (parts-ids same law f t w (pos top) fits opened e.heading e.sections)) span.top span.rows (omega arith))
      (no_keys (IsHeadOf f.key) (if b then pinned_header f s (pos 0) (pos m) else nothing) (head-item f.key) again.ids))

  files-placed : (commit n : ℕ) (fs : List ShownFile) (s : Sight) (w m top : ℕ) → 10 ≤ w → IsOpen s w → mask_row s ≡ pos m → AreFilesOf commit n fs → Places same (files_picture fs s (pos 0) (pos top)) (files_places top fs)
  unfolding files_picture files_places
  files-placed commit n [] s w m top fits o row e = places_keyless same nothing nothing-keyless
  files-placed commit n (f ∷ fs) s w m top fits o row e =
      let below = top + length (file_rows f) in
      places_below same law (IsOfFile f.key) (IsFileFrom commit (suc f.key.file_idx)) (one_file_picture f s (pos 0) (pos top)) (files_picture fs s (pos 0) (pos below))
      (record { key = selection.File f.key; top = top; rows = length (file_rows f) } ∷ sections_places (suc top) f.sections) (files_places below fs)
      (one_file-ids same law commit n f s w m top fits o row e.0) (files-ids same law commit (suc f.key.file_idx) fs s w m below fits o row e.1)
      (λ i a b. let t = same-file i f.key b.key a b.file in let low = b.index in omega (arith, t, low))
      (one_file-placed commit n f s w m top fits o row e.0) (files-placed commit (suc f.key.file_idx) fs s w m below fits o row e.1)

  -- ---- documents

  below-placed : (commit : ℕ) (fs : List ShownFile) (s : Sight) (w m top k : ℕ) → 10 ≤ w → IsOpen s w → mask_row s ≡ pos m → AreFilesOf commit 0 fs → Places same (body_picture fs s (pos 0) (pos top) (pos k)) (files_places k fs)
  unfolding files_places
  below-placed commit [] s w m top k fits o row e = places_keyless same (no_files_picture s (pos 0) (pos top)) (keyless_of same law (no_files_picture s (pos 0) (pos top)) (rw (no_files-none s (pos 0) (pos top)) tt))
  below-placed commit (f ∷ fs) s w m top k fits o row e =
      let some : (length (f ∷ fs) == 0) ≡ false = grind arith in
      rw some (files-placed commit 0 (f ∷ fs) s w m k fits o row e)

  pub document-placed : (d : Document) (s : Sight) (w m top : ℕ) → 10 ≤ w → IsOpen s w → mask_row s ≡ pos m → HasItsIds d → Places same (document_picture d s (pos 0) (pos top)) (places top d)
  unfolding document_picture
  document-placed d s w m top fits o row e =
      places_after same (part ids.CommitMessageView (message_picture d.commit d.message s (pos 0) (pos top))) (body_picture d.files s (pos 0) (pos top) (pos (top + message_height d.message))) _
      (no_keys (IsOfMessage d.commit) (part ids.CommitMessageView (message_picture d.commit d.message s (pos 0) (pos top))) (message-item d.commit) (message-owns same law d.commit d.message s w (pos top)).ids)
      (below-placed d.commit d.files s w m top (top + message_height d.message) fits o row e)

  -- each key's box is on the rows of its first place
  pub body-keys : (d : Document) (w h s : ℕ) → 10 ≤ w → HasItsIds d → (k : SelectionKey)
      → option_map rows_of_box (box_of same (ids.SelectableItem k) (document_part d w h s).boxes) ≡ rows_of_key k (places 1 d)
  body-keys d w h s fits e k =
      (places_still same law (document_picture d (body_sight w h s) (pos 0) (pos 1)) ids.AppFiles (places 1 d) refl (document-placed d (body_sight w h s) w (s + 1) 1 fits (open-below w h s) (row-below w h s) e)).at k
