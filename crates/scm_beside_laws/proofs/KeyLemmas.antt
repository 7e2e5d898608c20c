-- The boxes of the keys of a document that is drawn in an area are on the rows of their places.
use Rattle.std.proofs.Common.{◌≡◌, ℕ, suc, ◌+◌, ◌<◌, ◌≤◌, ◌==◌, Bool, true, false, List, [], ◌∷◌, length, refl, sym, ap, arith, inl, inr}
use Rattle.std.specs.Prelude.{ℤ, pos, ◌+ℤ◌, Some, None, if◌then◌else◌}
use Rattle.std.proofs.lemmas.Int.{ints}
use Rattle.scm_render.specs.Canvas.{Sight, under}
use Rattle.scm_render.specs.Drawing.{span_picture}
use Rattle.scm_render.specs.Hits.{IsLawful, has_id}
use Rattle.scm_render.specs.Picture.{covering, followed_by, nothing, part}
use Rattle.scm_render.proofs.HitLemmas.{Each, each_more, not_true}
use Rattle.scm_rows.specs.Heights.{message_height}
use Rattle.scm_types.specs.declared.keys.FileKey.{FileKey}
use Rattle.scm_types.specs.declared.keys.LineKey.{LineKey}
use Rattle.scm_types.specs.declared.keys.SectionKey.{SectionKey}
use Rattle.scm_types.specs.declared.keys.SelectionKey.TheVariants as selection
use Rattle.scm_widgets.specs.declared.ids.ComponentId.{ComponentId}
use Rattle.scm_widgets.specs.declared.ids.ComponentId.TheVariants as ids
use Rattle.scm_widgets.specs.Boxes.{IdBox}
use Rattle.scm_widgets.specs.Clicks.{is_clickable}
use Rattle.scm_widgets.specs.Pictures.{IdPicture, box_part, box_picture}
use Rattle.scm_widgets.proofs.DrawsStrips.{box-part, none_of}
use Rattle.scm_document.specs.Owners.{IsRowOf, after_row, AreRowsOf, AreSectionsOf}
use Rattle.scm_document.specs.Pictures.{body_picture, changed_picture, context_picture, document_picture, file_mask, files_picture, mask_row, message_picture, no_files_picture, one_file_picture, pinned_header, pinned_picture, row_picture, rows_picture, sections_picture, shown_file_picture}
use Rattle.scm_document.specs.Places.{line_places, rows_places, sections_places, files_places, places}
use Rattle.scm_document.specs.Rows.{file_id, section_id, line_id, DocRow, HeaderRow, SectionRow, LineRow, MarkRow, ContextRow, DotsRow, BlankRow, ShownSection, ShownFile, Document, file_rows}
use Rattle.scm_document.specs.Strips.{is_over}
use Rattle.scm_document.proofs.FilesOf.{HaveRows, IsFileOf, AreFilesOf, HasItsIds}
use Rattle.scm_document.proofs.OwnerLemmas.{rows-inner}
use Rattle.scm_overlay.proofs.MenuLemmas.{differ}
use Rattle.scm_strips.specs.declared.area.Area.{Area}
use Rattle.scm_view.proofs.DocumentOwnerLemmas.{IsOfMessage, no_files-none}
use Rattle.scm_view.proofs.FileOwnerLemmas.{IsFileFrom, IsHeadOf, IsOfFile, file_of, not-file}
use Rattle.scm_view.proofs.OwnerLemmas.{IsAmong, IsFrom, IsOf, IsSectionFrom, index-of, is_item, rank_of}
use Rattle.scm_view.proofs.PlaceLemmas.{IsKeyless, Places, keyless_of, places_after, places_as, places_below, places_beside, places_keyless, places_part}
use Rattle.scm_beside_laws.proofs.AreaBoxLemmas.{changed-lies, context-lies, file-lies, section-lies}
use Rattle.scm_beside_laws.proofs.DocumentOwnerLemmas.{message-ids}
use Rattle.scm_beside_laws.proofs.DocumentPaintLemmas.{sections-inner}
use Rattle.scm_beside_laws.proofs.FileOwnerLemmas.{files-ids, header-owns, one_file-ids, parts-ids, pinned-owns}
use Rattle.scm_beside_laws.proofs.RowOwnerLemmas.{context_row, line_row, row-owns, rows-own, section-owns, sections-own}
use Rattle.scm_beside_laws.proofs.SeenLemmas.{IsSeen, under-seen}

-- ---- ids that are of no key

-- a part of a section that is of the first rank
among-first : (k : SectionKey) (n : ℕ) (i : ComponentId) → IsAmong k n 1 i → is_item i ≡ false
among-first k n i p = not_true (is_item i) (λ e. let high = p.high in let low = p.inner e in absurd (omega (arith, high, low)))

among-none : (k : SectionKey) (n : ℕ) (i : ComponentId) → IsAmong k n n i → is_item i ≡ false
among-none k n i p = let high = p.high in let low = p.low in absurd (omega (arith, high, low))

head-item : (k : FileKey) (i : ComponentId) → IsHeadOf k i → is_item i ≡ false
head-item k i (inl e) = ap is_item e
head-item k i (inr (inl e)) = ap is_item e
head-item k i (inr (inr e)) = ap is_item e

message-item : (commit : ℕ) (i : ComponentId) → IsOfMessage commit i → is_item i ≡ false
message-item commit i (inl e) = ap is_item e
message-item commit i (inr e) = ap is_item e

next-row : (top : ℕ) → pos top +ℤ pos 1 ≡ pos (suc top)
next-row top = omega (arith, ints)

same-file : (i : ComponentId) (k m : FileKey) → file_of i ≡ Some k → file_of i ≡ Some m → k.file_idx ≡ m.file_idx
same-file i k m p q = let e : k ≡ m = cc (p, q) in ap (λ (t : FileKey). t.file_idx) e

box-ids : (b : IdBox) (s : Sight) (x y : ℤ) → is_item b.id ≡ false → Each (λ i. is_item i ≡ false) (box_part b s x y).boxes
unfolding part box_picture span_picture
box-ids b s x y e = (e, tt)

-- ---- rows

line-boxes : (key : LineKey) (b : IdBox) (ts : List (List ℕ)) (s : Sight) (a : Area) (y : ℤ)
    → (part (line_id key) (changed_picture b ts s (pos (a.left + 2) +ℤ pos 2) y)).boxes ≡ (row_picture (LineRow key b ts) s (pos (a.left + 2)) y).boxes
unfolding row_picture followed_by covering
line-boxes key b ts s a y = refl

context-boxes : (key : LineKey) (ts : List (List ℕ)) (s : Sight) (a : Area) (y : ℤ)
    → (part (line_id key) (context_picture ts s (pos (a.left + 2) +ℤ pos 2) y)).boxes ≡ (row_picture (ContextRow key ts) s (pos (a.left + 2)) y).boxes
unfolding row_picture followed_by covering
context-boxes key ts s a y = refl

pub some-rows : (f : ShownFile) → 0 < length (file_rows f)
unfolding file_rows
some-rows f = omega arith

module _ (same : ComponentId → ComponentId → Bool) (law : IsLawful same) where
  -- boxes whose ids are all of a kind that has no key
  no_keys : (P : ComponentId → Type 0) (m : IdPicture) → ((i : ComponentId) → P i → is_item i ≡ false) → Each P m.boxes → IsKeyless same m
  no_keys P m none h = keyless_of same law m (each_more P (λ i. is_item i ≡ false) m.boxes none h)

  row-places : (k : SectionKey) (n : ℕ) (d : DocRow) (s : Sight) (w : ℕ) (a : Area) (top : ℕ) → 10 ≤ a.width → IsSeen s w a → IsRowOf k n d → Places same (row_picture d s (pos (a.left + 2)) (pos top)) (line_places top d)
  row-places k n (HeaderRow key h) s w a top fits o e = absurd e
  row-places k n (SectionRow selected h) s w a top fits o e =
      let m = row_picture (SectionRow selected h) s (pos (a.left + 2)) (pos top) in
      places_keyless same m (no_keys (IsAmong k n 1) m (among-first k n) (row-owns same law k n (SectionRow selected h) s w a (pos top) fits o e).ids)
  row-places k n (LineRow key b ts) s w a top fits o e =
      let x = pos (a.left + 2) +ℤ pos 2 in
      let m = changed_picture b ts s x (pos top) in
      let none : IsKeyless same m = keyless_of same law m (rw (line_row b ts s x (pos top)) at (box-ids b s x (pos top) (ap is_item e.2))) in
      let box = changed-lies b ts s w a x (pos top) (omega (arith, ints)) fits o in
      places_as same (part (line_id key) m) (row_picture (LineRow key b ts) s (pos (a.left + 2)) (pos top)) _ (line-boxes key b ts s a (pos top))
      (places_part same law m (selection.Line key) top 1 [] (places_keyless same m none) (none (selection.Line key)) box.top box.rows (omega arith))
  row-places k n (MarkRow selected b t) s w a top fits o e =
      let m = row_picture (MarkRow selected b t) s (pos (a.left + 2)) (pos top) in
      places_keyless same m (no_keys (IsAmong k n 1) m (among-first k n) (row-owns same law k n (MarkRow selected b t) s w a (pos top) fits o e).ids)
  row-places k n (ContextRow key ts) s w a top fits o e =
      let x = pos (a.left + 2) +ℤ pos 2 in
      let m = context_picture ts s x (pos top) in
      let none : IsKeyless same m = keyless_of same law m (rw (context_row ts s x (pos top)) tt) in
      let box = context-lies ts s w a x (pos top) (omega (arith, ints)) fits o in
      places_as same (part (line_id key) m) (row_picture (ContextRow key ts) s (pos (a.left + 2)) (pos top)) _ (context-boxes key ts s a (pos top))
      (places_part same law m (selection.Line key) top 1 [] (places_keyless same m none) (none (selection.Line key)) box.top box.rows (omega arith))
  row-places k n (DotsRow t) s w a top fits o e =
      let m = row_picture (DotsRow t) s (pos (a.left + 2)) (pos top) in
      places_keyless same m (no_keys (IsAmong k n n) m (among-none k n) (row-owns same law k n (DotsRow t) s w a (pos top) fits o e).ids)
  row-places k n BlankRow s w a top fits o e =
      let m = row_picture BlankRow s (pos (a.left + 2)) (pos top) in
      places_keyless same m (no_keys (IsAmong k n n) m (among-none k n) (row-owns same law k n BlankRow s w a (pos top) fits o e).ids)

  nothing-keyless : IsKeyless same nothing
  unfolding nothing has_id
  nothing-keyless k = refl

  rows-placed : (k : SectionKey) (n : ℕ) (ds : List DocRow) (s : Sight) (w : ℕ) (a : Area) (top : ℕ) → 10 ≤ a.width → IsSeen s w a → AreRowsOf k n ds → Places same (rows_picture ds s (pos (a.left + 2)) (pos top)) (rows_places top ds)
  unfolding rows_picture rows_places
  rows-placed k n [] s w a top fits o e = places_keyless same nothing nothing-keyless
  rows-placed k n (d ∷ ds) s w a top fits o e =
      let x = pos (a.left + 2) in
      let m = after_row n d in
      rw (next-row top)
      (places_below same law (IsAmong k n m) (IsFrom k m) (row_picture d s x (pos top)) (rows_picture ds s x (pos (suc top))) (line_places top d) (rows_places (suc top) ds)
      (row-owns same law k n d s w a (pos top) fits o e.0).ids (rows-own same law k m ds s w a (pos (suc top)) fits o e.1).ids
      (λ i p q. let high = p.high in let low = q.low in omega (arith, high, low))
      (row-places k n d s w a top fits o e.0) (rows-placed k m ds s w a (suc top) fits o e.1))

  -- ---- sections

  section-apart : (k : SectionKey) (i : ComponentId) → IsFrom k 0 i → same (section_id k) i ≡ false
  section-apart k i p = differ same law (section_id k) i (λ e. let t : is_item i ≡ true = ap is_item (sym e) in let r : rank_of i ≡ 1 = ap rank_of (sym e) in let m = p.inner t in absurd (omega (arith, r, m)))

  section-placed : (p : ShownSection) (s : Sight) (w : ℕ) (a : Area) (top : ℕ) → 10 ≤ a.width → IsSeen s w a → AreRowsOf p.key 0 p.rows → 0 < length p.rows
      → Places same (part (section_id p.key) (rows_picture p.rows s (pos (a.left + 2)) (pos top))) (record { key = selection.Section p.key; top = top; rows = length p.rows } ∷ rows_places top p.rows)
  section-placed p s w a top fits o e some =
      let m = rows_picture p.rows s (pos (a.left + 2)) (pos top) in
      let span = rw (box-part (section_id p.key) m) at (section-lies (section_id p.key) p.rows s w a (pos top) fits o some (rows-inner p.key 0 p.rows e)) in
      places_part same law m (selection.Section p.key) top (length p.rows) (rows_places top p.rows) (rows-placed p.key 0 p.rows s w a top fits o e)
      (none_of same is_clickable (IsFrom p.key 0) (section_id p.key) m.boxes (section-apart p.key) (rows-own same law p.key 0 p.rows s w a (pos top) fits o e).ids) span.top span.rows some

  sections-placed : (f : FileKey) (n : ℕ) (ps : List ShownSection) (s : Sight) (w : ℕ) (a : Area) (top : ℕ) → 10 ≤ a.width → IsSeen s w a → AreSectionsOf f n ps → HaveRows ps
      → Places same (sections_picture ps s (pos (a.left + 2)) (pos top)) (sections_places top ps)
  unfolding sections_picture sections_places
  sections-placed f n [] s w a top fits o e some = places_keyless same nothing nothing-keyless
  sections-placed f n (p ∷ ps) s w a top fits o e some =
      let x = pos (a.left + 2) in
      let m = suc p.key.section_idx in
      let below = top + length p.rows in
      places_below same law (IsOf p.key) (IsSectionFrom f m) (part (section_id p.key) (rows_picture p.rows s x (pos top))) (sections_picture ps s x (pos below))
      (record { key = selection.Section p.key; top = top; rows = length p.rows } ∷ rows_places top p.rows) (sections_places below ps)
      (section-owns same law p s w a (pos top) fits o e.2).ids (sections-own same law f m ps s w a (pos below) fits o e.3).ids
      (λ i b c. let t = index-of i p.key c.key b c.section in let low = c.low in omega (arith, t, low))
      (section-placed p s w a top fits o e.2 some.0) (sections-placed f m ps s w a below fits o e.3 some.1)

  -- ---- files

  header-keyless : (f : ShownFile) (s : Sight) (w : ℕ) (a : Area) (y : ℤ) (commit n : ℕ) → 10 ≤ a.width → IsSeen s w a → IsFileOf commit n f → IsKeyless same (row_picture (HeaderRow f.key f.heading) s (pos a.left) y)
  header-keyless f s w a y commit n fits o e = no_keys (IsHeadOf f.key) (row_picture (HeaderRow f.key f.heading) s (pos a.left) y) (head-item f.key) (header-owns same law f.key f.heading s w a y fits o e.heading).ids

  parts-placed : (commit n : ℕ) (f : ShownFile) (s : Sight) (w : ℕ) (a : Area) (top : ℕ) → 10 ≤ a.width → IsSeen s w a → IsFileOf commit n f → Places same (shown_file_picture f s (pos a.left) (pos top)) (sections_places (suc top) f.sections)
  unfolding shown_file_picture
  parts-placed commit n f s w a top fits o e =
      rw (next-row top)
      (places_after same (row_picture (HeaderRow f.key f.heading) s (pos a.left) (pos top)) (sections_picture f.sections s (pos (a.left + 2)) (pos (suc top))) (sections_places (suc top) f.sections)
      (header-keyless f s w a (pos top) commit n fits o e) (sections-placed f.key 0 f.sections s w a (suc top) fits o e.sections e.rows))

  one_file-placed : (commit n : ℕ) (f : ShownFile) (s : Sight) (w : ℕ) (a : Area) (m top : ℕ) → 10 ≤ a.width → IsSeen s w a → mask_row s ≡ pos m → IsFileOf commit n f
      → Places same (one_file_picture f s (pos a.left) (pos top)) (record { key = selection.File f.key; top = top; rows = length (file_rows f) } ∷ sections_places (suc top) f.sections)
  unfolding one_file_picture pinned_picture
  one_file-placed commit n f s w a m top fits o row e =
      let l = pos a.left in
      let t = under (file_mask s l (pos top)) s in
      let inner = shown_file_picture f t l (pos top) in
      let seen = under-seen s w a (pos top) None o in
      let span = file-lies f t w a (pos top) fits seen (sections-inner f.key 0 f.sections e.sections) e.rows in
      let b = is_over m top f in
      let again = pinned-owns same law f b s w a m fits o e.heading in
      rw row
      (places_beside same (part (file_id f.key) inner) (if b then pinned_header f s l (pos m) else nothing) _
      (places_part same law inner (selection.File f.key) top (length (file_rows f)) (sections_places (suc top) f.sections) (parts-placed commit n f t w a top fits seen e)
      (none_of same is_clickable _ (file_id f.key) inner.boxes (not-file same law f.key) (parts-ids same law f t w a (pos top) fits seen e.heading e.sections)) span.top span.rows (some-rows f))
      (no_keys (IsHeadOf f.key) (if b then pinned_header f s l (pos m) else nothing) (head-item f.key) again.ids))

  files-placed : (commit n : ℕ) (fs : List ShownFile) (s : Sight) (w : ℕ) (a : Area) (m top : ℕ) → 10 ≤ a.width → IsSeen s w a → mask_row s ≡ pos m → AreFilesOf commit n fs → Places same (files_picture fs s (pos a.left) (pos top)) (files_places top fs)
  unfolding files_picture files_places
  files-placed commit n [] s w a m top fits o row e = places_keyless same nothing nothing-keyless
  files-placed commit n (f ∷ fs) s w a m top fits o row e =
      let l = pos a.left in
      let below = top + length (file_rows f) in
      places_below same law (IsOfFile f.key) (IsFileFrom commit (suc f.key.file_idx)) (one_file_picture f s l (pos top)) (files_picture fs s l (pos below))
      (record { key = selection.File f.key; top = top; rows = length (file_rows f) } ∷ sections_places (suc top) f.sections) (files_places below fs)
      (one_file-ids same law commit n f s w a m top fits o row e.0) (files-ids same law commit (suc f.key.file_idx) fs s w a m below fits o row e.1)
      (λ i b c. let t = same-file i f.key c.key b c.file in let low = c.index in omega (arith, t, low))
      (one_file-placed commit n f s w a m top fits o row e.0) (files-placed commit (suc f.key.file_idx) fs s w a m below fits o row e.1)

  -- ---- documents

  below-placed : (commit : ℕ) (fs : List ShownFile) (s : Sight) (w : ℕ) (a : Area) (m k : ℕ) → 10 ≤ a.width → IsSeen s w a → mask_row s ≡ pos m → AreFilesOf commit 0 fs → Places same (body_picture fs s (pos a.left) (pos 1) (pos k)) (files_places k fs)
  unfolding files_places
  below-placed commit [] s w a m k fits o row e =
      let words = no_files_picture s (pos a.left) (pos 1) in
      places_keyless same words (keyless_of same law words (rw (no_files-none s (pos a.left) (pos 1)) tt))
  below-placed commit (f ∷ fs) s w a m k fits o row e =
      let some : (length (f ∷ fs) == 0) ≡ false = grind arith in
      rw some (files-placed commit 0 (f ∷ fs) s w a m k fits o row e)

  -- each key's box is on the rows of its place
  pub document-placed : (d : Document) (s : Sight) (w : ℕ) (a : Area) (m : ℕ) → 10 ≤ a.width → IsSeen s w a → mask_row s ≡ pos m → HasItsIds d → Places same (document_picture d s (pos a.left) (pos 1)) (places 1 d)
  unfolding document_picture
  document-placed d s w a m fits o row e =
      let l = pos a.left in
      let said = part ids.CommitMessageView (message_picture d.commit d.message s l (pos 1)) in
      places_after same said (body_picture d.files s l (pos 1) (pos (1 + message_height d.message))) _
      (no_keys (IsOfMessage d.commit) said (message-item d.commit) (message-ids d.commit d.message s l (pos 1)))
      (below-placed d.commit d.files s w a m (1 + message_height d.message) fits o row e)
