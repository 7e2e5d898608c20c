-- Where files and sections stand answers for the document: who owns each point, and on which rows each key stands.
use Rattle.std.proofs.Common.{◌≡◌, ℕ, suc, ◌+◌, ◌-◌, ◌<◌, ◌≤◌, ◌==◌, Bool, true, false, ◌&&◌, cond, List, [], ◌∷◌, ◌++◌, length, map, nat_lt, refl, sym, ap, ap₂, ◌∙◌, arith, subst}
use Rattle.std.specs.Prelude.{ℤ, pos, ◌+ℤ◌, int_le, int_lt, if◌then◌else◌, Option, Some, None}
use Rattle.std.specs.Ordering.{int_eq}
use Rattle.std.proofs.lemmas.Bool.Decides.{nat_tests, Decides-int_eq}
use Rattle.std.proofs.lemmas.Int.{ints}
use Rattle.std.proofs.lemmas.List.{length-map, length-append}
use Rattle.scm_types.specs.declared.keys.FileKey.{FileKey}
use Rattle.scm_types.specs.declared.keys.SelectionKey.TheVariants as selection
use Rattle.scm_render.specs.Hits.{first_of_two}
use Rattle.scm_render.specs.Lines.{line}
use Rattle.scm_render.proofs.LineLemmas.{line-left, line-right}
use Rattle.scm_widgets.specs.declared.ids.ComponentId.{ComponentId}
use Rattle.scm_widgets.specs.declared.ids.ComponentId.TheVariants as ids
use Rattle.scm_document.specs.declared.section_view.SectionView.{SectionView}
use Rattle.scm_document.specs.declared.file_view.FileView.{FileView}
use Rattle.scm_document.specs.declared.index_pieces.FilePiece.{FilePiece}
use Rattle.scm_document.specs.declared.index_pieces.SectionPiece.{SectionPiece}
use Rattle.scm_document.specs.declared.index_pieces.Piece.{Piece}
use Rattle.scm_document.specs.declared.index_pieces.Piece.TheVariants as pieces
use Rattle.scm_widgets.specs.Layers.{Strip, clear, owned, is_among}
use Rattle.scm_document.specs.Owners.{AreRowsOf, AreSectionsOf}
use Rattle.scm_document.specs.Rows.{file_id, section_height, section_rows, ShownFile, shown_of_view, shown_sections, sections_rows, shown_file, file_rows}
use Rattle.scm_widgets.specs.Boxes.{is_fold_open}
use Rattle.scm_document.specs.Strips.{everywhere, row_strip, section_strips, sections_strips, header_strip, file_strips, is_over, files_strips}
use Rattle.scm_widgets.specs.OverlayRects.{is_from}
use Rattle.scm_document.specs.PieceOwners.{section_owner, header_owner, owner_in_section, row_owner, found_owner}
use Rattle.scm_document.specs.Pieces.{files_pieces, pieces_among, section_among, section_below}
use Rattle.scm_document.specs.SectionWalk.{visible_views}
use Rattle.scm_document.specs.ViewPieces.{section_piece_of, sections_height, section_piece_list, file_height, sections_in_file, file_piece_of}
use Rattle.scm_widgets.proofs.DrawsStrips.{line-owned}
use Rattle.scm_document.proofs.FilesOf.{IsHeadingOf, IsFileOf, AreFilesOf}
use Rattle.scm_document.proofs.SectionsLemmas.{section-size, shown-visible}
use Rattle.scm_document.proofs.SectionPieceLemmas.{length-section, section-owner, row-within, two_boxes}
use Rattle.scm_document.proofs.StripLemmas.{length-file_strips}

-- ---- how many rows there are

sections-height : (vs : List SectionView) → length (sections_rows (map shown_of_view vs)) ≡ sections_height vs
unfolding sections_rows
sections-height [] = refl
sections-height (v ∷ vs) = length-append (section_rows v) (sections_rows (map shown_of_view vs)) ∙ ap₂ (λ a b. a + b) (section-size v) (sections-height vs)

pub file-height : (v : FileView) → length (file_rows (shown_file v)) ≡ file_height v
unfolding shown_file file_rows sections_rows
file-height v = go (is_fold_open v.expand_box)
  where
    go : (b : Bool) → suc (length (sections_rows (if b then shown_sections false v.section_views else []))) ≡ 1 + (if b then sections_height (visible_views false v.section_views) else 0)
    go true = ap (λ ps. suc (length (sections_rows ps))) (shown-visible false v.section_views) ∙ ap suc (sections-height (visible_views false v.section_views)) ∙ omega arith
    go false = omega arith

-- ---- who owns a point among sections

unfoldable pub owner_of : List (Strip ComponentId) → ℕ → ℕ → ℕ → Option ComponentId
owner_of ss top y x = (line clear ss (pos top) (pos y)).owner x

pub from-true : (top end y : ℕ) → is_from top end y ≡ true → (top ≤ y) × (y < end)
from-true top end y e = (grind (arith, nat_tests), grind (arith, nat_tests))

from-false : (top end y : ℕ) → is_from top end y ≡ false → top ≤ y → end ≤ y
from-false top end y e h = grind (arith, nat_tests, h)

pub upper : (ms ns : List (Strip ComponentId)) (top y x : ℕ) → y < top + length ms → owner_of (ms ++ ns) top y x ≡ owner_of ms top y x
unfolding owner_of
upper ms ns top y x h = ap (λ (s : Strip ComponentId). s.owner x) (line-left clear ms ns (pos top) (pos y) (omega (arith, ints, h)))

pub lower : (ms ns : List (Strip ComponentId)) (top next y x : ℕ) → top + length ms ≡ next → next ≤ y → owner_of (ms ++ ns) top y x ≡ owner_of ns next y x
unfolding owner_of
lower ms ns top next y x e h =
    let at : pos top +ℤ pos (length ms) ≡ pos next = omega (arith, ints, e) in
    ap (λ (s : Strip ComponentId). s.owner x) (line-right clear ms ns (pos top) (pos y) (omega (arith, ints, e, h)) ∙ ap (λ z. line clear ns z (pos y)) at)

no-strips : (top y x : ℕ) → owner_of [] top y x ≡ None
unfolding owner_of line
no-strips top y x = refl

no-sections : (w : ℕ) (z y : ℤ) (x : ℕ) → (line clear (sections_strips w []) z y).owner x ≡ None
unfolding line sections_strips
no-sections w z y x = refl

section-there : (w x top y : ℕ) (v : SectionView) → AreRowsOf v.section_key 0 (section_rows v) → top ≤ y → y < top + section_height v v.section.now
    → owner_of (section_strips w (shown_of_view v)) top y x ≡ section_owner w (section_piece_of v top) (y - top) x
unfolding owner_of
section-there w x top y v e low high =
    let there : top + (y - top) ≡ y = omega (arith, low) in
    ap (λ z. (line clear (section_strips w (shown_of_view v)) (pos top) (pos z)).owner x) (sym there)
    ∙ section-owner w x top (y - top) v e (omega (arith, low, high))

-- the pieces of sections, and those of the files below
abbrev pieces_from : List SectionPiece → List Piece → List Piece
pieces_from ss rest = map pieces.Section ss ++ rest

sections-owned : (w x y : ℕ) (f : FileKey) (n top : ℕ) (vs : List SectionView) (rest : List Piece) → AreSectionsOf f n (map shown_of_view vs) → section_among y rest ≡ None → top ≤ y
    → owner_of (sections_strips w (map shown_of_view vs)) top y x ≡ owner_in_section w (section_among y (pieces_from (section_piece_list top vs) rest)) y x
unfolding sections_strips
sections-owned w x y f n top [] rest e none h = rw none (no-strips top y x)
sections-owned w x y f n top (v ∷ vs) rest e none h =
    go (λ m next q p. sections-owned w x y f m next vs rest q none p) e (is_from top (top + section_height v v.section.now) y) refl
  where
    go : ((m next : ℕ) → AreSectionsOf f m (map shown_of_view vs) → next ≤ y
        → owner_of (sections_strips w (map shown_of_view vs)) next y x ≡ owner_in_section w (section_among y (pieces_from (section_piece_list next vs) rest)) y x)
        → AreSectionsOf f n (shown_of_view v ∷ map shown_of_view vs) → (t : Bool) → is_from top (top + section_height v v.section.now) y ≡ t
        → owner_of (section_strips w (shown_of_view v) ++ sections_strips w (map shown_of_view vs)) top y x
        ≡ owner_in_section w (if t then Some (section_piece_of v top) else section_among y (pieces_from (section_piece_list (top + section_height v v.section.now) vs) rest)) y x
    go more e true q =
        let in_it = from-true top (top + section_height v v.section.now) y q in
        let size = length-section w v in
        upper (section_strips w (shown_of_view v)) (sections_strips w (map shown_of_view vs)) top y x (omega (arith, in_it.1, size))
        ∙ section-there w x top y v e.2 in_it.0 in_it.1
    go more e false q =
        let size = length-section w v in
        let past = from-false top (top + section_height v v.section.now) y q h in
        lower (section_strips w (shown_of_view v)) (sections_strips w (map shown_of_view vs)) top (top + section_height v v.section.now) y x (omega (arith, size)) past
        ∙ more (suc v.section_key.section_idx) (top + section_height v v.section.now) e.3 past

-- ---- who owns a point among files

same-row : (top y : ℕ) (t : Bool) → (y == top) ≡ t → int_eq (pos y) (pos top) ≡ t
same-row top y true e = let same : y ≡ top = grind (arith, e) in grind (arith, ints, Decides-int_eq (pos y) (pos top), same)
same-row top y false e =
    let differ : y ≡ top → ⊥ = λ q. grind (arith, e, q) in
    grind (arith, ints, Decides-int_eq (pos y) (pos top), differ)

header-strip-owner : (w x : ℕ) (f : ShownFile) (t : FilePiece) → t.key ≡ f.key → IsHeadingOf f.key f.heading → (b : Bool) → b ≡ t.is_pinned → (header_strip w b f).owner x ≡ header_owner w t x
unfolding row_strip
header-strip-owner w x f t e ids_are true q = rw (sym q) refl
header-strip-owner w x f t e ids_are false q =
    rw (sym q, e, ids_are.toggle, ids_are.fold)
    (ap (λ o. first_of_two o (Some (ids.FileViewHeader f.key))) (two_boxes (is_among 0 3 x) (is_among (w - 3) 3 x) (ids.ToggleBox (selection.File f.key)) (ids.ExpandBox (selection.File f.key))))

file-parts : (w x y m top : ℕ) (v : FileView) (b : Bool) (rest : List Piece) → IsHeadingOf v.file_key (shown_file v).heading → AreSectionsOf v.file_key 0 (shown_file v).sections
    → b ≡ (file_piece_of m top v).is_pinned → section_among y rest ≡ None → top ≤ y
    → owner_of (header_strip w b (shown_file v) ∷ sections_strips w (shown_file v).sections) top y x
    ≡ (if y == top then header_owner w (file_piece_of m top v) x else owner_in_section w (section_below (file_piece_of m top v) y (pieces_from (sections_in_file top v) rest)) y x)
unfolding owner_of line shown_file
file-parts w x y m top v b rest heading sections pinned none h = go (y == top) refl
  where
    below : (c : Bool) → AreSectionsOf v.file_key 0 (if c then shown_sections false v.section_views else []) → suc top ≤ y
        → (line clear (sections_strips w (if c then shown_sections false v.section_views else [])) (pos (top + 1)) (pos y)).owner x
        ≡ owner_in_section w (section_among y (pieces_from (if c then section_piece_list (top + 1) (visible_views false v.section_views) else []) rest)) y x
    below true e p =
        let all = shown-visible false v.section_views in
        rw all (sections-owned w x y v.file_key 0 (top + 1) (visible_views false v.section_views) rest (rw all at e) none (omega (arith, p)))
    below false e p = rw none (no-sections w (pos (top + 1)) (pos y) x)

    go : (t : Bool) → (y == top) ≡ t
        → (cond (int_eq (pos y) (pos top)) (header_strip w b (shown_file v)) (line clear (sections_strips w (shown_file v).sections) (pos top +ℤ pos 1) (pos y))).owner x
        ≡ (if t then header_owner w (file_piece_of m top v) x else owner_in_section w (if t then None else section_among y (pieces_from (sections_in_file top v) rest)) y x)
    go true e = rw (same-row top y true e) (header-strip-owner w x (shown_file v) (file_piece_of m top v) refl heading b pinned)
    go false e =
        let differ : y ≡ top → ⊥ = λ q. grind (arith, e, q) in
        rw (same-row top y false e) (below (is_fold_open v.expand_box) sections (grind (arith, differ, h)))

pub file-strips-length : (w : ℕ) (b : Bool) (v : FileView) → length (file_strips w b (shown_file v)) ≡ file_height v
file-strips-length w b v = length-file_strips w b (shown_file v) ∙ file-height v

own-file : (o : Option ComponentId) (t : Bool) (i : ComponentId) → t ≡ true → first_of_two o (cond (t && true) (Some i) None) ≡ first_of_two o (Some i)
own-file o t i e = rw e refl

file-owned : (w x y m commit n top : ℕ) (v : FileView) (b : Bool) (rest : List Piece) → IsFileOf commit n (shown_file v) → b ≡ (file_piece_of m top v).is_pinned → section_among y rest ≡ None
    → top ≤ y → y < top + file_height v
    → owner_of (file_strips w b (shown_file v)) top y x
    ≡ row_owner w (record { file = file_piece_of m top v; section = section_below (file_piece_of m top v) y (pieces_from (sections_in_file top v) rest) }) y x
unfolding owner_of file_strips shown_file
file-owned w x y m commit n top v b rest is pinned none low high =
    let inner : List (Strip ComponentId) = header_strip w b (shown_file v) ∷ sections_strips w (shown_file v).sections in
    let size : length inner ≡ file_height v = sym (length-map inner (owned (file_id v.file_key) everywhere)) ∙ file-strips-length w b v in
    let there : top + (y - top) ≡ y = omega (arith, low) in
    let seen : (int_le (pos top) (pos y) && int_lt (pos y) (pos top +ℤ pos (length inner))) ≡ true =
    subst (λ z. (int_le (pos top) (pos z) && int_lt (pos z) (pos top +ℤ pos (length inner))) ≡ true) there (row-within top (y - top) (length inner) (omega (arith, low, high, size))) in
    sym (line-owned (file_id v.file_key) everywhere inner (pos top) (pos y) x)
    ∙ own-file ((line clear inner (pos top) (pos y)).owner x) _ (file_id v.file_key) seen
    ∙ ap (λ o. first_of_two o (Some (file_id v.file_key))) (file-parts w x y m top v b rest is.heading is.sections pinned none low)

pinned-is : (m top : ℕ) (v : FileView) → is_over m top (shown_file v) ≡ (file_piece_of m top v).is_pinned
pinned-is m top v = ap (λ n. nat_lt top m && nat_lt m (top + n)) (file-height v)

-- among the pieces of files there is no section before the first file, and none that has a row of a file above
pub none-below : (y m top : ℕ) (vs : List FileView) → section_among y (files_pieces m top vs) ≡ None
none-below y m top [] = refl
none-below y m top (v ∷ vs) = refl

pub past-sections : (y : ℕ) (ss : List SectionPiece) (ps : List Piece) → pieces_among y (pieces_from ss ps) ≡ pieces_among y ps
past-sections y [] ps = refl
past-sections y (s ∷ ss) ps = past-sections y ss ps

-- no file has a row above the first
pub files-above : (m top y : ℕ) (vs : List FileView) → y < top → pieces_among y (files_pieces m top vs) ≡ None
files-above m top y [] h = refl
files-above m top y (v ∷ vs) h =
    let out : is_from top (top + file_height v) y ≡ false = grind (arith, nat_tests, h) in
    rw out (past-sections y (sections_in_file top v) (files_pieces m (top + file_height v) vs) ∙ files-above m (top + file_height v) y vs (omega (arith, h)))

pub files-owned : (w x y m commit n top : ℕ) (vs : List FileView) → AreFilesOf commit n (map shown_file vs) → top ≤ y
    → owner_of (files_strips w m top (map shown_file vs)) top y x ≡ found_owner w (pieces_among y (files_pieces m top vs)) y x
unfolding files_strips
files-owned w x y m commit n top [] e h = no-strips top y x
files-owned w x y m commit n top (v ∷ vs) e h =
    let more = λ (p : top + file_height v ≤ y). files-owned w x y m commit (suc (shown_file v).key.file_idx) (top + file_height v) vs e.1 p in
    subst (λ k. owner_of (file_strips w (is_over m top (shown_file v)) (shown_file v) ++ files_strips w m (top + k) (map shown_file vs)) top y x
    ≡ found_owner w (pieces_among y (files_pieces m top (v ∷ vs))) y x) (sym (file-height v))
    (go more (is_from top (top + file_height v) y) refl)
  where
    rest : List Piece
    rest = files_pieces m (top + file_height v) vs

    go : (top + file_height v ≤ y → owner_of (files_strips w m (top + file_height v) (map shown_file vs)) (top + file_height v) y x ≡ found_owner w (pieces_among y rest) y x)
        → (t : Bool) → is_from top (top + file_height v) y ≡ t
        → owner_of (file_strips w (is_over m top (shown_file v)) (shown_file v) ++ files_strips w m (top + file_height v) (map shown_file vs)) top y x
        ≡ found_owner w (if t then Some (record { file = file_piece_of m top v; section = section_below (file_piece_of m top v) y (pieces_from (sections_in_file top v) rest) })
        else pieces_among y (pieces_from (sections_in_file top v) rest)) y x
    go more true q =
        let in_it = from-true top (top + file_height v) y q in
        let size = file-strips-length w (is_over m top (shown_file v)) v in
        upper (file_strips w (is_over m top (shown_file v)) (shown_file v)) (files_strips w m (top + file_height v) (map shown_file vs)) top y x (omega (arith, in_it.1, size))
        ∙ file-owned w x y m commit n top v (is_over m top (shown_file v)) rest e.0 (pinned-is m top v) (none-below y m (top + file_height v) vs) in_it.0 in_it.1
    go more false q =
        let past = from-false top (top + file_height v) y q h in
        let size = file-strips-length w (is_over m top (shown_file v)) v in
        lower (file_strips w (is_over m top (shown_file v)) (shown_file v)) (files_strips w m (top + file_height v) (map shown_file vs)) top (top + file_height v) y x (omega (arith, size)) past
        ∙ more past
        ∙ ap (λ o. found_owner w o y x) (sym (past-sections y (sections_in_file top v) rest))
