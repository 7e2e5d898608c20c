-- Overlay rectangles have the owners that the layers over the rows of files name.
use Rattle.std.proofs.Common.{◌≡◌, ℕ, suc, ◌+◌, ◌-◌, ◌<◌, ◌≤◌, Bool, true, false, ◌&&◌, cond, List, [], ◌∷◌, ◌++◌, map, nat_lt, refl, sym, ap, ◌∙◌, arith, subst}
use Rattle.std.specs.Prelude.{ℤ, pos, if◌then◌else◌, Option, Some, None}
use Rattle.std.specs.Ordering.{int_eq}
use Rattle.std.proofs.lemmas.Bool.Decides.{nat_tests}
use Rattle.scm_types.specs.declared.keys.FileKey.{FileKey}
use Rattle.scm_types.specs.declared.keys.SelectionKey.TheVariants as selection
use Rattle.scm_render.specs.Hits.{first_of_two}
use Rattle.scm_render.specs.Lines.{line}
use Rattle.scm_render.proofs.HitLemmas.{two_assoc}
use Rattle.scm_widgets.specs.declared.ids.ComponentId.{ComponentId}
use Rattle.scm_widgets.specs.declared.ids.ComponentId.TheVariants as ids
use Rattle.scm_document.specs.declared.file_view.FileView.{FileView}
use Rattle.scm_document.specs.declared.index_pieces.SectionPiece.{SectionPiece}
use Rattle.scm_document.specs.declared.index_pieces.RowPieces.{RowPieces}
use Rattle.scm_document.specs.declared.index_pieces.Piece.{Piece}
use Rattle.scm_document.specs.declared.index_pieces.Piece.TheVariants as pieces
use Rattle.scm_widgets.specs.Layers.{clear, is_among, is_within}
use Rattle.scm_document.specs.Rows.{HeaderRow, ShownFile, shown_file}
use Rattle.scm_document.specs.Strips.{row_strip, pinned_strips}
use Rattle.scm_widgets.specs.OverlayRects.{is_from, overlay_owner}
use Rattle.scm_document.specs.Pieces.{files_pieces, pieces_among, section_below}
use Rattle.scm_document.specs.ViewPieces.{file_height, file_piece_of, sections_in_file}
use Rattle.scm_document.specs.HeaderRects.{header_rects, pinned_rects}
use Rattle.scm_document.proofs.DocumentLemmas.{none-pinned}
use Rattle.scm_document.proofs.FilesOf.{IsHeadingOf, AreFilesOf}
use Rattle.scm_document.proofs.ViewPieceLemmas.{file-height, past-sections}
use Rattle.scm_widgets.proofs.OverlayRectLemmas.{on_row, within-among, within-all, line-one}

-- ---- the pinned header

pinned-owner : (w x : ℕ) (f : ShownFile) → x < w → 3 ≤ w → IsHeadingOf f.key f.heading
    → first_of_two (if is_within (pos 0) 3 x then Some (ids.ToggleBox (selection.File f.key)) else None)
    (first_of_two (if is_within (pos (w - 3)) 3 x then Some (ids.ExpandBox (selection.File f.key)) else None)
    (if is_within (pos 0) w x then Some (ids.FileViewHeader f.key) else None))
    ≡ (row_strip w (HeaderRow f.key f.heading)).owner x
unfolding row_strip
pinned-owner w x f within fits ids_are =
    rw (within-all w x within, within-among (w - 3) 3 x, within-among 0 3 x, ids_are.toggle, ids_are.fold)
    (three (is_among 0 3 x) (is_among (w - 3) 3 x) (ids.ToggleBox (selection.File f.key)) (ids.ExpandBox (selection.File f.key)) (ids.FileViewHeader f.key))
  where
    three : (t u : Bool) (a b c : ComponentId)
        → ◌≡◌ {A = Option ComponentId} (first_of_two (if t then Some a else None) (first_of_two (if u then Some b else None) (Some c)))
        (first_of_two (first_of_two None (first_of_two (cond t (Some a) None) (first_of_two None (cond u (Some b) None)))) (Some c))
    three true u a b c = refl
    three false true a b c = refl
    three false false a b c = refl

header-row : (w m y x : ℕ) (f : ShownFile) → x < w → 3 ≤ w → IsHeadingOf f.key f.heading
    → overlay_owner (header_rects w m f.key) y x ≡ (line clear (row_strip w (HeaderRow f.key f.heading) ∷ []) (pos m) (pos y)).owner x
header-row w m y x f within fits ids_are =
    rw (on_row (pos m) y, line-one (row_strip w (HeaderRow f.key f.heading)) (pos m) (pos y) x)
    (go (int_eq (pos y) (pos m)))
  where
    go : (t : Bool) → first_of_two (first_of_two (first_of_two None (if t && is_within (pos 0) 3 x then Some (ids.ToggleBox (selection.File f.key)) else None))
        (if t && is_within (pos (w - 3)) 3 x then Some (ids.ExpandBox (selection.File f.key)) else None))
        (if t && is_within (pos 0) w x then Some (ids.FileViewHeader f.key) else None)
        ≡ (if t then (row_strip w (HeaderRow f.key f.heading)).owner x else None)
    go true =
        two_assoc (if is_within (pos 0) 3 x then Some (ids.ToggleBox (selection.File f.key)) else None)
        (if is_within (pos (w - 3)) 3 x then Some (ids.ExpandBox (selection.File f.key)) else None)
        (if is_within (pos 0) w x then Some (ids.FileViewHeader f.key) else None)
        ∙ pinned-owner w x f within fits ids_are
    go false = refl

line-none : (y z : ℤ) (x : ℕ) → None ≡ (line (clear {K = ComponentId}) [] y z).owner x
unfolding line
line-none y z x = refl

key-is : (v : FileView) (P : FileKey → Type 0) → P (shown_file v).key → P v.file_key
unfolding shown_file
key-is v P p = p

pub pinned-spots : (w m y x commit n top : ℕ) (vs : List FileView) → x < w → 3 ≤ w → AreFilesOf commit n (map shown_file vs)
    → overlay_owner (pinned_rects w m (pieces_among m (files_pieces m top vs))) y x ≡ (line clear (pinned_strips w m top (map shown_file vs)) (pos m) (pos y)).owner x
unfolding pinned_strips
pinned-spots w m y x commit n top [] within fits e = line-none (pos m) (pos y) x
pinned-spots w m y x commit n top (v ∷ vs) within fits e =
    subst (λ k. overlay_owner (pinned_rects w m (pieces_among m (files_pieces m top (v ∷ vs)))) y x
    ≡ (line clear (cond (nat_lt top m && nat_lt m (top + k)) (row_strip w (HeaderRow (shown_file v).key (shown_file v).heading) ∷ []) (pinned_strips w m (top + k) (map shown_file vs))) (pos m) (pos y)).owner x) (sym (file-height v))
    (go (pinned-spots w m y x commit (suc (shown_file v).key.file_idx) (top + file_height v) vs within fits e.1) (is_from top (top + file_height v) m) (nat_lt top m && nat_lt m (top + file_height v)) refl refl)
  where
    rest : List Piece
    rest = files_pieces m (top + file_height v) vs

    section : Option SectionPiece
    section = section_below (file_piece_of m top v) m (map pieces.Section (sections_in_file top v) ++ rest)

    go : overlay_owner (pinned_rects w m (pieces_among m rest)) y x ≡ (line clear (pinned_strips w m (top + file_height v) (map shown_file vs)) (pos m) (pos y)).owner x
        → (t b : Bool) → is_from top (top + file_height v) m ≡ t → (nat_lt top m && nat_lt m (top + file_height v)) ≡ b
        → overlay_owner (pinned_rects w m (if t then Some (record { file = record { key = v.file_key; top = top; end = top + file_height v; is_pinned = b }; section = section })
        else pieces_among m (map pieces.Section (sections_in_file top v) ++ rest))) y x
        ≡ (line clear (cond b (row_strip w (HeaderRow (shown_file v).key (shown_file v).heading) ∷ []) (pinned_strips w m (top + file_height v) (map shown_file vs))) (pos m) (pos y)).owner x
    go more true true p q = key-is v (λ k. overlay_owner (header_rects w m k) y x ≡ (line clear (row_strip w (HeaderRow (shown_file v).key (shown_file v).heading) ∷ []) (pos m) (pos y)).owner x) (header-row w m y x (shown_file v) within fits e.0.heading)
    go more true false p q =
        let none : pinned_strips w m (top + file_height v) (map shown_file vs) ≡ [] = none-pinned w m (top + file_height v) (map shown_file vs) (grind (arith, nat_tests, p)) in
        rw none (line-none (pos m) (pos y) x)
    go more false true p q = absurd (grind (arith, nat_tests, p, q))
    go more false false p q = ap (λ (o : Option RowPieces). overlay_owner (pinned_rects w m o) y x) (past-sections m (sections_in_file top v) rest) ∙ more
