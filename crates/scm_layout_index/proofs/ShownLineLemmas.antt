-- The owners of a row that shows a changed line are those of the line.
use Rattle.std.proofs.Common.{◌≡◌, ℕ, ◌-◌, ◌<◌, Bool, true, false, ◌==◌, nat_lt, Option, Some, None, refl, sym, ap, ◌∙◌, arith}
use Rattle.std.specs.Prelude.{if◌then◌else◌, option_and_then}
use Rattle.std.proofs.lemmas.Bool.Decides.{nat_tests}
use Rattle.std.proofs.lemmas.Option.{same_Some}
use Rattle.scm_types.specs.declared.keys.LineKey.{LineKey}
use Rattle.scm_types.specs.declared.keys.SectionKey.{SectionKey}
use Rattle.scm_types.specs.Keys.{line_key_of}
use Rattle.scm_widgets.specs.OverlayRects.{have_row, overlay_owner}
use Rattle.scm_render.specs.Hits.{first_of_two}
use Rattle.scm_document.specs.declared.index_pieces.SectionPiece.{SectionPiece}
use Rattle.scm_rows.specs.declared.row_kind.RowKind.{RowKind}
use Rattle.scm_rows.specs.declared.row_kind.RowKind.TheVariants.{Header, Line, Mark, Context, Blank}
use Rattle.scm_document.specs.Rows.{file_id}
use Rattle.scm_document.specs.SectionPieces.{kind_on}
use Rattle.scm_document.specs.PieceOwners.{found_owner, header_owner, line_owner, owner_in_section, part_owner, row_owner}
use Rattle.scm_view.specs.ViewState.{ViewState}
use Rattle.scm_view.specs.Window.{owner}
use Rattle.scm_layout_index.specs.declared.layout_index.LayoutIndex.{LayoutIndex}
use Rattle.scm_layout_index.specs.declared.row_owners.RowOwners.{RowOwners}
use Rattle.scm_document.specs.declared.index_pieces.RowPieces.{RowPieces}
use Rattle.scm_layout_index.specs.LayoutIndex.{AreRowOwners, IsLayoutIndexOf, document_owner, owner_in}
use Rattle.scm_layout_index.specs.RowPieces.{pieces_on}
use Rattle.scm_layout_index.specs.ShownLines.{line_among, line_in, line_of_kind, shown_line}
use Rattle.scm_layout_index.proofs.RowOwnerLemmas.{not-over}

-- ---- among pieces

of-kind : (w x : ℕ) (key : SectionKey) (kind : RowKind) (k : LineKey) → line_of_kind key kind ≡ Some k → part_owner w kind key x ≡ Some (line_owner k x)
unfolding part_owner
of-kind w x key (Line i) k e = ap (λ (l : LineKey). Some (line_owner l x)) (same_Some (line_key_of key i) k e)
of-kind w x key Header k e = absurd (cc e)
of-kind w x key Mark k e = absurd (cc e)
of-kind w x key (Context i) k e = absurd (cc e)
of-kind w x key Blank k e = absurd (cc e)

pub found-line : (w y x : ℕ) (p : RowPieces) (k : LineKey) → line_among y p ≡ Some k → row_owner w p y x ≡ Some (line_owner k x)
found-line w y x p k e = go (y == p.file.top) p.section e
  where
    go : (b : Bool) (o : Option SectionPiece) → (if b then None else option_and_then (λ s. line_of_kind s.key (kind_on s (y - s.top))) o) ≡ Some k
        → first_of_two (if b then header_owner w p.file x else owner_in_section w o y x) (Some (file_id p.file.key)) ≡ Some (line_owner k x)
    go true o q = absurd (cc q)
    go false None q = absurd (cc q)
    go false (Some s) q = rw (of-kind w x s.key (kind_on s (y - s.top)) k q) refl

-- ---- on a row of a frame

on-row : (w y x : ℕ) (o : Option RowPieces) (k : LineKey) → option_and_then (line_among y) o ≡ Some k → found_owner w o y x ≡ Some (line_owner k x)
on-row w y x None k e = absurd (cc e)
on-row w y x (Some p) k e = found-line w y x p k e

bare-line : (b : Bool) (o : Option LineKey) (k : LineKey) → (if b then None else o) ≡ Some k → (b ≡ false) × (o ≡ Some k)
bare-line true o k e = absurd (cc e)
bare-line false o k e = (refl, e)

-- what a row has by what was found of it
pub line-in : (i : LayoutIndex) (r : RowOwners) → AreRowOwners i r → shown_line r ≡ line_in i r.row
line-in i r own = rw (own.covered, own.found) refl

-- the owner of a column of the row is the line's checkbox or the line
pub shown-line : (w h s : ℕ) (shown : ViewState) (i : LayoutIndex) (y x : ℕ) (k : LineKey) → IsLayoutIndexOf w h s shown i → line_in i y ≡ Some k → x < w
    → owner w h s shown y x ≡ Some (line_owner k x)
shown-line w h s shown i y x k is line within =
    let found = pieces_on i.selection i.pinned y i.rows.files in
    let bare = bare-line (have_row i.rects y) (option_and_then (line_among y) found) k line in
    let none : overlay_owner i.rects y x ≡ None = not-over i.rects y x bare.0 in
    let pieces : document_owner i y x ≡ Some (line_owner k x) = on-row i.width y x found k bare.1 in
    let wide = is.width in
    let inside_index : nat_lt x i.width ≡ true = grind (arith, nat_tests) in
    let inside : nat_lt x w ≡ true = grind (arith, nat_tests) in
    let here : owner_in i y x ≡ Some (line_owner k x) = rw (inside_index, none) pieces in
    let there = rw inside at (is.owner y x) in
    sym there ∙ here
