use Rattle.std.proofs.Common.{◌≡◌, ◌∙◌, ◌+◌, ◌++◌, ap, arith, ℕ, map, List}
use Rattle.std.specs.List.{flat_map}
use Rattle.scm_document.specs.declared.index_pieces.Piece.{Piece}
use Rattle.scm_document.specs.declared.commit_view.CommitView.{CommitView}
use Rattle.scm_rows.specs.Heights.{message_height}
use Rattle.scm_rows.proofs.HeightLemmas.{message-le}
use Rattle.scm_document.specs.Rows.{shown_file, document_of}
use Rattle.scm_document.specs.Places.{files_places}
use Rattle.scm_document.specs.Pieces.{piece_places, piece_parts, files_pieces}
use Rattle.scm_document.specs.RowIndex.{Index, message_parts, files_parts, index_of}
use Rattle.scm_view.proofs.FrameIndexLemmas.{files-rows-height}
use Rattle.scm_view.proofs.LimitLemmas.{few-rows}
use Rattle.scm_document.proofs.PieceLemmas.{files-places, files-parts}
use Rattle.scm_view.proofs.row_index.RowIndex.new.Goals as goal

-- the pieces of a document are its index
index-is : (v : CommitView) (m : ℕ) (pieces : List Piece) → m ≡ message_height v.commit_message_view.commit.now.message → pieces ≡ files_pieces 0 (m + 1) v.file_views
    → ◌≡◌ {A = Index} (record { parts = message_parts 0 m ++ flat_map piece_parts pieces; places = flat_map piece_places pieces }) (index_of (document_of v))
index-is v m pieces e h =
    let n = message_height v.commit_message_view.commit.now.message in
    let next : m + 1 ≡ 1 + n = omega (arith, e) in
    let parts : message_parts 0 m ++ flat_map piece_parts pieces ≡ message_parts 0 n ++ files_parts (map shown_file v.file_views) =
    ap (λ k. message_parts 0 k ++ flat_map piece_parts pieces) e ∙ ap (λ w. message_parts 0 n ++ w) (ap (flat_map piece_parts) h ∙ files-parts 0 (m + 1) v.file_views) in
    let places : flat_map piece_places pieces ≡ files_places (1 + n) (map shown_file v.file_views) =
    ap (flat_map piece_places) h ∙ files-places 0 (m + 1) v.file_views ∙ ap (λ t. files_places t (map shown_file v.file_views)) next in
    cc (parts, places)

pub push_pieces-requires : goal.push_pieces-requires
push_pieces-requires c =
    let v = c.args.view.now in
    let few = few-rows c.requires.shown c.requires.commit v c.requires.accepted c.requires.shows in
    let size = files-rows-height v.file_views in
    rw (c.as_slice.ensures, c.height-message.ensures) (omega (arith, few, size, message-le v.commit_message_view.commit.now.message))

pub returns-clause-ok : goal.returns-clause-ok
returns-clause-ok c =
    let made = rw (c.new-pieces.ensures.items, c.as_slice.ensures) at c.in_ok-push_pieces.ensures.ok in
    index-is c.args.view.now c.height-message.result _ c.height-message.ensures made
