use Rattle.std.proofs.Common.{◌∙◌, [], ◌∷◌, ◌++◌, ap, append-nil, append_assoc, arith, map, refl, sym}
use Rattle.scm_document.specs.declared.index_pieces.Piece.TheVariants.{Section}
use Rattle.scm_document.specs.ViewPieces.{section_piece_of, section_piece_list, sections_height}
use Rattle.scm_document.proofs.file_view.push_sections.Goals as goal

pub sections-init : goal.sections-init
sections-init c = rw c.new-walk.ensures (record { added = refl; left = refl })

pub piece-section-requires : goal.piece-section-requires
piece-section-requires c = let more = ap sections_height c.in-Some.ensures.steps in omega (arith, more, c.sections.invariant.left, c.requires)

pub sections-preserved : goal.sections-preserved
sections-preserved c =
    let items = c.sections.pieces.items in
    let more = ap sections_height c.in-Some.ensures.steps in
    rw (c.in_ok-push.ensures.items, c.piece-section.ensures) (record {
      added =
          append_assoc items (Section (section_piece_of c.in-Some.view.now c.sections.row) ∷ []) _
          ∙ ap (λ vs. items ++ map Section (section_piece_list c.sections.row vs)) (sym c.in-Some.ensures.steps) ∙ c.sections.invariant.added;
      left = omega (arith, more, c.sections.invariant.left);
    })

pub returns : goal.returns
returns c =
    let items = c.sections.pieces.items in
    record {
      ok =
          sym (append-nil items) ∙ ap (λ vs. items ++ map Section (section_piece_list c.sections.row vs)) (sym c.in_default.ensures.steps.0)
          ∙ c.sections.invariant.added;
    }
