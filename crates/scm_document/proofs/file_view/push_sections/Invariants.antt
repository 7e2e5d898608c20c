use Rattle.std.proofs.Common.{◌≡◌, ◌+◌, ◌++◌, map, false, length}
use Rattle.scm_document.specs.declared.index_pieces.Piece.TheVariants.{Section}
use Rattle.scm_document.specs.SectionWalk.{sections_left, visible_views}
use Rattle.scm_document.specs.ViewPieces.{section_piece_list, sections_height}
use Rattle.scm_document.proofs.file_view.push_sections.Given as goal

-- what was added, and what is left to add
abbrev pub invariant-sections : goal.invariant-sections
invariant-sections l =
    record {
      added : l.pieces.items ++ map Section (section_piece_list l.row (sections_left l.walk)) ≡ l.fn.pieces.items ++ map Section (section_piece_list l.fn.top (visible_views false l.views));
      left : l.row + sections_height (sections_left l.walk) ≡ l.fn.top + sections_height (visible_views false l.views);
    }

abbrev pub decreases-sections : goal.decreases-sections
decreases-sections l = length (sections_left l.walk)
