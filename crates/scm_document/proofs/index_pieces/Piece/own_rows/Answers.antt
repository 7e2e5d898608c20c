use Rattle.std.proofs.Common.{◌∙◌, sym}
use Rattle.scm_document.proofs.IndexLemmas.{length-parts}
use Rattle.scm_document.proofs.index_pieces.Piece.own_rows.Goals as goal

pub returns-in-Section : goal.returns-in-Section
returns-in-Section c = rw c.in-Section.is (c.saturating_sub.ensures ∙ sym (length-parts _ 0 _))
