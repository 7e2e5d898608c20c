use Rattle.std.proofs.Common.{◌≡◌, drop}
use Rattle.scm_document.specs.Pieces.{section_among}
use Rattle.scm_document.proofs.index_pieces.section_among.Given as goal

abbrev pub invariant-loop-piece : goal.invariant-loop-piece
invariant-loop-piece l = section_among l.row (drop l.piece-index l.pieces) ≡ section_among l.row l.pieces
