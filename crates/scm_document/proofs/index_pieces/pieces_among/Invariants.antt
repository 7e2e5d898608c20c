use Rattle.std.proofs.Common.{◌≡◌, drop}
use Rattle.scm_document.specs.Pieces.{pieces_among}
use Rattle.scm_document.proofs.index_pieces.pieces_among.Given as goal

abbrev pub invariant-loop-index : goal.invariant-loop-index
invariant-loop-index l = pieces_among l.row (drop l.index l.pieces) ≡ pieces_among l.row l.pieces
