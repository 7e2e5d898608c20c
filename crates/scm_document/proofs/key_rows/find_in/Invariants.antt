use Rattle.std.proofs.Common.{◌≡◌, drop}
use Rattle.std.specs.List.{flat_map}
use Rattle.scm_document.specs.DocumentRows.{rows_of_key}
use Rattle.scm_document.specs.Pieces.{piece_places}
use Rattle.scm_document.proofs.key_rows.find_in.Given as goal

abbrev pub invariant-loop-piece : goal.invariant-loop-piece
invariant-loop-piece l = rows_of_key l.key (flat_map piece_places (drop l.piece-index l.pieces)) ≡ rows_of_key l.key (flat_map piece_places l.pieces)
