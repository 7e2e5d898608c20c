use Rattle.std.proofs.Common.{◌≡◌, drop}
use Rattle.std.specs.Prelude.{slice_get}
use Rattle.std.specs.List.{flat_map}
use Rattle.scm_document.specs.Pieces.{piece_parts}
use Rattle.scm_view.proofs.row_index.place_in.Given as goal

abbrev pub invariant-loop-piece : goal.invariant-loop-piece
invariant-loop-piece l = slice_get (flat_map piece_parts (drop l.piece-index l.pieces)) l.left ≡ slice_get (flat_map piece_parts l.pieces) l.fn.row
