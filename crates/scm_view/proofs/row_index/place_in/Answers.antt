use Rattle.std.proofs.Common.{◌∙◌}
use Rattle.scm_document.proofs.IndexLemmas.{place-first, place-rest}
use Rattle.scm_view.proofs.row_index.place_in.Goals as goal

pub returns-then-left-own : goal.returns-then-left-own
returns-then-left-own c =
    c.part.ensures ∙ place-first c.args.pieces.now c.loop-piece.piece-index _ c.loop-piece.left c.own_rows-own.result c.loop-piece-test.true c.own_rows-own.ensures c.if-left-own.true ∙ c.loop-piece.invariant

pub loop-piece-preserved : goal.loop-piece-preserved
loop-piece-preserved c =
    place-rest c.args.pieces.now c.loop-piece.piece-index _ c.loop-piece.left c.own_rows-own.result c.loop-piece-test.true c.own_rows-own.ensures c.if-left-own.false ∙ c.loop-piece.invariant
