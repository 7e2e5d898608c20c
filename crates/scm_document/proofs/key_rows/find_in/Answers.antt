use Rattle.std.proofs.Common.{◌∙◌, sym}
use Rattle.scm_document.proofs.IndexLemmas.{find-first, find-rest, find-none}
use Rattle.scm_document.proofs.key_rows.find_in.Goals as goal

pub returns-in-Some : goal.returns-in-Some
returns-in-Some c =
    c.some_rows.ensures ∙ sym (find-first c.args.pieces.now c.loop-piece.piece-index _ c.args.key c.in-Some.rows c.loop-piece-test.true (sym c.find.ensures ∙ c.in-Some.is)) ∙ c.loop-piece.invariant

pub loop-piece-preserved : goal.loop-piece-preserved
loop-piece-preserved c =
    sym (find-rest c.args.pieces.now c.loop-piece.piece-index _ c.args.key c.loop-piece-test.true (sym c.find.ensures ∙ c.in-None.is)) ∙ c.loop-piece.invariant

pub returns : goal.returns
returns c = sym (find-none c.args.pieces.now c.loop-piece.piece-index c.args.key c.loop-piece-test.false) ∙ c.loop-piece.invariant
