use Rattle.std.proofs.Common.{◌∷◌, []}
use Rattle.std.specs.Prelude.{pos}
use Rattle.scm_cells.specs.Row.{put}
use Rattle.scm_document.specs.Texts.{divider_text, message_text}
use Rattle.scm_strips.specs.Shows.{edit_text, end_column, put_in, say_in}
use Rattle.scm_strips.proofs.RowLemmas.{drawn-three, on-ok}
use Rattle.scm_strips.proofs.paint.draw_message.Goals as goal

pub returns-clause-ok : goal.returns-clause-ok
returns-clause-ok c =
    let a = c.args.area in
    let end = c.end_column-high.ensures.value in
    on-ok c.say.result
    (λ p. drawn-three c.args.row
    (λ r. put r (pos a.left) edit_text a.left (end_column a))
    (put_in a 15 divider_text)
    (say_in a 19 (message_text c.args.message.now ∷ []))
    _ _ _ _ c.requires.row
    (rw (end, c.edit_text.ensures) at c.in_ok-draw_piece.ensures.ok)
    (rw (end, c.divider_text.ensures) at c.in_ok-draw_piece-2.ensures.ok)
    (rw (end, c.message_text.ensures) at p))
    c.say.ensures.ok
