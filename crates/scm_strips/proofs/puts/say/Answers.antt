use Rattle.std.proofs.Common.{◌∙◌, ◌∷◌, []}
use Rattle.std.specs.Prelude.{pos}
use Rattle.scm_render.specs.Rows.{say_texts}
use Rattle.scm_strips.proofs.RowLemmas.{called, on-ok, one-text, row-after, row-end}
use Rattle.scm_strips.proofs.TextLemmas.{reached-one}
use Rattle.scm_strips.proofs.puts.say.Goals as goal

pub returns-clause-ok : goal.returns-clause-ok
returns-clause-ok c =
    on-ok c.put_end.result
    (λ p. called c.args.row (λ r. say_texts r (pos c.args.column) (c.args.text.now ∷ []) c.args.low c.args.high) _ _ _ c.add_call.ensures
    (row-end _ _ _ _ _ _ (c.args.text.now ∷ []) _ _ (row-after _ _ _ c.requires.row c.add_call.ensures)
    (c.in_ok-end.ensures.ok ∙ one-text _ _ _ _ _ _) (reached-one _ _ _ c.args.text.now c.in_ok-end.ensures.end) p))
    c.put_end.ensures.ok
