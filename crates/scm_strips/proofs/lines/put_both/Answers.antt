use Rattle.std.proofs.Common.{◌∙◌, ◌∷◌, []}
use Rattle.scm_strips.proofs.RowLemmas.{if-ok, on-ok, one-text, row-then}
use Rattle.scm_strips.proofs.TextLemmas.{reached-two}
use Rattle.scm_strips.proofs.lines.put_both.Goals as goal

pub returns-clause-ok : goal.returns-clause-ok
returns-clause-ok c =
    on-ok c.put_next-2.result
    (λ p. row-then _ _ _ _ _ _ _ (c.args.second.now ∷ []) _ _ c.requires.row c.in_ok-next.ensures.ok c.in_ok-next.ensures.end (p ∙ one-text _ _ _ _ _ _))
    c.put_next-2.ensures.ok

pub returns-clause-end : goal.returns-clause-end
returns-clause-end c =
    if-ok c.put_next-2.result _ _
    (λ n p. reached-two c.args.high c.args.column c.in_ok-next.next n c.args.first.now c.args.second.now c.in_ok-next.ensures.end p)
    c.put_next-2.ensures.end
