use Rattle.std.proofs.Common.{arith, [], ◌∷◌}
use Rattle.scm_embed.specs.Additions.{with_more_context}
use Rattle.scm_embed.proofs.LastLemmas.{changed_if}
use Rattle.scm_embed.proofs.add_line.extend_last_context.Goals as goal

pub returns-then-last-sections-clause-ok : goal.returns-then-last-sections-clause-ok
returns-then-last-sections-clause-ok c =
    changed_if c.extend_context.result (with_more_context (c.args.line ∷ [])) c.args.sections.now c.saturating_sub-last.result _ c.index-sections-last.result c.extend_context.new.section
    (omega (arith, c.saturating_sub-last.ensures)) c.if-last-sections.true c.extend_context.ensures.ok
