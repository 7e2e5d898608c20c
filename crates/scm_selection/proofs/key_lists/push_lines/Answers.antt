use Rattle.std.proofs.Common.{◌∙◌}
use Rattle.scm_selection.proofs.KeyListLemmas.{line_keys-more}
use Rattle.scm_selection.proofs.key_lists.push_lines.Goals as goal

pub loop-line-preserved : goal.loop-line-preserved
loop-line-preserved c =
    rw (c.in_ok-push.ensures.items, c.line_key.ensures) (line_keys-more c.loop-line.keys.items c.args.file c.args.section c.loop-line.line c.args.lines.now c.loop-line-test.true ∙ c.loop-line.invariant)
