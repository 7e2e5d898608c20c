use Rattle.std.proofs.Common.{arith}
use Rattle.scm_embed.specs.Additions.{file_after_part}
use Rattle.scm_embed.proofs.LastLemmas.{changed_if, file_changed}
use Rattle.scm_embed.proofs.add.add_to_last.Goals as goal

pub returns-then-last-files-clause-ok : goal.returns-then-last-files-clause-ok
returns-then-last-files-clause-ok c =
    changed_if c.add_part.result (file_after_part c.args.part) c.args.files.now c.saturating_sub-last.result _ c.index-files-last.result _
    (omega (arith, c.saturating_sub-last.ensures)) c.if-last-files.true (file_changed c.add_part.result c.args.part _ c.add_part.new.sections c.add_part.ensures.ok)
