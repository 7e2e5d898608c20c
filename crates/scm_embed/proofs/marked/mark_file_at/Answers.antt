use Rattle.std.proofs.Common.{sym}
use Rattle.scm_types.proofs.EditLemmas.{modify-past, slice_set-changed}
use Rattle.scm_embed.specs.Marked.{marked_file}
use Rattle.scm_embed.proofs.marked.mark_file_at.Goals as goal

pub returns-then-index-files : goal.returns-then-index-files
returns-then-index-files c =
    slice_set-changed (marked_file c.args.marks.now) c.args.files.now c.args.index c.index-files-index.result _ c.if-index-files.true c.mark_file.ensures

pub returns-else-index-files : goal.returns-else-index-files
returns-else-index-files c = sym (modify-past (marked_file c.args.marks.now) c.args.files.now c.args.index c.if-index-files.false)
