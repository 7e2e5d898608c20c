use Rattle.std.proofs.Common.{sym}
use Rattle.scm_selection.specs.Toggle.{with_line_alone_inverted}
use Rattle.scm_types.proofs.EditLemmas.{slice_set-changed, modify-past}
use Rattle.scm_selection.proofs.toggles.invert_line_alone.Goals as goal

pub returns-then-key-files : goal.returns-then-key-files
returns-then-key-files c =
    let key = c.args.key in
    slice_set-changed (with_line_alone_inverted key.section_idx key.line_idx) c.args.files.now key.file_idx c.index-files-key.result _ c.if-key-files.true c.invert_line_in.ensures

pub returns-else-key-files : goal.returns-else-key-files
returns-else-key-files c =
    let key = c.args.key in
    sym (modify-past (with_line_alone_inverted key.section_idx key.line_idx) c.args.files.now key.file_idx c.if-key-files.false)
