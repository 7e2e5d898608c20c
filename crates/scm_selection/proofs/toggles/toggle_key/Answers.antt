use Rattle.std.proofs.Common.{sym}
use Rattle.scm_selection.specs.Toggle.{with_file_toggled, with_line_toggled, with_section_toggled}
use Rattle.scm_types.proofs.EditLemmas.{slice_set-changed, modify-past}
use Rattle.scm_selection.proofs.toggles.toggle_key.Goals as goal

pub returns-then-key-files : goal.returns-then-key-files
returns-then-key-files c =
    let key = c.in-File.key in
    rw c.in-File.is (slice_set-changed with_file_toggled c.args.files.now key.file_idx c.index-files-key.result _ c.if-key-files.true c.toggle_file.ensures)

pub returns-else-key-files : goal.returns-else-key-files
returns-else-key-files c = rw c.in-File.is (sym (modify-past with_file_toggled c.args.files.now c.in-File.key.file_idx c.if-key-files.false))

pub returns-then-key-files-2 : goal.returns-then-key-files-2
returns-then-key-files-2 c =
    let key = c.in-Section.key in
    rw c.in-Section.is (slice_set-changed (with_section_toggled key.section_idx) c.args.files.now key.file_idx c.index-files-key-then-key-files-2.result _ c.if-key-files-2.true c.toggle_section.ensures)

pub returns-else-key-files-2 : goal.returns-else-key-files-2
returns-else-key-files-2 c =
    let key = c.in-Section.key in
    rw c.in-Section.is (sym (modify-past (with_section_toggled key.section_idx) c.args.files.now key.file_idx c.if-key-files-2.false))

pub returns-then-key-files-3 : goal.returns-then-key-files-3
returns-then-key-files-3 c =
    let key = c.in-Line.key in
    rw c.in-Line.is (slice_set-changed (with_line_toggled key.section_idx key.line_idx) c.args.files.now key.file_idx c.index-files-key-then-key-files-3.result _ c.if-key-files-3.true c.toggle_line.ensures)

pub returns-else-key-files-3 : goal.returns-else-key-files-3
returns-else-key-files-3 c =
    let key = c.in-Line.key in
    rw c.in-Line.is (sym (modify-past (with_line_toggled key.section_idx key.line_idx) c.args.files.now key.file_idx c.if-key-files-3.false))
