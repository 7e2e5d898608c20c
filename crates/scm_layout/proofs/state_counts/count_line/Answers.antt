use Rattle.std.proofs.Common.{◌∙◌, get_or, ap}
use Rattle.scm_selection.specs.Toggle.{with_line_toggled}
use Rattle.scm_layout.proofs.FilesLemmas.{before-within, counts-past, counts-set, counts-within, toggled-at}
use Rattle.scm_layout.proofs.state_counts.count_line.Goals as goal

pub bounds-counts-key : goal.bounds-counts-key
bounds-counts-key c =
    let h = c.requires in
    let key = c.args.key in
    counts-within c.args.counts.now c.args.files.now h.before (with_line_toggled key.section_idx key.line_idx) key.file_idx h.is_counted h.after c.if-key-files.true

pub count_line-requires : goal.count_line-requires
count_line-requires c =
    let h = c.requires in
    let key = c.args.key in
    let i = key.file_idx in
    let d = c.index-counts-key.result in
    let g = c.index-files-key.result in
    toggled-at h.before i key.section_idx key.line_idx c.args.checked d _ g (before-within c.args.files.now h.before (with_line_toggled key.section_idx key.line_idx) i h.after c.if-key-files.true) h.mark
    (ap (λ cs. get_or cs i d) h.is_counted) (c.index-files-key.is ∙ ap (λ fs. get_or fs i g) h.after) h.fits

pub returns-then-key-files : goal.returns-then-key-files
returns-then-key-files c =
    let h = c.requires in
    let key = c.args.key in
    counts-set c.args.counts.now c.args.files.now h.before (with_line_toggled key.section_idx key.line_idx) key.file_idx _ c.index-files-key.result h.is_counted h.after c.if-key-files.true c.index-files-key.is c.count_line.ensures

pub returns-else-key-files : goal.returns-else-key-files
returns-else-key-files c =
    let h = c.requires in
    let key = c.args.key in
    counts-past c.args.counts.now c.args.files.now h.before (with_line_toggled key.section_idx key.line_idx) key.file_idx h.is_counted h.after c.if-key-files.false
