use Rattle.std.proofs.Common.{◌∙◌, get_or, ap}
use Rattle.scm_layout.proofs.FilesLemmas.{before-within, changed-at, counts-past, counts-set, counts-within}
use Rattle.scm_layout.proofs.state_counts.recount_file.Goals as goal

pub bounds-counts-index : goal.bounds-counts-index
bounds-counts-index c =
    let h = c.requires in
    counts-within c.args.counts.now c.args.files.now h.before h.change c.args.index h.is_counted h.after c.if-index-files.true

pub recount-requires : goal.recount-requires
recount-requires c =
    let h = c.requires in
    let i = c.args.index in
    let d = c.index-counts-index.result in
    let g = c.index-files-index.result in
    changed-at h.before h.change i d _ g (before-within c.args.files.now h.before h.change i h.after c.if-index-files.true) h.same
    (ap (λ cs. get_or cs i d) h.is_counted) (c.index-files-index.is ∙ ap (λ fs. get_or fs i g) h.after) h.fits

pub returns-then-index-files : goal.returns-then-index-files
returns-then-index-files c =
    let h = c.requires in
    counts-set c.args.counts.now c.args.files.now h.before h.change c.args.index _ c.index-files-index.result h.is_counted h.after c.if-index-files.true c.index-files-index.is c.recount.ensures

pub returns-else-index-files : goal.returns-else-index-files
returns-else-index-files c =
    let h = c.requires in
    counts-past c.args.counts.now c.args.files.now h.before h.change c.args.index h.is_counted h.after c.if-index-files.false
