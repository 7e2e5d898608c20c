use Rattle.std.proofs.Common.{◌≡◌, ◌∙◌, ◌<◌, length, get_or, ap, arith}
use Rattle.std.proofs.lemmas.List.{length-map, take_all}
use Rattle.scm_types.specs.declared.file.File.{File}
use Rattle.scm_layout.specs.declared.file_counts.FileCounts.{FileCounts}
use Rattle.scm_layout.specs.Counts.{file_counts}
use Rattle.scm_layout.specs.Recounts.{zipped}
use Rattle.scm_layout.proofs.FilesLemmas.{counts-at, length-before}
use Rattle.scm_layout.proofs.ZipLemmas.{zipped-at, zipped-map, zipped-more}
use Rattle.scm_layout.proofs.state_counts.recount_files.Goals as goal

pub bounds-counts-index : goal.bounds-counts-index
bounds-counts-index c =
    let h = c.requires in
    let files = c.args.files.now in
    let same : length h.before ≡ length files = length-before h.before files h.same in
    let counted : length c.args.counts.now ≡ length h.before = ap (λ cs. length cs) h.is_counted ∙ length-map h.before file_counts in
    omega arith

pub recount-requires : goal.recount-requires
recount-requires c =
    let h = c.requires in
    let i = c.loop-index.index in
    let d = c.index-counts-index.result in
    let files = c.args.files.now in
    counts-at h.before files i d _ c.index-files-index.result c.loop-index-test.true h.same
    (zipped-at (λ (e : FileCounts) (f : File). file_counts f) c.args.counts.now c.loop-index.counts files i d c.loop-index.invariant ∙ ap (λ cs. get_or cs i d) h.is_counted)
    c.index-files-index.is h.fits

pub loop-index-preserved : goal.loop-index-preserved
loop-index-preserved c =
    let h = c.requires in
    let files = c.args.files.now in
    let same : length h.before ≡ length files = length-before h.before files h.same in
    let counted : length c.args.counts.now ≡ length h.before = ap (λ cs. length cs) h.is_counted ∙ length-map h.before file_counts in
    let within : c.loop-index.index < length c.args.counts.now = omega arith in
    zipped-more (λ (e : FileCounts) (f : File). file_counts f) c.args.counts.now c.loop-index.counts files c.loop-index.index c.index-counts-index.result _ c.index-files-index.result
    within c.loop-index-test.true c.loop-index.invariant c.index-files-index.is c.recount.ensures

pub returns : goal.returns
returns c =
    let h = c.requires in
    let files = c.args.files.now in
    let same : length h.before ≡ length files = length-before h.before files h.same in
    let counted : length c.args.counts.now ≡ length h.before = ap (λ cs. length cs) h.is_counted ∙ length-map h.before file_counts in
    c.loop-index.invariant
    ∙ ap (λ fs. zipped (λ (e : FileCounts) (f : File). file_counts f) c.args.counts.now fs) (take_all c.loop-index.index files c.loop-index-test.false)
    ∙ zipped-map file_counts c.args.counts.now files (counted ∙ same)
