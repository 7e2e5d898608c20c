use Rattle.std.proofs.Common.{◌≡◌, ◌+◌, ◌++◌, drop, sym}
use Rattle.scm_front_paint.specs.Headings.{labels_from, labels_in}
use Rattle.scm_front_paint.proofs.HeadingLemmas.{files-end, files-next, gains-all, gains-more, gains-some}
use Rattle.scm_cells.proofs.WrittenLemmas.{on_err}
use Rattle.scm_front_paint.proofs.headings.push_labels.Goals as goal

pub returns-in_err-push_labels_in-clause-some : goal.returns-in_err-push_labels_in-clause-some
returns-in_err-push_labels_in-clause-some c =
    let l = c.loop-index in
    let files = c.args.files.now in
    let file = c.index-files-index.result in
    let next : labels_from l.index (drop l.index files) ≡ labels_in l.index c.as_slice.result.now ++ labels_from (l.index + 1) (drop (l.index + 1) files) =
    rw (c.as_slice.ensures) (rw (sym c.index-files-index.is) at (files-next files l.index file c.loop-index-test.true)) in
    on_err c.from_residual.result
    (gains-some (labels_from 0 files) (labels_from l.index (drop l.index files)) c.args.labels.now l.labels c.push_labels_in.new.labels
    (labels_in l.index c.as_slice.result.now) (labels_from (l.index + 1) (drop (l.index + 1) files)) l.invariant next c.in_err-push_labels_in.ensures.some)

pub loop-index-preserved : goal.loop-index-preserved
loop-index-preserved c =
    let l = c.loop-index in
    let files = c.args.files.now in
    let file = c.index-files-index.result in
    let next : labels_from l.index (drop l.index files) ≡ labels_in l.index c.as_slice.result.now ++ labels_from (l.index + 1) (drop (l.index + 1) files) =
    rw (c.as_slice.ensures) (rw (sym c.index-files-index.is) at (files-next files l.index file c.loop-index-test.true)) in
    gains-more (labels_from 0 files) (labels_from l.index (drop l.index files)) c.args.labels.now l.labels c.push_labels_in.new.labels
    (labels_in l.index c.as_slice.result.now) (labels_from (l.index + 1) (drop (l.index + 1) files)) l.invariant next c.in_ok-push_labels_in.ensures.ok

pub returns-clause-ok : goal.returns-clause-ok
returns-clause-ok c =
    let l = c.loop-index in
    let files = c.args.files.now in
    gains-all (labels_from 0 files) (labels_from l.index (drop l.index files)) c.args.labels.now l.labels l.invariant
    (files-end files l.index c.loop-index-test.false)
