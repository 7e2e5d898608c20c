use Rattle.std.proofs.Common.{◌≡◌, ◌+◌, ◌++◌, drop, sym}
use Rattle.std.specs.Option.{option_to_list}
use Rattle.scm_types.specs.Marks.{is_editable_section}
use Rattle.scm_front_paint.specs.Headings.{heading_label, labels_below, labels_in}
use Rattle.scm_front_paint.proofs.HeadingLemmas.{gains-all, gains-more, labels-end, labels-next, within}
use Rattle.scm_front_paint.proofs.headings.push_labels_in.Goals as goal

pub loop-index-preserved : goal.loop-index-preserved
loop-index-preserved c =
    let l = c.loop-index in
    let sections = c.args.sections.now in
    let section = c.index-sections-index.result in
    let total = c.count_editable-total.result in
    let piece = option_to_list (heading_label c.args.file l.index (l.number + 1) total l.heading.now section) in
    let left = labels_below c.args.file total (l.index + 1) c.number_below-number.result c.heading_below-heading.result.now (drop (l.index + 1) sections) in
    let next : labels_below c.args.file total l.index l.number l.heading.now (drop l.index sections) ≡ piece ++ left =
    rw (c.number_below-number.ensures, c.heading_below-heading.ensures)
    (rw (sym c.index-sections-index.is) at (labels-next c.args.file total l.index l.number l.heading.now sections l.index section c.loop-index-test.true)) in (
      c.heading_below-heading.utf8,
      gains-more (labels_in c.args.file sections) (labels_below c.args.file total l.index l.number l.heading.now (drop l.index sections)) c.args.labels.now l.labels
          c.push_label.new.labels piece left l.invariant.1 next c.in_ok-push_label.ensures.ok,
      rw c.number_below-number.ensures (within (is_editable_section section) l.number l.index l.invariant.2),
    )

pub returns-clause-ok : goal.returns-clause-ok
returns-clause-ok c =
    let l = c.loop-index in
    let sections = c.args.sections.now in
    let total = c.count_editable-total.result in
    gains-all (labels_in c.args.file sections) (labels_below c.args.file total l.index l.number l.heading.now (drop l.index sections)) c.args.labels.now l.labels l.invariant.1
    (labels-end c.args.file total l.index l.number l.heading.now sections l.index c.loop-index-test.false)
