use Rattle.std.proofs.Common.{◌+◌, ◌-◌, arith, refl, ap}
use Rattle.scm_record.specs.declared.live.Turn.TheVariants.{Accepted, Editing}
use Rattle.scm_front.specs.Driving.{turn_of}
use Rattle.scm_front.specs.Scrolling.{most_scrolls}
use Rattle.scm_front.proofs.ScrollLemmas.{row-away, row-is, scrolling-on, scrolling-over, scrolling-there, scrolling-tired}
use Rattle.scm_front.proofs.scrolling.scroll_to.Goals as goal

pub returns-then-scroll-to-clause-ok : goal.returns-then-scroll-to-clause-ok
returns-then-scroll-to-clause-ok c =
    scrolling-there c.args.to c.args.session c.scrolls.session (most_scrolls - c.scrolls.counter) c.scrolls.invariant
    (row-is c.live.result.now c.scrolls.session c.scroll.result c.args.to c.live.ensures.value c.scroll.ensures c.if-scroll-to.true)

pub returns-in-Editing-clause-ok : goal.returns-in-Editing-clause-ok
returns-in-Editing-clause-ok c =
    scrolling-over c.args.to c.args.session c.scrolls.session (most_scrolls - c.scrolls.counter) c.scrolls.invariant
    (most_scrolls - (c.scrolls.counter + 1)) (turn_of c.in_ok-next.field-0)
    (row-away c.live.result.now c.scrolls.session c.scroll.result c.args.to c.live.ensures.value c.scroll.ensures c.if-scroll-to.false)
    (omega arith) c.in_ok-next.ensures.ok (Editing c.in-Editing.editing) (ap turn_of c.in-Editing.is) refl

pub returns-in-Accepted-clause-ok : goal.returns-in-Accepted-clause-ok
returns-in-Accepted-clause-ok c =
    scrolling-over c.args.to c.args.session c.scrolls.session (most_scrolls - c.scrolls.counter) c.scrolls.invariant
    (most_scrolls - (c.scrolls.counter + 1)) (turn_of c.in_ok-next.field-0)
    (row-away c.live.result.now c.scrolls.session c.scroll.result c.args.to c.live.ensures.value c.scroll.ensures c.if-scroll-to.false)
    (omega arith) c.in_ok-next.ensures.ok (Accepted c.in-Accepted.state) (ap turn_of c.in-Accepted.is) refl

pub scrolls-preserved : goal.scrolls-preserved
scrolls-preserved c =
    scrolling-on c.args.to c.args.session c.scrolls.session (most_scrolls - c.scrolls.counter) c.scrolls.invariant
    (most_scrolls - (c.scrolls.counter + 1)) (turn_of c.in_ok-next.field-0)
    (row-away c.live.result.now c.scrolls.session c.scroll.result c.args.to c.live.ensures.value c.scroll.ensures c.if-scroll-to.false)
    (omega arith) c.in_ok-next.ensures.ok c.in-Waiting.next (ap turn_of c.in-Waiting.is)

pub returns-clause-ok : goal.returns-clause-ok
returns-clause-ok c =
    scrolling-tired c.args.to c.args.session c.scrolls.session (most_scrolls - c.scrolls.counter) c.scrolls.invariant (omega arith)
