use Rattle.std.proofs.Common.{◌-◌}
use Rattle.scm_front.specs.Scrolling.{most_scrolls}
use Rattle.scm_front.proofs.ScrollLemmas.{Scrolling}
use Rattle.scm_front.proofs.scrolling.scroll_to.Given as goal

-- what comes of the events that are left comes of all
abbrev pub invariant-scrolls : goal.invariant-scrolls
invariant-scrolls l = Scrolling l.to l.initial.session l.session (most_scrolls - l.counter)
