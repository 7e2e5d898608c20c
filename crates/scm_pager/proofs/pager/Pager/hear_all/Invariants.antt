use Rattle.std.proofs.Common.{◌≡◌, drop}
use Rattle.scm_pager.specs.Heard.{heard_all}
use Rattle.scm_pager.proofs.pager.Pager.hear_all.Given as goal

-- the events that are left
abbrev pub invariant-loop-event : goal.invariant-loop-event
invariant-loop-event l = heard_all l.counts l.width l.height l.pager (drop l.event-index l.events) ≡ heard_all l.counts l.width l.height l.fn.self l.events
