use Rattle.std.proofs.Common.{◌≡◌, drop}
use Rattle.scm_document.specs.SectionWalk.{visible_views}
use Rattle.scm_document.proofs.section_walk.first_visible.Given as goal

abbrev pub invariant-loop-index : goal.invariant-loop-index
invariant-loop-index l = visible_views l.is_above_open (drop l.index l.views) ≡ visible_views l.fn.before l.views
