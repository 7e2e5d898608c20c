use Rattle.std.proofs.lemmas.Int.{to_z-of_z}
use Rattle.scm_document.proofs.commit_view.rest_mask.Goals as goal

pub returns-clause-in_range : goal.returns-clause-in_range
returns-clause-in_range c =
    let end = simp (to_z-of_z, c.ranges.x, c.ranges.y) at c.to_end.ensures.in_range in
    simp (to_z-of_z, c.ranges.x, c.ranges.y) (record { x = c.requires.x; end_x = end c.requires.x; y = c.requires.y; end_y = c.requires.end })
