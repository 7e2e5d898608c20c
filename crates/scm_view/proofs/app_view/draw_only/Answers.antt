use Rattle.std.proofs.Common.{rules}
use Rattle.std.proofs.lemmas.Int.{to_z-of_z}
use Rattle.scm_view.proofs.app_view.draw_only.Goals as goal

pub draw_under-requires-clause-picture : goal.draw_under-requires-clause-picture
draw_under-requires-clause-picture c =
    let mask = simp (to_z-of_z, c.ranges.x) at c.view_mask-mask.ensures.mask in
    rw mask (simp (to_z-of_z, c.ranges.x) c.requires.picture)

pub returns : goal.returns
returns c =
    let mask = simp (to_z-of_z, c.ranges.x) at c.view_mask-mask.ensures.mask in
    record {
      ok = rw mask at (simp (to_z-of_z, c.ranges.x) at c.draw_under.ensures.ok);
      counts = rw mask at c.draw_under.ensures.counts;
      rect = search rules;
      err = search rules;
    }
