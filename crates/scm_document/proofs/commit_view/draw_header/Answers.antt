use Rattle.std.proofs.lemmas.Int.{to_z-of_z}
use Rattle.scm_document.specs.Rows.{shown_file}
use Rattle.scm_document.specs.Pictures.{row_picture, header_picture}
use Rattle.scm_document.proofs.SectionsLemmas.{header-fits}
use Rattle.scm_document.proofs.commit_view.draw_header.Goals as goal

pub rest_mask-row-requires-clause-x : goal.rest_mask-row-requires-clause-x
rest_mask-row-requires-clause-x c =
    simp (to_z-of_z, c.ranges.x) (header-fits (shown_file c.args.file.now) _ _ _ c.requires).0

pub rest_mask-row-requires-clause-y : goal.rest_mask-row-requires-clause-y
rest_mask-row-requires-clause-y c =
    simp (to_z-of_z, c.ranges.y) (header-fits (shown_file c.args.file.now) _ _ _ c.requires).1

pub rest_mask-row-requires-clause-end : goal.rest_mask-row-requires-clause-end
rest_mask-row-requires-clause-end c =
    simp (to_z-of_z, c.ranges.y) (header-fits (shown_file c.args.file.now) _ _ _ c.requires).2

pub draw_under-requires-clause-picture : goal.draw_under-requires-clause-picture
unfolding row_picture header_picture shown_file
draw_under-requires-clause-picture c =
    rw (c.header-header.ensures.key, c.header-header.ensures.heading, c.rest_mask-row.ensures.mask) (simp (to_z-of_z, c.ranges.x, c.ranges.y) c.requires)

pub returns : goal.returns
unfolding row_picture header_picture shown_file
returns c =
    simp (to_z-of_z, c.ranges.x, c.ranges.y) at (rw (c.header-header.ensures.key, c.header-header.ensures.heading, c.rest_mask-row.ensures.mask) at c.draw_under.ensures)
