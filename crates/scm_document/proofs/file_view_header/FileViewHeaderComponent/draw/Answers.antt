use Rattle.std.proofs.lemmas.Int.{to_z-of_z}
use Rattle.scm_document.specs.Pictures.{header_picture}
use Rattle.scm_document.proofs.CallLemmas.{begun}
use Rattle.scm_document.proofs.file_view_header.FileViewHeaderComponent.draw.Goals as goal

pub draw_heading-requires : goal.draw_heading-requires
unfolding header_picture
draw_heading-requires c =
    rw c.begin_row.ensures.canvas (simp (to_z-of_z, c.ranges.x, c.ranges.y) c.requires)

pub returns : goal.returns
unfolding header_picture
returns c =
    begun (λ s. header_picture c.args.self.now s c.args.x c.args.y) _ _ _ c.begin_row.ensures.canvas (simp (to_z-of_z, c.ranges.y) at c.begin_row.ensures.counts) (simp (to_z-of_z, c.ranges.x, c.ranges.y) at c.in_ok-draw_heading.ensures)
