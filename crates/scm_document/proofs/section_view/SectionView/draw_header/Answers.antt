use Rattle.std.proofs.Common.{Bool, FitsSigned, w64}
use Rattle.std.specs.Prelude.{ℤ}
use Rattle.std.proofs.lemmas.Int.{to_z-of_z}
use Rattle.scm_render.specs.Canvas.{Sight}
use Rattle.scm_render.proofs.PictureLemmas.{PictureInRange-left}
use Rattle.scm_document.specs.Rows.{SectionRow, is_selected, section_heading}
use Rattle.scm_widgets.specs.Pictures.{IdPicture, highlight}
use Rattle.scm_document.specs.Pictures.{row_picture}
use Rattle.scm_render.proofs.StepLemmas.{rest}
use Rattle.scm_document.proofs.CallLemmas.{begun, then-covered}
use Rattle.scm_document.proofs.section_view.SectionView.draw_header.Goals as goal

abbrev light : Bool → ℤ → Sight → IdPicture
light b y s = highlight b s y

pub draw_heading-requires : goal.draw_heading-requires
unfolding row_picture
draw_heading-requires c =
    rw c.begin_row.ensures.canvas (simp (to_z-of_z, c.ranges.x, c.ranges.y) (PictureInRange-left _ _ c.requires))

pub highlight-requires : goal.highlight-requires
unfolding row_picture
highlight-requires c =
    let heading = rw c.begin_row.ensures.canvas at (simp (to_z-of_z, c.ranges.x, c.ranges.y) at c.in_ok-draw_heading.ensures.ok) in
    rw c.is_selected.ensures (simp (to_z-of_z, c.ranges.x, c.ranges.y) (rest _ _ _ (light (is_selected c.args.self.now) c.args.y) heading c.requires))

pub returns : goal.returns
unfolding row_picture
returns c =
    let fx : FitsSigned w64 c.args.x = c.ranges.x in
    let fy : FitsSigned w64 c.args.y = c.ranges.y in
    let v = c.args.self.now in
    begun (λ s. row_picture (SectionRow (is_selected v) (section_heading v)) s c.args.x c.args.y) _ _ _ c.begin_row.ensures.canvas (simp to_z-of_z at c.begin_row.ensures.counts)
    (then-covered _ (light (is_selected v) c.args.y) _ (simp to_z-of_z at c.in_ok-draw_heading.ensures) (rw c.is_selected.ensures at (simp to_z-of_z at c.highlight.ensures.new)) c.highlight.ensures.counts c.highlight.ensures.rect)
