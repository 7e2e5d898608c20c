use Rattle.std.proofs.Common.{rules, ◌∙◌, ap, List, ℕ, FitsSigned, w64}
use Rattle.std.specs.Prelude.{ℤ}
use Rattle.std.proofs.lemmas.Int.{to_z-of_z}
use Rattle.scm_render.specs.Canvas.{Sight, under}
use Rattle.scm_render.proofs.PictureLemmas.{PictureInRange-left, PictureInRange-right}
use Rattle.scm_widgets.specs.Boxes.{IdBox}
use Rattle.scm_document.specs.Titles.{title_text}
use Rattle.scm_widgets.specs.Pictures.{IdPicture, fold_column}
use Rattle.scm_document.specs.Pictures.{heading_width, heading_mask, title_picture, heading_picture}
use Rattle.scm_render.proofs.StepLemmas.{step, masked, sight-after, InRange-fits}
use Rattle.scm_document.proofs.HeadingLemmas.{heading-fold, heading-mask}
use Rattle.scm_document.proofs.CountLemmas.{on_row-then}
use Rattle.scm_document.proofs.heading.draw_heading.Goals as goal

-- what is drawn before the box of the fold
abbrev before : IdBox → List ℕ → ℕ → ℤ → ℤ → Sight → IdPicture
before b t n x y s = title_picture b t n s x y

pub show_box-requires : goal.show_box-requires
unfolding heading_picture
show_box-requires c =
    let fits : FitsSigned w64 (fold_column c.args.viewport.now.canvas.sight) = InRange-fits _ (heading-fold _ _ _ _ c.requires) in
    rw c.fold_column-fold_x.ensures.column (simp (to_z-of_z, c.ranges.x, c.ranges.y, fits) (PictureInRange-left _ _ c.requires))

pub swap_mask-outer-requires : goal.swap_mask-outer-requires
swap_mask-outer-requires c =
    let fits : FitsSigned w64 (fold_column c.args.viewport.now.canvas.sight) = InRange-fits _ (heading-fold _ _ _ _ c.requires) in
    let width = simp (to_z-of_z, c.ranges.x, c.ranges.y, fits) at (rw c.fold_column-fold_x.ensures.column at c.gap-width.ensures) in
    rw width (simp (to_z-of_z, c.ranges.x, c.ranges.y, fits) (heading-mask _ _ _ _ c.requires))

pub draw_before_fold-requires : goal.draw_before_fold-requires
unfolding heading_picture
draw_before_fold-requires c =
    let fx : FitsSigned w64 c.args.x = c.ranges.x in
    let fy : FitsSigned w64 c.args.y = c.ranges.y in
    let column = c.fold_column-fold_x.ensures.column in
    let fits : FitsSigned w64 (fold_column c.args.viewport.now.canvas.sight) = InRange-fits _ (heading-fold _ _ _ _ c.requires) in
    let width = simp to_z-of_z at (rw column at c.gap-width.ensures) in
    let fold = simp to_z-of_z at (rw column at c.in_ok-show_box.ensures.ok) in
    let set = simp to_z-of_z at (rw width at c.swap_mask-outer.ensures.new) in
    let sight = ap (λ v. v.sight) set ∙ ap (λ s. under (heading_mask c.args.viewport.now.canvas.sight c.args.x c.args.y) s) (sight-after _ _ _ fold) in
    rw (width, sight) (simp to_z-of_z (PictureInRange-right _ _ c.requires))

pub returns : goal.returns
unfolding heading_picture
returns c =
    let fx : FitsSigned w64 c.args.x = c.ranges.x in
    let fy : FitsSigned w64 c.args.y = c.ranges.y in
    let s = c.args.viewport.now.canvas.sight in
    let column = c.fold_column-fold_x.ensures.column in
    let fits : FitsSigned w64 (fold_column s) = InRange-fits _ (heading-fold _ _ _ _ c.requires) in
    let width = simp to_z-of_z at (rw column at c.gap-width.ensures) in
    record {
      ok =
          let fold = simp to_z-of_z at (rw column at c.in_ok-show_box.ensures.ok) in
          let set = simp to_z-of_z at (rw width at c.swap_mask-outer.ensures.new) in
          let drawn = simp to_z-of_z at (rw width at c.in_ok-draw_before_fold.ensures.ok) in
          let back = rw c.swap_mask-outer.ensures.old at c.swap_mask.ensures.new in
          let mask = heading_mask s c.args.x c.args.y in
          step _ _ _ _ (λ t. before c.args.toggle_box.now (title_text c.args.title.now) (heading_width s c.args.x) c.args.x c.args.y (under mask t)) fold
          (masked _ _ _ _ mask (before c.args.toggle_box.now (title_text c.args.title.now) (heading_width s c.args.x) c.args.x c.args.y) set drawn back);
      counts =
          let fold = simp to_z-of_z at c.in_ok-show_box.ensures.counts in
          let before = simp to_z-of_z at c.in_ok-draw_before_fold.ensures.counts in
          c.swap_mask.ensures.counts
          ∙ on_row-then _ _ _ _ _ _ _ _ (ap (λ v. v.sight.rect) c.swap_mask-outer.ensures.new ∙ c.in_ok-show_box.ensures.rect) (c.swap_mask-outer.ensures.counts ∙ fold) before;
      rect = search rules;
      err = search rules;
    }
