use Rattle.std.proofs.Common.{List, ℕ, FitsSigned, w64}
use Rattle.std.specs.Prelude.{ℤ, pos, ◌+ℤ◌}
use Rattle.std.proofs.lemmas.Int.{to_z-of_z}
use Rattle.scm_types.specs.declared.line.ChangeType.{ChangeType}
use Rattle.scm_render.specs.Canvas.{Sight}
use Rattle.scm_render.specs.Drawing.{text_picture}
use Rattle.scm_render.specs.Picture.{followed_by}
use Rattle.scm_render.proofs.StepLemmas.{rest}
use Rattle.scm_widgets.specs.Boxes.{IdBox}
use Rattle.scm_widgets.specs.Counts.{drawn}
use Rattle.scm_widgets.specs.Pictures.{IdPicture, box_part}
use Rattle.scm_document.specs.Pictures.{line_picture, context_picture, changed_picture}
use Rattle.scm_document.specs.Rows.{line_texts}
use Rattle.scm_document.specs.Texts.{number_text, sign_text}
use Rattle.scm_document.proofs.RowsLemmas.{line-cover}
use Rattle.scm_document.proofs.CallLemmas.{begun, covered}
use Rattle.scm_document.proofs.section_line_view.SectionLineViewComponent.draw.Goals as goal

abbrev numbered : ℕ → List ℕ → ℤ → ℤ → Sight → IdPicture
numbered n line x y s = text_picture s x y (line_texts (number_text n) line)

abbrev boxed : IdBox → ChangeType → List ℕ → ℤ → ℤ → Sight → IdPicture
boxed b t line x y s = followed_by (box_part b s x y) (text_picture s (x +ℤ pos 4) y (line_texts (sign_text t) line))

pub cover_row-requires : goal.cover_row-requires
cover_row-requires c =
    rw c.begin_row.ensures.canvas (simp (to_z-of_z, c.ranges.y) (line-cover c.args.self.now _ _ _ c.requires))

pub draw_numbered_texts-requires : goal.draw_numbered_texts-requires
unfolding line_picture context_picture
draw_numbered_texts-requires c =
    let cover = rw c.begin_row.ensures.canvas at (simp (to_z-of_z, c.ranges.x, c.ranges.y) at c.cover_row.ensures.new) in
    simp (to_z-of_z, c.ranges.x, c.ranges.y) (rest _ _ _ (numbered _ _ c.args.x c.args.y) cover (rw c.in-Unchanged.is at c.requires))

pub draw_changed_line-requires : goal.draw_changed_line-requires
unfolding line_picture changed_picture
draw_changed_line-requires c =
    let cover = rw c.begin_row.ensures.canvas at (simp (to_z-of_z, c.ranges.x, c.ranges.y) at c.cover_row.ensures.new) in
    simp (to_z-of_z, c.ranges.x, c.ranges.y) (rest _ _ _ (boxed _ _ _ c.args.x c.args.y) cover (rw c.in-Changed.is at c.requires))

pub returns-in-Unchanged : goal.returns-in-Unchanged
unfolding line_picture context_picture
returns-in-Unchanged c =
    let fx : FitsSigned w64 c.args.x = c.ranges.x in
    let fy : FitsSigned w64 c.args.y = c.ranges.y in
    rw c.in-Unchanged.is (begun (λ s. context_picture (line_texts (number_text c.in-Unchanged.line_num) c.in-Unchanged.line.now) s c.args.x c.args.y) c.args.y (drawn 1 0) (drawn 0 1) c.begin_row.ensures.canvas (simp to_z-of_z at c.begin_row.ensures.counts)
    (covered _ (numbered _ _ c.args.x c.args.y) _ _ (simp to_z-of_z at c.cover_row.ensures.new) c.cover_row.ensures.counts c.cover_row.ensures.rect (simp to_z-of_z at c.draw_numbered_texts.ensures)))

pub returns-in-Changed : goal.returns-in-Changed
unfolding line_picture changed_picture
returns-in-Changed c =
    let fx : FitsSigned w64 c.args.x = c.ranges.x in
    let fy : FitsSigned w64 c.args.y = c.ranges.y in
    rw c.in-Changed.is (begun (λ s. changed_picture c.in-Changed.toggle_box (line_texts (sign_text c.in-Changed.change_type) c.in-Changed.line.now) s c.args.x c.args.y) c.args.y (drawn 1 0) (drawn 0 2) c.begin_row.ensures.canvas (simp to_z-of_z at c.begin_row.ensures.counts)
    (covered _ (boxed _ _ _ c.args.x c.args.y) _ _ (simp to_z-of_z at c.cover_row.ensures.new) c.cover_row.ensures.counts c.cover_row.ensures.rect (simp to_z-of_z at c.draw_changed_line.ensures)))
