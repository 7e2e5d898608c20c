use Rattle.std.proofs.Common.{◌≡◌, ◌==◌, true, false, arith, List, ℕ, FitsSigned, w64}
use Rattle.std.specs.Prelude.{ℤ, pos, ◌+ℤ◌}
use Rattle.std.proofs.lemmas.Bool.Decides.{nat_tests}
use Rattle.std.proofs.lemmas.Int.{to_z-of_z}
use Rattle.scm_render.specs.Canvas.{Sight}
use Rattle.scm_render.specs.Drawing.{span_picture}
use Rattle.scm_render.proofs.PictureLemmas.{PictureInRange-left, PictureInRange-right}
use Rattle.scm_render.proofs.StepLemmas.{rest, span-place, InRange-fits}
use Rattle.scm_widgets.specs.Pictures.{IdPicture, blank_rest}
use Rattle.scm_document.specs.Pictures.{row_picture}
use Rattle.scm_document.specs.Rows.{DotsRow}
use Rattle.scm_document.specs.Texts.{dots_text}
use Rattle.scm_document.proofs.CallLemmas.{begun, covered}
use Rattle.scm_document.proofs.section_view.SectionView.draw_gap.Goals as goal

abbrev dots : List ℕ → ℤ → ℤ → Sight → IdPicture
dots t x y s = span_picture s (x +ℤ pos 6) y t

pub show_blank_rest-requires : goal.show_blank_rest-requires
unfolding row_picture
show_blank_rest-requires c =
    let none : (c.args.count == 0) ≡ true = grind (arith, nat_tests, c.if-count-eq0.true) in
    rw c.begin_row.ensures.canvas (simp (to_z-of_z, c.ranges.x, c.ranges.y) (rw none at c.requires))

pub returns-in_ok-show_blank_rest : goal.returns-in_ok-show_blank_rest
unfolding row_picture
returns-in_ok-show_blank_rest c =
    let none : (c.args.count == 0) ≡ true = grind (arith, nat_tests, c.if-count-eq0.true) in
    rw none (begun (λ s. blank_rest s c.args.x c.args.y) _ _ _ c.begin_row.ensures.canvas (simp (to_z-of_z, c.ranges.y) at c.begin_row.ensures.counts) (simp (to_z-of_z, c.ranges.x, c.ranges.y) at c.in_ok-show_blank_rest.ensures))

pub cover_rest-requires : goal.cover_rest-requires
unfolding row_picture
cover_rest-requires c =
    let some : (c.args.count == 0) ≡ false = grind (arith, nat_tests, c.if-count-eq0.false) in
    rw c.begin_row.ensures.canvas (simp (to_z-of_z, c.ranges.x, c.ranges.y) (PictureInRange-left _ _ (rw some at c.requires)))

pub overflow_add-x : goal.overflow_add-x
unfolding row_picture
overflow_add-x c =
    let some : (c.args.count == 0) ≡ false = grind (arith, nat_tests, c.if-count-eq0.false) in
    simp (to_z-of_z, c.ranges.x) (InRange-fits _ (span-place _ _ _ _ (PictureInRange-right _ _ (rw some at c.requires))).0)

pub show_span-requires : goal.show_span-requires
unfolding row_picture
show_span-requires c =
    let some : (c.args.count == 0) ≡ false = grind (arith, nat_tests, c.if-count-eq0.false) in
    let all = rw some at c.requires in
    let fits : FitsSigned w64 (c.args.x +ℤ pos 6) = InRange-fits _ (span-place _ _ _ _ (PictureInRange-right _ _ all)).0 in
    let cover = rw c.begin_row.ensures.canvas at (simp (to_z-of_z, c.ranges.x, c.ranges.y) at c.cover_rest.ensures.new) in
    rw c.dots_text.ensures (simp (to_z-of_z, c.ranges.x, c.ranges.y, fits) (rest _ _ _ (dots _ c.args.x c.args.y) cover all))

pub returns-in_ok-show_span : goal.returns-in_ok-show_span
unfolding row_picture
returns-in_ok-show_span c =
    let fx : FitsSigned w64 c.args.x = c.ranges.x in
    let fy : FitsSigned w64 c.args.y = c.ranges.y in
    let some : (c.args.count == 0) ≡ false = grind (arith, nat_tests, c.if-count-eq0.false) in
    let fits : FitsSigned w64 (c.args.x +ℤ pos 6) = InRange-fits _ (span-place _ _ _ _ (PictureInRange-right _ _ (rw some at c.requires))).0 in
    let t = dots_text c.args.self.now.use_unicode in
    rw some (begun (λ s. row_picture (DotsRow t) s c.args.x c.args.y) _ _ _ c.begin_row.ensures.canvas (simp to_z-of_z at c.begin_row.ensures.counts)
    (covered _ (dots t c.args.x c.args.y) _ _ (simp to_z-of_z at c.cover_rest.ensures.new) c.cover_rest.ensures.counts c.cover_rest.ensures.rect
    (rw c.dots_text.ensures at (simp to_z-of_z at c.in_ok-show_span.ensures))))
