use Rattle.std.proofs.Common.{◌∙◌, sym, ap, FitsSigned, w64}
use Rattle.std.proofs.lemmas.Int.{to_z-of_z}
use Rattle.scm_render.specs.Canvas.{SurfaceState, with_puts}
use Rattle.scm_render.specs.Drawing.{text_puts, row_text}
use Rattle.scm_render.proofs.FillLemmas.{spaces_of}
use Rattle.scm_render.proofs.surface.Surface.fill_row.Goals as goal

pub returns-in-Blank-clause-ok : goal.returns-in-Blank-clause-ok
returns-in-Blank-clause-ok c =
    let r = c.args.rect in
    let fy : FitsSigned w64 c.args.y = c.ranges.y in
    let text = ap (λ f. row_text f r.x c.args.y r.width) c.in-Blank.is ∙ spaces_of r.x c.args.y r.width in
    simp to_z-of_z at c.put_blank.ensures ∙ ap (λ t. with_puts (text_puts r r.x c.args.y t) c.args.self.now) (sym text)

pub returns-in-Blank-clause-rect : goal.returns-in-Blank-clause-rect
unfolding with_puts
returns-in-Blank-clause-rect c = ap (λ (s : SurfaceState). s.rect) c.put_blank.ensures
