use Rattle.scm_render.proofs.DrawLemmas as draw
use Rattle.scm_render.proofs.laws.calls_have_rects.Goals as goal

pub returns : goal.returns
returns g c = record {
  spans = draw.span_in_range;
  lines = draw.line_in_range;
  texts = λ s x y ts r. draw.line_in_range s x y ts (draw.text_picture-line s x y ts r);
  blanks = draw.blank_in_range;
  frames = draw.frame_in_range;
}
