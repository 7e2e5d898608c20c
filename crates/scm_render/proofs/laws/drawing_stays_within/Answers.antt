use Rattle.scm_render.proofs.BoundLemmas as bounds
use Rattle.scm_render.proofs.laws.drawing_stays_within.Goals as goal

pub returns : goal.returns
returns g c = record {
  in_range = bounds.PictureInRange-within;
  nothing = bounds.PictureWithin-nothing;
  followed = bounds.PictureWithin-followed;
  parts = bounds.PictureWithin-part;
  covers = bounds.covering-within;
  spans = bounds.span-within;
  lines = bounds.line-within;
  texts = bounds.text-within;
  blanks = bounds.blank-within;
  frames = bounds.frame-within;
  masks = bounds.SightWithin-under;
}
