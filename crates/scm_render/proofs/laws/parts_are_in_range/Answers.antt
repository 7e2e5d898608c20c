use Rattle.scm_render.proofs.PictureLemmas as pictures
use Rattle.scm_render.proofs.StepLemmas as steps
use Rattle.scm_render.proofs.laws.parts_are_in_range.Goals as goal

pub returns : goal.returns
returns g c = record {
  none = pictures.PictureInRange-nothing;
  both = pictures.PictureInRange-followed;
  whole = pictures.PictureInRange-as_part;
  inner = pictures.PictureInRange-part;
  first = pictures.PictureInRange-left;
  second = pictures.PictureInRange-right;
  rest = steps.rest;
  next = steps.left-part;
}
