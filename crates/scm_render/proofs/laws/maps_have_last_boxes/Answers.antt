use Rattle.scm_render.proofs.TargetLemmas as targets
use Rattle.scm_render.proofs.laws.maps_have_last_boxes.Goals as goal

pub returns : goal.returns
returns g c = λ law. record {
  rects = λ bs made i. targets.rect_in_map _ law bs c.args.boxes.now made i;
  targets = λ y x o found. targets.target-is _ law _ c.args.boxes.now y x o found;
}
