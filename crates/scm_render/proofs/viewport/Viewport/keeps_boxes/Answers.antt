use Rattle.std.proofs.Common.{◌∙◌, ap}
use Rattle.std.specs.Option.{is_some}
use Rattle.scm_render.proofs.CanvasLemmas.{is_some-counted}
use Rattle.scm_render.proofs.viewport.Viewport.keeps_boxes.Goals as goal

pub returns : goal.returns
returns g c = c.is_some.ensures ∙ ap is_some c.count_boxes.ensures ∙ is_some-counted c.args.self.now.canvas.boxes
