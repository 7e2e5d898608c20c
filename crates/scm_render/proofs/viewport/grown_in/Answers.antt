use Rattle.std.proofs.Common.{◌∙◌, sym}
use Rattle.scm_render.proofs.AroundLemmas.{around-one}
use Rattle.scm_render.proofs.viewport.grown_in.Goals as goal

pub returns-in-Some : goal.returns-in-Some
returns-in-Some g c = rw c.in-Some.is (c.grown.ensures ∙ sym (around-one c.args.area c.args.rect))
