use Rattle.scm_render.proofs.StepLemmas as steps
use Rattle.scm_render.proofs.laws.pictures_are_composed.Goals as goal

pub returns : goal.returns
returns g c = record { step = steps.step; masked = steps.masked; begun = steps.left-first; further = steps.left-more; done = steps.left-none }
