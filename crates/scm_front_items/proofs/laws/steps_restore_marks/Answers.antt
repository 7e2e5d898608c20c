use Rattle.scm_front_items.proofs.BackLemmas.{back-restores}
use Rattle.scm_front_items.proofs.DeedRunLemmas.{deeds-restore, inverted-restores, range-restores, set-restores}
use Rattle.scm_front_items.proofs.ToggleRunLemmas.{toggle-restores}
use Rattle.scm_front_items.proofs.laws.steps_restore_marks.Goals as goal

pub returns : goal.returns
returns c = record {
  toggle = λ files key. toggle-restores files key;
  inverted = λ files. inverted-restores files;
  set = λ files. set-restores files;
  deeds = λ files deeds first last h. deeds-restore files deeds first last h;
  range = λ files a b mark. range-restores files a b mark;
  back = λ files step. back-restores files step;
}
