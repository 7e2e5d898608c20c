use Rattle.std.proofs.Common.{refl}
use Rattle.scm_front.proofs.UndoLemmas.{later-recalls, recalls-click, recalls-event, recalls-range, redo-undo, undo-click, undo-recalled, undo-event, undo-range, undo-redo}
use Rattle.scm_front.proofs.laws.undos_restore_marks.Goals as goal

pub returns : goal.returns
returns c = record {
  event = λ f g h event calls more does changed undo said. undo-event f g h event calls more does changed undo said;
  range = λ f g h calls more does changed undo said. undo-range f g h calls more does changed undo said;
  click = λ f g h row column calls more does changed undo said. undo-click f g h row column calls more does changed undo said;
  recalls_event = λ f g event calls does changed. recalls-event f g event calls does changed;
  recalls_range = λ f g calls does changed. recalls-range f g calls does changed;
  recalls_click = λ f g row column calls does changed. recalls-click f g row column calls does changed;
  later = λ before f g action calls h does no m. later-recalls before does no g refl m h;
  undo = λ before f g calls h undo said. undo-recalled before f g calls h undo said;
  redo = λ f g h calls more undo said redo told. redo-undo f g h calls more undo said redo told;
  again = λ f g h calls more redo said undo told. undo-redo f g h calls more redo said undo told;
}
