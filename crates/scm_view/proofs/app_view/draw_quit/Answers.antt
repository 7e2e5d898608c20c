use Rattle.std.proofs.Common.{rules, sym}
use Rattle.scm_render.proofs.CanvasLemmas.{with_picture-nothing}
use Rattle.scm_render.proofs.CountLemmas.{added-none}
use Rattle.scm_view.proofs.app_view.draw_quit.Goals as goal

pub returns-in-None : goal.returns-in-None
returns-in-None c =
    record {
      ok = rw c.in-None.is (sym (with_picture-nothing _));
      counts = rw c.in-None.is (sym (added-none _));
      rect = search rules;
      err = search rules;
    }
