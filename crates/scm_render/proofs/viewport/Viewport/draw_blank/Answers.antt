use Rattle.std.proofs.Common.{rules}
use Rattle.scm_render.proofs.CountLemmas.{counted-before}
use Rattle.scm_render.proofs.viewport.Viewport.draw_blank.Goals as goal

pub returns-clause-draws : goal.returns-clause-draws
returns-clause-draws g c =
    record {
      ok = search rules;
      counts = counted-before c.add_blank.result _ _ _ _ c.count_call.ensures.counts c.add_blank.ensures.draws.counts;
      rect = search rules;
      err = search rules;
    }
