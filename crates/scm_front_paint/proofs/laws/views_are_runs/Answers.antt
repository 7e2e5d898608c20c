use Rattle.std.proofs.Common.{subst}
use Rattle.scm_record.specs.LiveCalls.{Path}
use Rattle.scm_record.specs.declared.live.Turn.{Turn}
use Rattle.scm_record.specs.declared.live.Turn.TheVariants.{Accepted}
use Rattle.scm_front.specs.Fronts.{beneath_of}
use Rattle.scm_front_paint.specs.Views.{front_turn}
use Rattle.scm_front_paint.proofs.ViewLemmas.{view-leads}
use Rattle.scm_front_paint.proofs.laws.views_are_runs.Goals as goal

pub returns : goal.returns
returns c = record {
  path = λ turn last inputs d. view-leads d;
  runs = λ given kind turn last accepted e leads.
      c.sessions_are_runs.ensures.all given kind leads.calls (beneath_of (front_turn last)) accepted
      (subst (λ (t : Turn). Path t leads.calls (beneath_of (front_turn last))) e leads.path);
  kept = λ given state kind turn last accepted e leads f.
      c.sessions_are_runs.ensures.kept given kind leads.calls state accepted
      (subst (λ (t : Turn). Path t leads.calls (Accepted state)) e (subst (λ (t : Turn). Path (beneath_of (front_turn turn)) leads.calls t) f leads.path));
}
