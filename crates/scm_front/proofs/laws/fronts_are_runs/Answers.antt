use Rattle.std.proofs.Common.{subst}
use Rattle.scm_record.specs.LiveCalls.{Path}
use Rattle.scm_record.specs.declared.live.Turn.{Turn}
use Rattle.scm_record.specs.declared.live.Turn.TheVariants.{Accepted}
use Rattle.scm_front.specs.Fronts.{beneath_of}
use Rattle.scm_front.proofs.FrontLemmas.{front-path}
use Rattle.scm_front.proofs.laws.fronts_are_runs.Goals as goal

pub returns : goal.returns
returns c = record {
  path = λ turn last inputs calls d. front-path d;
  runs = λ given kind turn last inputs calls accepted e d.
      c.sessions_are_runs.ensures.all given kind calls (beneath_of last) accepted
      (subst (λ (t : Turn). Path t calls (beneath_of last)) e (front-path d));
  kept = λ given state kind turn last inputs calls accepted e d f.
      c.sessions_are_runs.ensures.kept given kind calls state accepted
      (subst (λ (t : Turn). Path t calls (Accepted state)) e (subst (λ (t : Turn). Path (beneath_of turn) calls t) f (front-path d)));
}
