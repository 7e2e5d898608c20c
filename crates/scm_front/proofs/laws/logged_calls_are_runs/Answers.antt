use Rattle.scm_front.proofs.LoggingLemmas.{logs-path}
use Rattle.scm_front.proofs.laws.logged_calls_are_runs.Goals as goal

pub returns : goal.returns
returns c = record {
  path = λ log turn h. logs-path h.leads;
  runs = λ log turn h. c.sessions_are_runs.ensures.all h.given log.kind h.calls turn h.accepted (logs-path h.leads);
  kept = λ log state h. c.sessions_are_runs.ensures.kept h.given log.kind h.calls state h.accepted (logs-path h.leads);
}
