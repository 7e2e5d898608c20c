use Rattle.scm_record.proofs.LiveLemmas.{session-fails, session-is-run, sessions-are-runs, sessions-keep}
use Rattle.scm_record.proofs.live.sessions_are_runs.Goals as goal

pub returns : goal.returns
returns c = record {
  one = λ given kind calls turn accepted path k. session-is-run given kind calls accepted turn k path;
  failed = λ given kind calls turn call error accepted path k ends. session-fails given kind calls accepted turn call error k path ends;
  all = λ given kind calls turn accepted path. sessions-are-runs given kind calls accepted turn path;
  kept = λ given kind calls state accepted path. sessions-keep given kind calls accepted state path;
}
