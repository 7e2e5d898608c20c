use Rattle.scm_preview.proofs.AcceptLemmas.{fails_by_memory, shown_is_accepted}
use Rattle.scm_preview.proofs.laws.accepting_gives_what_is_shown.Goals as goal

pub returns : goal.returns
returns c = record {
  leads = λ l can. shown_is_accepted l can;
  fails = λ l can. fails_by_memory l can;
}
