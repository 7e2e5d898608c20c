use Rattle.scm_front_items.proofs.HistoryLemmas.{bounded-fits, bounded-is-fit, bounded-newest}
use Rattle.scm_front_items.proofs.laws.histories_are_bounded.Goals as goal

pub returns : goal.returns
returns c = record {
  fits = λ steps. bounded-is-fit steps;
  newest = λ steps. bounded-newest steps;
  all = λ steps e. bounded-fits steps e;
}
