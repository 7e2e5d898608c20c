use Rattle.scm_embed.proofs.MarkedLemmas.{kept_if_not, set_if_fit}
use Rattle.scm_embed.proofs.laws.marks_are_those_handed_in.Goals as goal

pub returns : goal.returns
returns c = record {
  set = λ i bytes state fits. set_if_fit i bytes state fits;
  kept = λ i bytes state not_fit. kept_if_not i bytes state not_fit;
}
