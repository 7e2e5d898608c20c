use Rattle.scm_record.proofs.TypedLemmas.{driven-path, driven-runs, driven-means, chunks-hand-in}
use Rattle.scm_record.proofs.live.typed.typed_sessions_are_runs.Goals as goal

pub returns : goal.returns
returns c = record {
  path = λ decoder turn last inputs calls d. driven-path d;
  runs = λ given kind decoder inputs calls last accepted d. driven-runs given kind decoder inputs calls last accepted d;
  means = λ decoder start heard turn last inputs calls h d. driven-means start heard h d;
  cut = λ decoder l chunks calls last h d. chunks-hand-in decoder l chunks calls last h d;
}
