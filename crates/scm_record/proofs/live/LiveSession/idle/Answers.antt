use Rattle.std.proofs.Common.{refl, []}
use Rattle.std.specs.Prelude.{None}
use Rattle.scm_record.proofs.TypedLemmas.{hands-none}
use Rattle.scm_record.proofs.live.LiveSession.idle.Goals as goal

pub returns-in-None-clause-ok : goal.returns-in-None-clause-ok
returns-in-None-clause-ok c = record {
  event = None;
  tells = c.in-None.ensures;
  hands_in = hands-none c.args.self [] refl;
}
