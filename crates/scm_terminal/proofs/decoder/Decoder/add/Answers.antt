use Rattle.scm_terminal.proofs.HeardLemmas.{on_err, front_more}
use Rattle.scm_terminal.proofs.decoder.Decoder.add.Goals as goal

pub returns-in_err-add_to-clause-err : goal.returns-in_err-add_to-clause-err
returns-in_err-add_to-clause-err c =
    on_err c.from_residual.result _ (front_more _ _ _ _ c.loop-byte.invariant.is c.in_err-add_to.ensures.err)
