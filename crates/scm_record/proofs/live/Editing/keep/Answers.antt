use Rattle.std.proofs.lemmas.Result.{err_from_is_err_and}
use Rattle.scm_record.proofs.LiveLemmas.{fails-memory}
use Rattle.scm_record.proofs.live.Editing.keep.Goals as goal

pub returns-in_err-text-clause-err : goal.returns-in_err-text-clause-err
returns-in_err-text-clause-err c =
    let p = err_from_is_err_and c.from_residual.result c.from_residual.ensures.1 in
    rw p.1 (λ drawn reads edits frames seen. fails-memory _ p.0 p.2)
