use Rattle.std.proofs.Common.{is_some, sym, ap, ◌∙◌}
use Rattle.scm_c_values.proofs.QuestionLemmas.{no_side_code}
use Rattle.scm_c_values.proofs.states.tell_side_at.Goals as goal

pub returns-in-None-clause-code : goal.returns-in-None-clause-code
returns-in-None-clause-code c =
    no_side_code c.args.file c.args.selected c.args.state.now c.as_slice.result.now
    c.as_slice.ensures (sym c.get.ensures.lookup.0 ∙ ap is_some c.in-None.is)
