use Rattle.std.proofs.Common.{sym, subst, ◌∙◌}
use Rattle.scm_types.specs.declared.keys.SelectionKey.{SelectionKey}
use Rattle.scm_open_session.specs.Boxes.{box_value}
use Rattle.scm_open_session.specs.LayerCalls.{HasStart, is_view}
use Rattle.scm_open_session.specs.Layered.{folds_of}
use Rattle.scm_open_session.specs.Results.{code_where}
use Rattle.scm_c_values.proofs.CodeLemmas.{no_number_code, number_code}
use Rattle.scm_open_session.proofs.LayerCallLemmas.{has_start}
use Rattle.scm_open_session.proofs.layer_calls.start.Goals as goal

pub returns-in-Some-clause-code : goal.returns-in-Some-clause-code
returns-in-Some-clause-code c =
    number_code (folds_of c.args.code) c.in-Some.folds (code_where is_view (box_value c.args.session.now)) c.start_at.result (sym c.folds_of.ensures ∙ c.in-Some.is) c.start_at.ensures.code

pub returns-in-Some-clause-set : goal.returns-in-Some-clause-set
returns-in-Some-clause-set c = λ done.
    subst (λ (first : SelectionKey). HasStart (folds_of c.args.code) first (box_value c.args.session.now) (box_value c.start_at.new.session)) c.item_of_key.ensures
    (has_start (folds_of c.args.code) c.in-Some.folds c.item_of_key.result (box_value c.args.session.now) (box_value c.start_at.new.session) (sym c.folds_of.ensures ∙ c.in-Some.is)
    (c.start_at.ensures.set done))

pub returns-in-None-clause-code : goal.returns-in-None-clause-code
returns-in-None-clause-code c = no_number_code (folds_of c.args.code) (code_where is_view (box_value c.args.session.now)) (sym c.folds_of.ensures ∙ c.in-None.is)
