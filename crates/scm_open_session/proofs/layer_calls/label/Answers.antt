use Rattle.std.proofs.Common.{ℕ, List, subst, ◌∙◌}
use Rattle.scm_open_session.specs.Boxes.{box_value}
use Rattle.scm_open_session.specs.LayerCalls.{ChangesPainters, has_layer}
use Rattle.scm_open_session.specs.Painters.{HaveLabel, label_of}
use Rattle.scm_open_session.specs.Results.{code_where}
use Rattle.scm_open_session.proofs.LayerCallLemmas.{label_code}
use Rattle.scm_open_session.proofs.layer_calls.label.Goals as goal

pub returns-clause-code : goal.returns-clause-code
returns-clause-code c =
    label_code c.args.text.now (code_where has_layer (box_value c.args.session.now)) c.put_label.result c.in-Ok.ensures.good c.put_label.ensures.code

pub returns-clause-labelled : goal.returns-clause-labelled
returns-clause-labelled c = λ done.
    subst (λ (text : List ℕ). ChangesPainters (HaveLabel (label_of c.args.file c.args.section text)) (box_value c.args.session.now) (box_value c.put_label.new.session))
    (c.from-text.ensures ∙ c.in-Ok.ensures.ok) (c.put_label.ensures.labelled done)
