use Rattle.std.proofs.Common.{sym, ◌∙◌}
use Rattle.scm_open_session.specs.Boxes.{box_value}
use Rattle.scm_open_session.specs.LayerCalls.{code_of_layer}
use Rattle.scm_open_session.specs.Layered.{theme_of}
use Rattle.scm_open_session.proofs.LayerCallLemmas.{has_theme}
use Rattle.scm_c_values.proofs.CodeLemmas.{no_number_code, number_code}
use Rattle.scm_open_session.proofs.layer_calls.set_theme.Goals as goal

pub returns-in-Some-clause-code : goal.returns-in-Some-clause-code
returns-in-Some-clause-code c =
    number_code (theme_of c.args.code) c.in-Some.theme (code_of_layer (box_value c.args.session.now)) c.paint_in.result (sym c.theme_of.ensures ∙ c.in-Some.is) c.paint_in.ensures.code

pub returns-in-Some-clause-themed : goal.returns-in-Some-clause-themed
returns-in-Some-clause-themed c = λ done.
    has_theme (theme_of c.args.code) c.in-Some.theme (box_value c.args.session.now) (box_value c.paint_in.new.session) (sym c.theme_of.ensures ∙ c.in-Some.is) (c.paint_in.ensures.themed done)

pub returns-in-None-clause-code : goal.returns-in-None-clause-code
returns-in-None-clause-code c = no_number_code (theme_of c.args.code) (code_of_layer (box_value c.args.session.now)) (sym c.theme_of.ensures ∙ c.in-None.is)
