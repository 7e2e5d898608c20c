use Rattle.scm_open_session.proofs.BuildLemmas.{adds, given_code, no_text_code}
use Rattle.scm_open_session.specs.Boxes.{box_value}
use Rattle.scm_open_session.proofs.state_calls.add_text.Goals as goal

pub returns-in-Some-clause-code : goal.returns-in-Some-clause-code
returns-in-Some-clause-code c = given_code c.in-Some.addition c.args.addition (box_value c.args.session.now) c.add.result c.in-Some.is c.add.ensures.code

pub returns-in-Some-clause-added : goal.returns-in-Some-clause-added
returns-in-Some-clause-added c = λ done.
    adds c.in-Some.addition c.args.addition (box_value c.args.session.now) (box_value c.add.new.session) c.in-Some.is (c.add.ensures.added done)

pub returns-in-None-clause-code : goal.returns-in-None-clause-code
returns-in-None-clause-code c = no_text_code c.args.addition (box_value c.args.session.now) c.in-None.is
