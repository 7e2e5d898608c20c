use Rattle.std.proofs.Common.{refl}
use Rattle.scm_c_values.specs.Codes.{IsCode}
use Rattle.scm_c_values.specs.States.{code_of_question}
use Rattle.scm_c_values.proofs.QuestionLemmas.{coded_as}
use Rattle.scm_open_session.specs.Boxes.{box_value}
use Rattle.scm_open_session.specs.Questions.{asked_state}
use Rattle.scm_c.specs.Pages.{file_at}
use Rattle.scm_c.proofs.PagerLemmas.{done_code}
use Rattle.scm_c.proofs.pager_calls.type_in_pager.Goals as goal

pub returns-in-Some-clause-code : goal.returns-in-Some-clause-code
returns-in-Some-clause-code c = done_code (file_at c.args.pager.now.file) (asked_state (box_value c.args.session.now)) c.in-Ok.file.now c.in-Ok.ensures.file

pub returns-in-None-clause-code : goal.returns-in-None-clause-code
returns-in-None-clause-code c = IsCode.no_memory refl

pub returns-in-Err-clause-code : goal.returns-in-Err-clause-code
returns-in-Err-clause-code c = coded_as (code_of_question (file_at c.args.pager.now.file) (asked_state (box_value c.args.session.now))) c.in-Err.code c.in-Err.ensures.file
