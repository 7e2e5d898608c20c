use Rattle.std.proofs.Common.{refl, sym}
use Rattle.scm_open_session.specs.Boxes.{box_value}
use Rattle.scm_c_values.specs.Codes.{IsCode}
use Rattle.scm_c_values.specs.Texts.{given_change}
use Rattle.scm_open_session.proofs.BuildLemmas.{no_paths_code}
use Rattle.scm_open_session.proofs.state_calls.add_texts.Goals as goal

pub returns-in_default-clause-code : goal.returns-in_default-clause-code
returns-in_default-clause-code c =
    no_paths_code (given_change c.args.path.now c.args.old_path.now c.args.old.now c.args.old_mode c.args.new.now c.args.new_mode) (box_value c.args.session.now)
    (sym c.in_default.ensures.is_text)

pub returns-in_default-text_of_bytes-clause-code : goal.returns-in_default-text_of_bytes-clause-code
returns-in_default-text_of_bytes-clause-code c = IsCode.no_memory refl

pub returns-in_default-text_of_bytes-2-clause-code : goal.returns-in_default-text_of_bytes-2-clause-code
returns-in_default-text_of_bytes-2-clause-code c = IsCode.no_memory refl
