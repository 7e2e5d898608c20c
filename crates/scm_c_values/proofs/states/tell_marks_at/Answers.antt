use Rattle.std.proofs.Common.{is_some, sym, ap, ◌∙◌}
use Rattle.std.specs.List.{flat_map}
use Rattle.scm_types.specs.declared.file.File.{File}
use Rattle.scm_c_values.specs.States.{bytes_of_section}
use Rattle.scm_c_values.proofs.QuestionLemmas.{no_file_code}
use Rattle.scm_c_values.proofs.states.tell_marks_at.Goals as goal

pub returns-in-None-clause-code : goal.returns-in-None-clause-code
returns-in-None-clause-code c =
    no_file_code (λ (file : File). flat_map bytes_of_section file.sections) c.args.file c.args.state.now c.as_slice.result.now
    c.as_slice.ensures (sym c.get.ensures.lookup.0 ∙ ap is_some c.in-None.is)
