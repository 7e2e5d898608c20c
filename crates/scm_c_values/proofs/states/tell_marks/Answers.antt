use Rattle.std.proofs.Common.{refl}
use Rattle.scm_c_values.specs.Codes.{IsCode}
use Rattle.scm_c_values.proofs.states.tell_marks.Goals as goal

pub returns-in-Ok-clause-code : goal.returns-in-Ok-clause-code
returns-in-Ok-clause-code c = IsCode.known

pub returns-in-Err-clause-code : goal.returns-in-Err-clause-code
returns-in-Err-clause-code c = IsCode.no_memory refl
