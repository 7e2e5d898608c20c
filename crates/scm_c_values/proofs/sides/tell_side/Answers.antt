use Rattle.std.proofs.Common.{refl}
use Rattle.scm_c_values.specs.Codes.{IsCode}
use Rattle.scm_c_values.proofs.sides.tell_side.Goals as goal

pub returns-in-Some-clause-code : goal.returns-in-Some-clause-code
returns-in-Some-clause-code c = IsCode.known

pub returns-in-None-clause-code : goal.returns-in-None-clause-code
returns-in-None-clause-code c = IsCode.no_memory refl
