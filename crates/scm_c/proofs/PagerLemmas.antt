-- The codes of calls of a pager.
use Rattle.std.proofs.Common.{◌≡◌, ℕ, true, Option, Some, None, Result, Ok, Err, refl}
use Rattle.scm_types.specs.declared.state.RecordState.{RecordState}
use Rattle.scm_c_values.specs.Codes.{IsCode}
use Rattle.scm_c_values.specs.States.{answer_of, code_of_found, code_of_question}

-- a question that has an answer has the code 0
pub answered : {A : Type 0} (ask : RecordState → Option A) (r : Result RecordState ℕ) (answer : A) → answer_of ask r ≡ Some answer → code_of_question ask r ≡ 0
answered ask (Ok state) answer e = rw e refl
answered ask (Err code) answer e = cc

-- so a call that is done has its code
pub done_code : {A : Type 0} (ask : RecordState → Option A) (r : Result RecordState ℕ) (answer : A) → answer_of ask r ≡ Some answer
    → IsCode true (code_of_question ask r) 0
done_code ask r answer e = rw (answered ask r answer e) IsCode.known
