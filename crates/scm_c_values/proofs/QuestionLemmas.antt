-- What calls tell of a state.
use Rattle.std.proofs.Common.{◌≡◌, ℕ, ◌≤◌, List, length, Bool, true, false, Option, None, Result, Ok, Err, slice_get, option_map, refl, subst}
use Rattle.std.proofs.Math.Dec.{ltb}
use Rattle.std.proofs.lemmas.Bool.{ltb-false}
use Rattle.std.proofs.lemmas.Option.{slice_get_past}
use Rattle.scm_types.specs.declared.file.File.{File}
use Rattle.scm_types.specs.declared.state.RecordState.{RecordState}
use Rattle.scm_c_values.specs.Codes.{IsCode}
use Rattle.scm_c_values.specs.States.{code_of_found, code_of_question, side_at}

pub coded_as : (code answer : ℕ) → answer ≡ code → IsCode true code answer
coded_as code answer e = rw e IsCode.known

-- the code of a question to a session with a state, or without one
pub asked_code : {A : Type 0} (ask : RecordState → Option A) (r : Result RecordState ℕ) (state : RecordState) (answer : ℕ) → r ≡ Ok state
    → IsCode true (code_of_found (ask state)) answer → IsCode true (code_of_question ask r) answer
asked_code ask r state answer e code = rw e code

pub unasked_code : {A : Type 0} (ask : RecordState → Option A) (r : Result RecordState ℕ) (code : ℕ) → r ≡ Err code → code ≡ code_of_question ask r
unasked_code ask r code e = rw e refl

pub no_side_code : (i : ℕ) (selected : Bool) (state : RecordState) (files : List File)
    → files ≡ state.files → ltb i (length files) ≡ false → IsCode true (code_of_found (side_at i selected state)) 9
no_side_code i selected state files f h =
    let past : slice_get state.files i ≡ None = slice_get_past state.files i (subst (λ (fs : List File). length fs ≤ i) f (ltb-false i (length files) h)) in
    rw past IsCode.known

pub no_file_code : {A : Type 0} (f : File → A) (i : ℕ) (state : RecordState) (files : List File)
    → files ≡ state.files → ltb i (length files) ≡ false → IsCode true (code_of_found (option_map f (slice_get state.files i))) 9
no_file_code f i state files g h =
    let past : slice_get state.files i ≡ None = slice_get_past state.files i (subst (λ (fs : List File). length fs ≤ i) g (ltb-false i (length files) h)) in
    rw past IsCode.known
