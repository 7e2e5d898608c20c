-- How a state grows by calls, and how a session begins with it.
use Rattle.std.proofs.Common.{◌≡◌, ℕ, List, [], Bool, true, false, IsTrue, Option, Some, None, IfSome, option_and_then, refl, ap, ◌∙◌, subst}
use Rattle.std.specs.declared.boxed.Box.{Box}
use Rattle.std.specs.declared.alloc.Global.{Global}
use Rattle.serde_json.specs.Read.{read}
use Rattle.scm_errors.specs.declared.error.RecordError.{RecordError}
use Rattle.scm_errors.specs.declared.error.RecordError.TheVariants.{OutOfMemory}
use Rattle.scm_types.specs.declared.state.RecordState.{RecordState}
use Rattle.scm_types.specs.Limits.{is_accepted_state}
use Rattle.scm_input.specs.declared.inputs.TerminalKind.{TerminalKind}
use Rattle.scm_record.specs.Live.{Live}
use Rattle.scm_record.specs.Session.{start}
use Rattle.scm_embed.specs.declared.addition.Addition.{Addition}
use Rattle.scm_json.specs.Form.{state_of}
use Rattle.scm_terminal.specs.Decoders.{HasHeard}
use Rattle.scm_embed.specs.Additions.{no_memory, after_addition, empty_state, refusal_of}
use Rattle.scm_open_session.specs.declared.open_session.OpenSession.{OpenSession}
use Rattle.scm_open_session.specs.declared.open_session.Stage.{Stage}
use Rattle.scm_open_session.specs.declared.open_session.Stage.TheVariants.{Building, Waiting, Editing, Accepted, Ended}
use Rattle.scm_open_session.specs.declared.running.Running.TheVariants as running
use Rattle.scm_open_session.specs.Painters.{AreNew}
use Rattle.scm_open_session.specs.Stages.{Begins, ChangesStage}
use Rattle.scm_c_values.specs.Screens.{screen_of}
use Rattle.scm_c_values.specs.Codes.{IsCode, code_of_refusal}
use Rattle.scm_open_session.specs.Building.{Adds, BeginsState, Builds, Starts, StartsSession, code_at_stage, code_of_addition, is_building, BuildsChange, code_of_change, code_of_change_at, code_of_text_change}
use Rattle.scm_c_values.specs.Texts.{AddsFile, GivenChange, code_of_length, has_text_paths}

-- codes

pub stage_code : (addition : Addition) (old : Stage) (state : RecordState) (answer : ℕ) → old ≡ Building state
    → IsCode true (code_of_refusal (refusal_of addition state)) answer → IsCode true (code_at_stage addition old) answer
stage_code addition old state answer e code = rw e code

pub builds_not : (s : Stage) → ((state : RecordState) → s ≡ Building state → ⊥) → is_building s ≡ false
builds_not (Building state) n = absurd (n state refl)
builds_not (Waiting l) n = refl
builds_not (Editing a) n = refl
builds_not (Accepted state) n = refl
builds_not (Ended error) n = refl

pub not_building_code : (addition : Addition) (s : Stage) → is_building s ≡ false → IsCode true (code_at_stage addition s) 2
not_building_code addition (Building state) e = cc
not_building_code addition (Waiting l) e = IsCode.known
not_building_code addition (Editing a) e = IsCode.known
not_building_code addition (Accepted state) e = IsCode.known
not_building_code addition (Ended error) e = IsCode.known

pub session_code : (addition : Addition) (old : Option OpenSession) (h before : OpenSession) (answer : ℕ) → old ≡ Some h → before ≡ h
    → IsCode true (code_at_stage addition before.stage) answer → IsCode true (code_of_addition (Some addition) old) answer
session_code addition old h before answer e f code = rw e (subst (λ (x : OpenSession). IsCode true (code_at_stage addition x.stage) answer) f code)

pub closed_session_code : (addition : Addition) (old : Option OpenSession) → old ≡ None → IsCode true (code_of_addition (Some addition) old) 1
closed_session_code addition old e = rw e IsCode.known

pub given_code : (addition : Addition) (given : Option Addition) (old : Option OpenSession) (answer : ℕ) → given ≡ Some addition
    → IsCode true (code_of_addition (Some addition) old) answer → IsCode true (code_of_addition given old) answer
given_code addition given old answer e code = rw e code

pub no_text_code : (given : Option Addition) (old : Option OpenSession) → given ≡ None → IsCode true (code_of_addition given old) 4
no_text_code given old e = rw e IsCode.known

-- stages

pub builds : (addition : Addition) (old new : Stage) (state after : RecordState) → old ≡ Building state → new ≡ Building after → after ≡ after_addition addition state → Builds addition old new
builds addition old new state after e f g = rw (e, f) (rw g Builds.built)

pub adds : (addition : Addition) (given : Option Addition) (old new : Option OpenSession) → given ≡ Some addition → ChangesStage (Builds addition) old new → Adds given old new
adds addition given old new e goes = rw e goes

-- files of two versions

pub builds_change : (c : GivenChange) (old new : Stage) (before after : RecordState) → old ≡ Building before → new ≡ Building after → AddsFile c before after → BuildsChange c old new
builds_change c old new before after e f a = rw (e, f) (BuildsChange.built_change a)

pub change_code : (c : GivenChange) (old : Stage) (state : RecordState) (answer : ℕ) → old ≡ Building state
    → IsCode true (code_of_length c) answer → IsCode true (code_of_change_at c old) answer
change_code c old state answer e code = rw e code

pub not_building_change : (c : GivenChange) (s : Stage) → is_building s ≡ false → IsCode true (code_of_change_at c s) 2
not_building_change c (Building state) e = cc
not_building_change c (Waiting l) e = IsCode.known
not_building_change c (Editing a) e = IsCode.known
not_building_change c (Accepted state) e = IsCode.known
not_building_change c (Ended error) e = IsCode.known

pub change_session_code : (c : GivenChange) (old : Option OpenSession) (h before : OpenSession) (answer : ℕ) → old ≡ Some h → before ≡ h
    → IsCode true (code_of_change_at c before.stage) answer → IsCode true (code_of_text_change c old) answer
change_session_code c old h before answer e f code = rw e (subst (λ (x : OpenSession). IsCode true (code_of_change_at c x.stage) answer) f code)

pub closed_change_code : (c : GivenChange) (old : Option OpenSession) → old ≡ None → IsCode true (code_of_text_change c old) 1
closed_change_code c old e = rw e IsCode.known

-- a change whose paths are not UTF-8
pub no_paths_code : (given : GivenChange) (old : Option OpenSession) → has_text_paths given ≡ false → IsCode true (code_of_change given old) 4
no_paths_code given old e = rw e IsCode.known

-- beginnings

pub starts : (kind : TerminalKind) (state given : RecordState) (l : Live) → IsTrue (is_accepted_state state) → given ≡ state → l ≡ record { session = start given; kind = kind }
    → Starts kind (Building state) (Waiting (running.Plain l)) 0
starts kind state given l a f e = rw e (rw f (Starts.started a))

pub starts_not : (kind : TerminalKind) (state : RecordState) (error : RecordError) → IsTrue (is_accepted_state state) → error ≡ OutOfMemory
    → Starts kind (Building state) (Ended error) 8
starts_not kind state error a e = rw e (Starts.no_memory a)

pub starts_at : (kind : TerminalKind) (old new : Stage) (state : RecordState) (k : Stage) (code : ℕ) → old ≡ Building state → new ≡ k
    → Starts kind (Building state) k code → Starts kind old new code
starts_at kind old new state k code e f s = rw (e, f) s

pub stays : (kind : TerminalKind) (old new : Stage) → new ≡ old → is_building old ≡ false → Starts kind old new 2
stays kind old new e f = rw e (Starts.not_building f)

pub session_starts : (kind : TerminalKind) (old new : Option OpenSession) (h before k : OpenSession) (code : ℕ) → old ≡ Some h → before ≡ h → new ≡ Some k
    → Starts kind before.stage k.stage code → k.decoder ≡ before.decoder → k.painter ≡ before.painter → StartsSession kind old new code
session_starts kind old new h before k code e f g s d p =
    rw (e, g) (StartsSession.open_one (subst (λ (x : OpenSession). Starts kind x.stage k.stage code) f s)
    (d ∙ ap (λ (x : OpenSession). x.decoder) f) (p ∙ ap (λ (x : OpenSession). x.painter) f))

pub closed_starts : (kind : TerminalKind) (old new : Option OpenSession) → old ≡ None → new ≡ None → StartsSession kind old new 1
closed_starts kind old new e f = rw (e, f) StartsSession.closed

pub begins_state : (is_read_only : Bool) (stage : Stage) (r : Option (Box OpenSession Global)) → stage ≡ Building (empty_state is_read_only)
    → IfSome r (λ b. b.value.stage ≡ stage) → IfSome r (λ b. HasHeard b.value.decoder false []) → IfSome r (λ b. AreNew b.value.painter)
    → IfSome r (λ b. BeginsState is_read_only b.value)
begins_state is_read_only stage (Some b) e at heard new = record { begun = at ∙ e; unheard = heard; unpainted = new }
begins_state is_read_only stage None e at heard new = tt

pub begins : (json : List ℕ) (width height : ℕ) (given : RecordState) (l : Live) (kind : TerminalKind) (inner : OpenSession)
    → option_and_then state_of (read json) ≡ Some given → IsTrue (is_accepted_state given) → inner.stage ≡ Waiting (running.Plain l)
    → l ≡ record { session = start given; kind = kind } → kind ≡ screen_of width height
    → HasHeard inner.decoder false [] → AreNew inner.painter → Begins json width height inner
begins json width height given l kind inner form a s e f heard new = record {
  given = given;
  form = form;
  accepted = a;
  begun = s ∙ ap (λ (x : Live). Waiting (running.Plain x)) (e ∙ ap (λ (k : TerminalKind). record { session = start given; kind = k }) f);
  unheard = heard;
  unpainted = new;
}
