-- Where an event leads on, each file stays coherent.
use Rattle.std.proofs.Common.{ℕ, Bool, true, false, List, [], ◌∷◌, length, cond}
use Rattle.std.specs.Prelude.{nat_lt}
use Rattle.scm_types.specs.declared.file.File.{File}
use Rattle.scm_types.specs.declared.state.RecordState.{RecordState}
use Rattle.scm_types.specs.Limits.{is_short_text}
use Rattle.scm_input.specs.declared.events.Event.{Event}
use Rattle.scm_record.specs.declared.session.Flow.{Flow}
use Rattle.scm_record.specs.declared.session.Flow.TheVariants as flows
use Rattle.scm_input.specs.Script.{Edit, Answer, BrokenEdit, Reply, no_messages_left}
use Rattle.scm_selection.specs.Toggle.{with_key_toggled, with_all_inverted, with_all_set}
use Rattle.scm_record.specs.Session.{Session, message_text, with_message}
use Rattle.scm_record.specs.Frames.{Scene, scene_of}
use Rattle.scm_record.specs.FrameQueries.{shot_of}
use Rattle.scm_record.specs.Step.{change}
use Rattle.scm_record.specs.Run.{World, with_session, with_edits, with_text, Goes, Breaks, no_such_place, too_long, after_answer, after_edit, outcome_by}
use Rattle.scm_selection.specs.Coherence.{KeepsCoherent}
use Rattle.scm_record.specs.StepCoherence.{OutcomeKeepsCoherent, StepKeepsCoherent}
use Rattle.scm_selection.proofs.CoherenceLemmas.{keeps_coherent-same, toggle_keeps_coherent, all_set_keeps_coherent, all_inverted_keeps_coherent}
use Rattle.scm_record.proofs.StepLemmas.{Marks, unmarked, toggled, inverted, all_set, leads}

-- marks that change unless the state is read-only
changed-keeps : (read_only : Bool) (s : Session) (f : List File → List File) → KeepsCoherent s.shown.state.files (f s.shown.state.files) → KeepsCoherent s.shown.state.files (cond read_only s (record s { shown = record s.shown { state = record s.shown.state { files = f s.shown.state.files } } })).shown.state.files
changed-keeps true s f h = keeps_coherent-same s.shown.state.files
changed-keeps false s f h = h

-- what an event makes of the marks keeps each file coherent
pub marks-keep : (s : Session) (state : RecordState) (flow : Flow) → Marks s state flow → KeepsCoherent s.shown.state.files state.files
marks-keep s _ _ (unmarked allowed) = keeps_coherent-same s.shown.state.files
marks-keep s _ _ toggled = changed-keeps s.shown.state.is_read_only s (with_key_toggled s.shown.selection) (toggle_keeps_coherent s.shown.state.files s.shown.selection)
marks-keep s _ _ inverted = changed-keeps s.shown.state.is_read_only s with_all_inverted (all_inverted_keeps_coherent s.shown.state.files)
marks-keep s _ _ all_set = changed-keeps s.shown.state.is_read_only s with_all_set (all_set_keeps_coherent s.shown.state.files)

module _ (w : World) where
  short-keeps : (b : Bool) (v u : World) → KeepsCoherent w.session.shown.state.files v.session.shown.state.files → OutcomeKeepsCoherent w (cond b (Goes v) (Breaks too_long u))
  short-keeps true v u h = h
  short-keeps false v u h = tt

  answered-keeps : (v : World) (commit : ℕ) (edit : Edit) → KeepsCoherent w.session.shown.state.files v.session.shown.state.files → OutcomeKeepsCoherent w (after_answer v commit edit)
  answered-keeps v commit (Answer text) h = short-keeps (is_short_text text) (with_session v (with_message v.session commit text)) v h
  answered-keeps v commit (BrokenEdit fault) h = tt

  edited-keeps : (v : World) (commit : ℕ) (edits : List Reply) → KeepsCoherent w.session.shown.state.files v.session.shown.state.files → OutcomeKeepsCoherent w (after_edit v commit edits)
  edited-keeps v commit [] h = answered-keeps (with_edits v []) commit no_messages_left h
  edited-keeps v commit (reply ∷ edits) h = answered-keeps (with_edits v edits) commit (reply (message_text v.session commit)) h

  shot-keeps : (b : Bool) (v u : World) → KeepsCoherent w.session.shown.state.files v.session.shown.state.files → OutcomeKeepsCoherent w (cond b (Goes v) (Breaks no_such_place u))
  shot-keeps true v u h = h
  shot-keeps false v u h = tt

  outcome-keeps : (scene : Scene) (v : World) (flow : Flow) → KeepsCoherent w.session.shown.state.files v.session.shown.state.files → OutcomeKeepsCoherent w (outcome_by scene v flow)
  outcome-keeps scene v flows.GoOn h = h
  outcome-keeps scene v flows.Accept h = h
  outcome-keeps scene v flows.Cancel h = tt
  outcome-keeps scene v (flows.Edit commit) h = edited-keeps v commit v.edits h
  outcome-keeps scene v (flows.Shoot place) h = shot-keeps (nat_lt place (length v.texts)) (with_text v place (shot_of scene v.session.cleared)) v h

pub step_keeps_coherent : (drawn : Session) (w : World) (event : Event) → StepKeepsCoherent drawn w event
step_keeps_coherent drawn w event =
    let scene = scene_of w.kind drawn in
    let c = change scene w.session event in
    outcome-keeps w scene (with_session w c.session) c.flow (marks-keep w.session c.session.shown.state c.flow (leads scene w.session event).marks)
