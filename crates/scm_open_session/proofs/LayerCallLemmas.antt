-- How a session begins with a layer, and how its looks and its keys change.
use Rattle.std.proofs.Common.{◌≡◌, ℕ, min, ◌&&◌, Bool, true, List, [], false, IsTrue, option_and_then, Option, Some, None, Result, Ok, Err, IfOk, IfErr, refl, sym, ap, ◌∙◌, subst}
use Rattle.std.specs.Prelude.{if◌then◌else◌}
use Rattle.std.specs.Str.{is_utf8}
use Rattle.scm_errors.specs.declared.error.RecordError.{RecordError}
use Rattle.scm_errors.specs.declared.error.RecordError.TheVariants.{OutOfMemory}
use Rattle.scm_types.specs.declared.keys.SelectionKey.{SelectionKey}
use Rattle.scm_types.specs.declared.state.RecordState.{RecordState}
use Rattle.scm_types.specs.Limits.{is_accepted_state, is_short_text}
use Rattle.scm_front.specs.declared.actions.OwnKey.{OwnKey}
use Rattle.scm_front.specs.declared.layer.Front.{Front}
use Rattle.scm_front.specs.declared.starting.Folds.{Folds}
use Rattle.scm_terminal.specs.Decoders.{HasHeard}
use Rattle.scm_json.specs.Form.{state_of}
use Rattle.serde_json.specs.Read.{read}
use Rattle.scm_front_paint.specs.declared.themes.Theme.{Theme}
use Rattle.scm_front_paint.specs.declared.view.ViewTurn.{ViewTurn}
use Rattle.scm_front_paint.specs.declared.pane.Pane.{Pane}
use Rattle.scm_front_paint.specs.Seen.{Seen, seen}
use Rattle.scm_open_session.specs.declared.open_session.OpenSession.{OpenSession}
use Rattle.scm_open_session.specs.declared.open_session.Stage.{Stage}
use Rattle.scm_open_session.specs.declared.open_session.Stage.TheVariants.{Building, Ended, Waiting}
use Rattle.scm_open_session.specs.declared.painters.Painters.{Painters}
use Rattle.scm_open_session.specs.declared.running.Running.{Running}
use Rattle.scm_open_session.specs.declared.running.Running.TheVariants as running
use Rattle.scm_open_session.specs.Building.{is_building}
use Rattle.scm_open_session.specs.Layered.{ViewSets}
use Rattle.scm_open_session.specs.LayerCalls.{BeginsLayer, ChangesPainters, HasStart, HasTheme, IsNewView, SetsStart, StartsLayer, StartsView, changes_painters, has_layer}
use Rattle.scm_open_session.specs.OwnKeys.{SetsKeys}
use Rattle.scm_open_session.specs.Results.{code_where}
use Rattle.scm_c_values.specs.Codes.{IsCode, code_of_message, done_code, is_message}
use Rattle.scm_open_session.specs.Painters.{AreNew, HaveTheme}
use Rattle.scm_open_session.specs.Stages.{ChangesStage, stage_of_view}

-- beginnings

pub view_starts : (width height : ℕ) (state given : RecordState) (w h : ℕ) (v : Seen) → IsTrue (is_accepted_state state) → given ≡ state
    → w ≡ min width 1000 → h ≡ min height 1000 → IsNewView given w h v
    → StartsView width height (Building state) (Waiting (running.Layered v)) 0
view_starts width height state given w h v a e f g is =
    StartsView.started a
    (subst (λ (s : RecordState). IsNewView s (min width 1000) (min height 1000) v) e
    (subst (λ (k : ℕ). IsNewView given (min width 1000) k v) g (subst (λ (k : ℕ). IsNewView given k h v) f is)))

pub view_starts_not : (width height : ℕ) (state : RecordState) (error : RecordError) → IsTrue (is_accepted_state state) → error ≡ OutOfMemory
    → StartsView width height (Building state) (Ended error) 8
view_starts_not width height state error a e = rw e (StartsView.no_memory a)

pub view_starts_at : (width height : ℕ) (old new : Stage) (state : RecordState) (k : Stage) (code : ℕ) → old ≡ Building state → new ≡ k
    → StartsView width height (Building state) k code → StartsView width height old new code
view_starts_at width height old new state k code e f s = rw (e, f) s

pub view_stays : (width height : ℕ) (old new : Stage) → new ≡ old → is_building old ≡ false → StartsView width height old new 2
view_stays width height old new e f = rw e (StartsView.not_building f)

pub layer_starts : (width height : ℕ) (old new : Option OpenSession) (h before k : OpenSession) (code : ℕ) → old ≡ Some h → before ≡ h → new ≡ Some k
    → StartsView width height before.stage k.stage code → k.decoder ≡ before.decoder → k.painter ≡ before.painter → StartsLayer width height old new code
layer_starts width height old new h before k code e f g s d p =
    rw (e, g) (StartsLayer.open_one (subst (λ (x : OpenSession). StartsView width height x.stage k.stage code) f s)
    (d ∙ ap (λ (x : OpenSession). x.decoder) f) (p ∙ ap (λ (x : OpenSession). x.painter) f))

pub closed_layer_starts : (width height : ℕ) (old new : Option OpenSession) → old ≡ None → new ≡ None → StartsLayer width height old new 1
closed_layer_starts width height old new e f = rw (e, f) StartsLayer.closed

pub begins_layer : (json : List ℕ) (width height w h : ℕ) (given : RecordState) (v : Seen) (inner : OpenSession)
    → option_and_then state_of (read json) ≡ Some given → IsTrue (is_accepted_state given) → inner.stage ≡ Waiting (running.Layered v)
    → w ≡ min width 1000 → h ≡ min height 1000 → IsNewView given w h v
    → HasHeard inner.decoder false [] → AreNew inner.painter → BeginsLayer json width height inner
begins_layer json width height w h given v inner form a s e f is heard painter = record {
  given = given;
  form = form;
  accepted = a;
  view = v;
  begun = s;
  new_view = subst (λ (k : ℕ). IsNewView given (min width 1000) k v) f (subst (λ (k : ℕ). IsNewView given k h v) e is);
  unheard = heard;
  unpainted = painter;
}

-- what a session is painted with

pub painters_change : (Goes : Painters → Painters → Type 0) (old new : Option OpenSession) (h before k : OpenSession)
    → old ≡ Some h → before ≡ h → new ≡ Some k → Goes before.painter k.painter → k.stage ≡ before.stage → k.decoder ≡ before.decoder
    → ChangesPainters Goes old new
painters_change Goes old new h before k e f g goes s d =
    rw (e, g) (changes_painters (subst (λ (x : OpenSession). Goes x.painter k.painter) f goes) (s ∙ ap (λ (x : OpenSession). x.stage) f) (d ∙ ap (λ (x : OpenSession). x.decoder) f))

-- labels

-- a call that needs a layer and memory
pub layer_code : (old : Option OpenSession) (h before : OpenSession) (answer : ℕ) → old ≡ Some h → before ≡ h
    → IsCode true (done_code (has_layer before.stage)) answer → IsCode true (code_where has_layer old) answer
layer_code old h before answer e f code = rw e (subst (λ (x : OpenSession). IsCode true (done_code (has_layer x.stage)) answer) f code)

pub closed_layer_code : (old : Option OpenSession) → old ≡ None → IsCode true (code_where has_layer old) 1
closed_layer_code old e = rw e IsCode.known

pub no_layer_code : (due is_layered : Bool) → is_layered ≡ due → is_layered ≡ false → IsCode true (done_code due) 2
no_layer_code due is_layered e f = rw (sym e ∙ f) IsCode.known

pub memory_code : (due is_layered done : Bool) (answer : ℕ) → is_layered ≡ due → is_layered ≡ true → answer ≡ (if done then 0 else 8)
    → IsCode true (done_code due) answer
memory_code due is_layered true answer e f g = rw (sym e ∙ f, g) IsCode.known
memory_code due is_layered false answer e f g = rw (sym e ∙ f, g) (IsCode.no_memory refl)

-- the code of such a call with a text that can be a message
pub label_code : (text : List ℕ) (code answer : ℕ) → IsTrue (is_message text) → IsCode true code answer → IsCode (is_message text) (code_of_message text code) answer
label_code text code answer good is = go (is_short_text text) (is_utf8 text) good
  where
    go : (short utf8 : Bool) → IsTrue (short && utf8) → IsCode (short && utf8) (if short then if utf8 then code else 4 else 7) answer
    go true true t = is
    go true false t = absurd (cc t)
    go false true t = absurd (cc t)
    go false false t = absurd (cc t)

pub has_theme : (given : Option Theme) (theme : Theme) (old new : Option OpenSession) → given ≡ Some theme → ChangesPainters (HaveTheme theme) old new → HasTheme given old new
has_theme given theme old new e goes = rw e goes

-- the start

pub has_start : (given : Option Folds) (folds : Folds) (first : SelectionKey) (old new : Option OpenSession) → given ≡ Some folds
    → ChangesStage (SetsStart folds first) old new → HasStart given first old new
has_start given folds first old new e goes = rw e goes

sets-by : (folds : Folds) (first : SelectionKey) (v : Seen) (r : Result ViewTurn RecordError) → IfOk r (λ turn. ViewSets folds first v turn)
    → IfErr r (λ e. e ≡ OutOfMemory) → SetsStart folds first (Waiting (running.Layered v)) (stage_of_view r)
sets-by folds first v (Ok turn) h k = SetsStart.turned turn h
sets-by folds first v (Err error) h k = rw k SetsStart.failed

pub sets : (folds : Folds) (first : SelectionKey) (v : Seen) (r : Result ViewTurn RecordError) (s : Running) (new : Stage) → s ≡ running.Layered v → new ≡ stage_of_view r
    → IfOk r (λ turn. ViewSets folds first v turn) → IfErr r (λ e. e ≡ OutOfMemory) → SetsStart folds first (Waiting s) new
sets folds first v r s new e f h k = rw (e, f) (sets-by folds first v r h k)

-- keys

pub sets_keys : (list : List OwnKey) (old new : Running) (v next : Seen) → old ≡ running.Layered v → new ≡ running.Layered next
    → next.front ≡ record v.front { kept = record v.front.kept { keys = list } } → next.pane ≡ v.pane → SetsKeys list (Waiting old) (Waiting new)
sets_keys list old new v next e f g h =
    let keyed : Front = record v.front { kept = record v.front.kept { keys = list } } in
    let same : ◌≡◌ {A = Seen} (record { front = next.front; pane = next.pane }) (record { front = keyed; pane = v.pane }) =
    ap (λ (x : Front). seen x next.pane) g ∙ ap (λ (p : Pane). seen keyed p) h in
    rw (e, f) (subst (λ (x : Seen). SetsKeys list (Waiting (running.Layered v)) (Waiting (running.Layered x))) (sym same) SetsKeys.keys_set)
