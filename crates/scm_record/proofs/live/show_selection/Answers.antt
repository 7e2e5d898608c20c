use Rattle.std.proofs.Common.{◌≡◌, ◌∙◌, sym, ap, subst}
use Rattle.std.specs.Prelude.{IfOk}
use Rattle.scm_input.specs.declared.events.Event.TheVariants.{EnsureSelectionInViewport}
use Rattle.scm_record.specs.declared.frame.DrawnFrame.{DrawnFrame}
use Rattle.scm_record.specs.declared.session.Flow.TheVariants.{GoOn}
use Rattle.scm_record.specs.Session.{Session, IsDrawable, after_frame, with_scroll, without_pending}
use Rattle.scm_record.specs.Change.{stays}
use Rattle.scm_record.specs.Step.{change}
use Rattle.scm_record.specs.Frames.{HasSize, IsSceneOf, scene_of}
use Rattle.scm_record.specs.FrameQueries.{scroll_to_show}
use Rattle.scm_record.specs.Quiet.{IsQuiet, after_ensure}
use Rattle.scm_record.specs.Live.{Live}
use Rattle.scm_record.proofs.AcceptedLemmas.{change-keeps-drawable}
use Rattle.scm_record.proofs.CurrentLemmas.{current-after, current-kept, ensured, scrolls-same, seen-same}
use Rattle.scm_record.proofs.LiveLemmas.{shown-sized}
use Rattle.scm_record.proofs.live.show_selection.Goals as goal

-- ---- a quiet turn

pub pass_unseen-requires : goal.pass_unseen-requires
pass_unseen-requires c =
    let quiet = c.is_quiet.ensures.0 c.if-is_quiet.true in
    record {
      quiet =
          subst (λ (s : Session). IsQuiet s c.deref-then-is_quiet.result.now) (c.deref.ensures ∙ sym c.deref_mut.ensures.value)
          (subst (λ (f : DrawnFrame). IsQuiet c.deref.result.now f) (c.deref-2.ensures ∙ sym c.deref-then-is_quiet.ensures) quiet);
    }

-- the session after the quiet turn
passed : (c : goal.After-session-then-is_quiet-2-1) → c.pass_unseen.new.self ≡ after_ensure c.args.kind (after_frame c.args.session.value)
passed c =
    c.pass_unseen.ensures c.args.kind (subst (HasSize c.args.kind) (sym c.deref-then-is_quiet.ensures) c.requires.sized)
    ∙ ap (λ (s : Session). after_ensure c.args.kind (after_frame s)) c.deref_mut.ensures.value

pub wait-requires-clause-calm : goal.wait-requires-clause-calm
wait-requires-clause-calm c = ap (λ (s : Session). s.pending) (passed c)

pub wait-requires-clause-drawable : goal.wait-requires-clause-drawable
wait-requires-clause-drawable c =
    let drawn = after_frame c.args.session.value in
    let drawable : IsDrawable (without_pending drawn) = record { accepted = c.requires.drawable.accepted; scroll = c.requires.drawable.scroll } in
    subst IsDrawable (sym (passed c)) (change-keeps-drawable (scene_of c.args.kind drawn) (without_pending drawn) EnsureSelectionInViewport drawable)

pub returns-then-is_quiet-clause-ok : goal.returns-then-is_quiet-clause-ok
returns-then-is_quiet-clause-ok c =
    let size = subst (HasSize c.args.kind) (sym c.deref-then-is_quiet.ensures) c.requires.sized in
    let passed = c.pass_unseen.ensures c.args.kind size ∙ ap (λ (s : Session). after_ensure c.args.kind (after_frame s)) c.deref_mut.ensures.value in
    subst (λ (s : Session). IfOk c.wait.result (λ (l : Live). l ≡ record { session = after_frame s; kind = c.args.kind })) passed c.wait.ensures.ok

-- ---- a frame, and the scroll to the selection

-- the session after the frame
drawn-so : (c : goal.After-session-6-1) → c.advance.new.session ≡ without_pending (after_frame c.args.session.value)
drawn-so c = c.in_ok-advance.ensures.rest ∙ ap (λ (s : Session). without_pending (after_frame s)) c.deref_mut-2.ensures.value

-- the frame shows it
seen : (c : goal.After-session-6-1) → IsSceneOf (scene_of c.args.kind (after_frame c.args.session.value)) c.advance.new.frame
seen c = seen-same c.args.kind _ _ _ _ _ c.deref_mut-2.ensures.value c.deref_mut-3.ensures.value c.requires.sized c.in_ok-advance.ensures.shown

-- the scroll to the selection
scrolled : (c : goal.After-session-6-1)
    → let u = c.advance.new.session in
    c.show_selection.new.self ≡ with_scroll u (scroll_to_show (scene_of c.args.kind (after_frame c.args.session.value)) u.scroll u.shown.selection)
scrolled c = scrolls-same _ _ _ _ _ _ c.deref_mut-4.ensures.value c.deref-5.ensures (seen c) c.show_selection.ensures

-- the session after that
shown-so : (c : goal.After-session-6-1) → c.show_selection.new.self ≡ after_ensure c.args.kind (after_frame c.args.session.value)
shown-so c = ensured c.args.kind c.args.session.value c.advance.new.session c.show_selection.new.self (drawn-so c) (scrolled c)

pub wait-requires-2-clause-sized : goal.wait-requires-2-clause-sized
wait-requires-2-clause-sized c = shown-sized c.args.kind (after_frame c.args.session.value) c.advance.new.frame (seen c)

pub wait-requires-2-clause-drawable : goal.wait-requires-2-clause-drawable
wait-requires-2-clause-drawable c =
    let drawn = after_frame c.args.session.value in
    let drawable : IsDrawable (without_pending drawn) = record { accepted = c.requires.drawable.accepted; scroll = c.requires.drawable.scroll } in
    subst IsDrawable (sym (shown-so c)) (change-keeps-drawable (scene_of c.args.kind drawn) (without_pending drawn) EnsureSelectionInViewport drawable)

pub wait-requires-2-clause-calm : goal.wait-requires-2-clause-calm
wait-requires-2-clause-calm c = ap (λ (s : Session). s.pending) (shown-so c)

pub wait-requires-2-clause-current : goal.wait-requires-2-clause-current
wait-requires-2-clause-current c kept =
    let s = c.args.session.value in
    let u = c.advance.new.session in
    let scene = scene_of c.args.kind (after_frame s) in
    let stayed : change scene u EnsureSelectionInViewport ≡ stays u =
    subst (λ (x : Session). change scene x EnsureSelectionInViewport ≡ stays x) c.deref-3.ensures
    (c.is_kept_by-is_kept.ensures kept scene (subst (IsSceneOf scene) (sym c.deref-4.ensures) (seen c))) in
    current-kept c.advance.new.frame scene u c.show_selection.new.self EnsureSelectionInViewport GoOn stayed
    (ap stays (sym (scrolled c)))
    (current-after c.advance.new.frame c.args.kind s u (drawn-so c) (seen c))

pub returns-clause-ok : goal.returns-clause-ok
returns-clause-ok c =
    let drawn = c.in_ok-advance.ensures.rest ∙ ap (λ (s : Session). without_pending (after_frame s)) c.deref_mut-2.ensures.value in
    let seen = seen-same c.args.kind c.args.session.value _ _ _ _ c.deref_mut-2.ensures.value c.deref_mut-3.ensures.value c.requires.sized c.in_ok-advance.ensures.shown in
    let scrolled = scrolls-same _ c.advance.new.session _ _ _ _ c.deref_mut-4.ensures.value c.deref-5.ensures seen c.show_selection.ensures in
    let same = ensured c.args.kind c.args.session.value c.advance.new.session c.show_selection.new.self drawn scrolled in
    subst (λ (s : Session). IfOk c.wait-2.result (λ (l : Live). l ≡ record { session = after_frame s; kind = c.args.kind })) same c.wait-2.ensures.ok
