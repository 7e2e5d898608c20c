-- Headings of sections that a layer shows.
use Rattle.std.proofs.Common.{◌≡◌, ℕ, Bool, true, false, IsTrue, Option, Some, None, refl, sym, ap, ◌∙◌, subst}
use Rattle.std.specs.Prelude.{if◌then◌else◌}
use Rattle.scm_front_paint.specs.Headings.{AreNamed, AreSomeNamed}
use Rattle.scm_front_paint.specs.Seen.{Seen, files_of}
use Rattle.scm_open_session.specs.declared.open_session.OpenSession.{OpenSession}
use Rattle.scm_open_session.specs.declared.open_session.Stage.{Stage}
use Rattle.scm_open_session.specs.declared.open_session.Stage.TheVariants.{Waiting}
use Rattle.scm_open_session.specs.declared.painters.Painters.{Painters}
use Rattle.scm_open_session.specs.declared.running.Running.{Running}
use Rattle.scm_open_session.specs.declared.running.Running.TheVariants as running
use Rattle.scm_open_session.specs.Headings.{HaveLabels, NamesAt, NamesSections}
use Rattle.scm_open_session.specs.LayerCalls.{is_view}

-- a layer names its sections
pub names-view : (old new : Painters) (s : Running) (v read : Seen) (done : Bool) (code : ℕ) → s ≡ running.Layered v → read ≡ v → code ≡ (if done then 0 else 8)
    → (IsTrue done → HaveLabels (AreNamed (files_of read)) old new) → (done ≡ false → HaveLabels (AreSomeNamed (files_of read)) old new)
    → NamesAt old new (Waiting s) code
names-view old new s v read true code e f g all some =
    rw (e, g) (NamesAt.named (subst (λ (x : Seen). HaveLabels (AreNamed (files_of x)) old new) f (all refl)))
names-view old new s v read false code e f g all some =
    rw (e, g) (NamesAt.some_named (subst (λ (x : Seen). HaveLabels (AreSomeNamed (files_of x)) old new) f (some refl)))

-- a stage without a layer that waits
pub names-none : (old new : Painters) (stage other : Stage) → stage ≡ other → is_view other ≡ false → new ≡ old → NamesAt old new stage 2
names-none old new stage other e is f = rw e (NamesAt.no_view is f)

pub names-at : (old new : Painters) (stage other : Stage) (code : ℕ) → stage ≡ other → NamesAt old new other code → NamesAt old new stage code
names-at old new stage other code e is = rw e is

pub names-session : (old new : Option OpenSession) (h before k : OpenSession) (code : ℕ) → old ≡ Some h → before ≡ h → new ≡ Some k
    → NamesAt before.painter k.painter before.stage code → k.stage ≡ before.stage → k.decoder ≡ before.decoder → NamesSections old new code
names-session old new h before k code e f g is s d =
    rw (e, g) (NamesSections.open_one (subst (λ (x : OpenSession). NamesAt x.painter k.painter x.stage code) f is)
    (s ∙ ap (λ (x : OpenSession). x.stage) f) (d ∙ ap (λ (x : OpenSession). x.decoder) f))

pub names-closed : (old new : Option OpenSession) → old ≡ None → new ≡ None → NamesSections old new 1
names-closed old new e f = rw (e, f) NamesSections.closed
