-- What `gabro_paint` writes.
use Rattle.std.proofs.Common.{◌≡◌, ℕ, ◌≤◌, ◌<◌, List, length, Option, Some, None, Result, Ok, Err, ok_or, IfSome, IfNone, sym, ◌∙◌, subst}
use Rattle.std.specs.Result.{result_map_both}
use Rattle.scm_record.specs.Live.{Live}
use Rattle.scm_record.specs.Painted.{picture_of}
use Rattle.scm_open_session.specs.declared.open_session.OpenSession.{OpenSession}
use Rattle.scm_open_session.specs.declared.open_session.Stage.{Stage}
use Rattle.scm_open_session.specs.declared.open_session.Stage.TheVariants.{Waiting}
use Rattle.scm_open_session.specs.declared.painters.Painters.{Painters}
use Rattle.scm_open_session.specs.declared.running.Running.{Running}
use Rattle.scm_c_values.specs.Buffers.{over}
use Rattle.scm_open_session.specs.Painters.{Forget}
use Rattle.scm_open_session.specs.Paint.{Fills, Forgets, ForgetsOpen, PaintsOpenSession, PaintsSession, ShowsPlain, ShowsRunning, Updates, UpdatesStage}
use Rattle.scm_c_values.specs.Updates.{Shows}

-- updates

pub updates : {A : Type 0} (f : A → List ℕ) (stage : Stage) (s : Running) (old new : Painters) (r : Option A) (answer : Result A ℕ)
    → stage ≡ Waiting s → answer ≡ ok_or r 8 → IfSome r (λ x. ShowsRunning s old new (f x)) → IfNone r (Forget old new)
    → UpdatesStage stage old new (result_map_both f (λ code. code) answer)
updates f stage s old new (Some x) answer e is h n = rw (e, is) (UpdatesStage.shown h)
updates f stage s old new None answer e is h n = rw (e, is) (UpdatesStage.refused n)

pub plain_shown : {A : Type 0} (f : A → List ℕ) (l : Live) (old new : Painters) (r : Option A)
    → IfSome r (λ x. Shows l old.plain (f x)) → IfSome r (λ x. new.plain ≡ picture_of l)
    → new.layered ≡ old.layered → new.theme ≡ old.theme → new.accept ≡ old.accept → IfSome r (λ x. ShowsPlain l old new (f x))
plain_shown f l old new (Some x) shows painted layered theme accept =
    record { shows = shows; painted = painted; layered = layered; theme = theme; accept = accept }
plain_shown f l old new None shows painted layered theme accept = tt

pub forgets_all : (old middle new : Painters) → Forget middle new → middle.theme ≡ old.theme → middle.layered.labels ≡ old.layered.labels → middle.accept ≡ old.accept
    → Forget old new
forgets_all old middle new f theme labels accept = record {
  plain = f.plain;
  layered = f.layered;
  colours = f.colours ∙ theme;
  theme = f.theme ∙ theme;
  labels = f.labels ∙ labels;
  accept = f.accept ∙ accept;
}

-- buffers

pub fits : (inner : OpenSession) (update out filled : List ℕ)
    → length update ≤ length out → filled ≡ over update out → Fills inner inner update out filled
fits inner update out filled h w = rw w (Fills.written h)

pub too_long : (inner new : OpenSession) (update out : List ℕ)
    → length out < length update → ForgetsOpen inner new → Fills inner new update out out
too_long inner new update out h w = Fills.no_room h w

-- paints

pub paints : (old inner new : OpenSession) (update bytes out filled : List ℕ) (count : ℕ)
    → Updates old inner (Ok update) → bytes ≡ update → Fills inner new bytes out filled → count ≡ length bytes
    → PaintsOpenSession old new out filled (Ok count)
paints old inner new update bytes out filled count u e f n =
    rw n (PaintsOpenSession.painted (subst (λ (x : List ℕ). Updates old inner (Ok x)) (sym e) u) f)

pub paints-done : (old new : Option OpenSession) (h before k : OpenSession) (out filled : List ℕ) (told count : ℕ) (r : Result ℕ ℕ)
    → old ≡ Some h → before ≡ h → new ≡ Some k → r ≡ Ok count → PaintsOpenSession before k out filled r
    → PaintsSession old new out filled 0 told count
paints-done old new h before k out filled told count r e f g is p =
    let done : PaintsOpenSession h k out filled (Ok count) = subst (λ (x : OpenSession). PaintsOpenSession x k out filled (Ok count)) f
    (subst (λ (x : Result ℕ ℕ). PaintsOpenSession before k out filled x) is p) in
    rw (e, g) (PaintsSession.painted done)

-- a paint that fails writes nothing
unpainted-out : (old new : OpenSession) (out filled : List ℕ) (r : Result ℕ ℕ) (code told : ℕ) → r ≡ Err code → PaintsOpenSession old new out filled r
    → PaintsSession (Some old) (Some new) out filled code told told
unpainted-out old new out filled r code told is p =
    PaintsSession.unpainted (subst (λ (x : Result ℕ ℕ). PaintsOpenSession old new out filled x) is p)

pub paints-refused : (old new : Option OpenSession) (h before k : OpenSession) (out filled : List ℕ) (told code : ℕ) (r : Result ℕ ℕ)
    → old ≡ Some h → before ≡ h → new ≡ Some k → r ≡ Err code → PaintsOpenSession before k out filled r
    → PaintsSession old new out filled code told told
paints-refused old new h before k out filled told code r e f g is p =
    rw (e, g) (unpainted-out h k out filled r code told is (subst (λ (x : OpenSession). PaintsOpenSession x k out filled r) f p))

pub paints-closed : (old new : Option OpenSession) (out : List ℕ) (told : ℕ) → old ≡ None → new ≡ None → PaintsSession old new out out 1 told told
paints-closed old new out told e f = rw (e, f) PaintsSession.closed

-- repaints

pub forgets : (old new : Option OpenSession) (h before k : OpenSession) → old ≡ Some h → before ≡ h → new ≡ Some k → ForgetsOpen before k → Forgets old new
forgets old new h before k e f g w = rw (e, g) (Forgets.open_one (subst (λ (x : OpenSession). ForgetsOpen x k) f w))

pub forgets-closed : (old new : Option OpenSession) → old ≡ None → new ≡ None → Forgets old new
forgets-closed old new e f = rw (e, f) Forgets.closed
