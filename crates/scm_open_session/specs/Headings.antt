-- Headings of sections: the lines that sections stand in, which a layer shows behind their titles.
use Rattle.std.specs.Prelude.{◌≡◌, ℕ, List, false, Option, Some, None}
use Rattle.scm_front_paint.specs.declared.labels.Label.{Label}
use Rattle.scm_front_paint.specs.declared.painter.FrontPainter.{FrontPainter}
use Rattle.scm_front_paint.specs.Below.{pictures_of}
use Rattle.scm_front_paint.specs.Headings.{AreNamed, AreSomeNamed}
use Rattle.scm_front_paint.specs.Seen.{Seen, files_of}
use Rattle.scm_open_session.specs.declared.open_session.OpenSession.{OpenSession}
use Rattle.scm_open_session.specs.declared.open_session.Stage.{Stage}
use Rattle.scm_open_session.specs.declared.open_session.Stage.TheVariants.{Waiting}
use Rattle.scm_open_session.specs.declared.painters.Painters.{Painters}
use Rattle.scm_open_session.specs.declared.running.Running.TheVariants as running
use Rattle.scm_open_session.specs.LayerCalls.{is_view}

-- The labels of the painter of a layer change by `Goes`. All else stays, and what it painted last too: so the next update has the rows that
-- show labels.
pub record ChangesLabels (Goes : List Label → List Label → Type 0) (old new : FrontPainter) : Type 0 where
  pub labels : Goes old.labels new.labels
  pub pictures : pictures_of new ≡ pictures_of old
  pub theme : new.theme ≡ old.theme

-- The labels of a layer change by `Goes`. All else stays.
pub record HaveLabels (Goes : List Label → List Label → Type 0) (old new : Painters) : Type 0 where
  pub plain : new.plain ≡ old.plain
  pub layered : ChangesLabels Goes old.layered new.layered
  pub theme : new.theme ≡ old.theme
  pub accept : new.accept ≡ old.accept

-- `gabro_name_sections` at a stage, with its code. If an allocation failed, some sections are named.
pub data NamesAt (old new : Painters) : Stage → ℕ → Type 0 where
  named : {v : Seen} → HaveLabels (AreNamed (files_of v)) old new → NamesAt old new (Waiting (running.Layered v)) 0
  some_named : {v : Seen} → HaveLabels (AreSomeNamed (files_of v)) old new → NamesAt old new (Waiting (running.Layered v)) 8
  no_view : {stage : Stage} → is_view stage ≡ false → new ≡ old → NamesAt old new stage 2

-- The same of a session.
pub data NamesSections : Option OpenSession → Option OpenSession → ℕ → Type 0 where
  closed : NamesSections None None 1
  open_one : {old new : OpenSession} {code : ℕ} → NamesAt old.painter new.painter old.stage code → new.stage ≡ old.stage
      → new.decoder ≡ old.decoder → NamesSections (Some old) (Some new) code
