-- What a session is painted with: the painters, labels of sections, and the words of what accepting does.
use Rattle.std.specs.Prelude.{◌≡◌, ℕ, List, []}
use Rattle.scm_front_paint.specs.declared.labels.Label.{Label}
use Rattle.scm_front_paint.specs.declared.painter.FrontPainter.{FrontPainter}
use Rattle.scm_front_paint.specs.declared.themes.Theme.{Theme}
use Rattle.scm_front_paint.specs.declared.themes.Theme.TheVariants as themes
use Rattle.scm_front_paint.specs.Below.{no_pictures, pictures_of}
use Rattle.scm_front_paint.specs.Labels.{with_label}
use Rattle.scm_open_session.specs.declared.painters.Painters.{Painters}

-- The painters of a new session: nothing counts as painted, the theme is the dark one, no section has a label, and the status row has no
-- words of what accepting does.
pub record AreNew (painters : Painters) : Type 0 where
  pub unpainted : painters.plain ≡ []
  pub layer_unpainted : pictures_of painters.layered ≡ no_pictures
  pub theme : painters.theme ≡ themes.Dark
  pub colours : painters.layered.theme ≡ themes.Dark
  pub labels : painters.layered.labels ≡ []
  pub accept : painters.accept ≡ []

-- Nothing counts as painted, and a layer is painted in the colours of the theme. All else stays.
pub record Forget (old new : Painters) : Type 0 where
  pub plain : new.plain ≡ []
  pub layered : pictures_of new.layered ≡ no_pictures
  pub colours : new.layered.theme ≡ old.theme
  pub labels : new.layered.labels ≡ old.layered.labels
  pub theme : new.theme ≡ old.theme
  pub accept : new.accept ≡ old.accept

-- A layer is painted in the colours of this theme, and nothing of it counts as painted. All else stays.
pub record HaveTheme (chosen : Theme) (old new : Painters) : Type 0 where
  pub plain : new.plain ≡ old.plain
  pub layered : pictures_of new.layered ≡ no_pictures
  pub colours : new.layered.theme ≡ chosen
  pub labels : new.layered.labels ≡ old.layered.labels
  pub theme : new.theme ≡ chosen
  pub accept : new.accept ≡ old.accept

-- The status row says by these words what accepting does. All else stays.
pub record HaveWords (text : List ℕ) (old new : Painters) : Type 0 where
  pub plain : new.plain ≡ old.plain
  pub layered : new.layered ≡ old.layered
  pub theme : new.theme ≡ old.theme
  pub accept : new.accept ≡ text

-- The painter of a layer has this label. All else stays, and what it painted last too: so the next update has the rows that show labels.
pub record IsLabelled (label : Label) (old new : FrontPainter) : Type 0 where
  pub labels : new.labels ≡ with_label label old.labels
  pub pictures : pictures_of new ≡ pictures_of old
  pub theme : new.theme ≡ old.theme

-- A layer shows this label. All else stays.
pub record HaveLabel (label : Label) (old new : Painters) : Type 0 where
  pub plain : new.plain ≡ old.plain
  pub layered : IsLabelled label old.layered new.layered
  pub theme : new.theme ≡ old.theme
  pub accept : new.accept ≡ old.accept

-- The label of section `section` of file `file` with a text.
abbrev pub label_of : ℕ → ℕ → List ℕ → Label
label_of file section text = record { file = file; section = section; text = text }
