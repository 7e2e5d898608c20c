-- Places and widths far from the ends of their range: what is drawn there is in range.
use Rattle.std.specs.Prelude.{Option, Some, None, ℕ, ◌^◌, ◌≤◌, List, [], ◌∷◌}
use Rattle.scm_cells.specs.Clusters.{text_width}
use Rattle.scm_cells.specs.Rect.{end_x_of}
use Rattle.scm_render.specs.Canvas.{Sight}
use Rattle.scm_render.specs.Drawing.{mask_or, texts_width}
use Rattle.scm_widgets.specs.Texts.{box_text}
use Rattle.scm_document.specs.Texts.{message_text}
use Rattle.scm_widgets.specs.Boxes.{IdBox}
use Rattle.scm_document.specs.Rows.{Heading, DocRow, HeaderRow, SectionRow, LineRow, MarkRow, ContextRow, DotsRow, BlankRow, ShownSection, ShownFile, Document}
use Rattle.scm_widgets.proofs.Near.{IsNear}

-- the columns that the screen shows are near, and the mask's first one
pub record SightIsNear (s : Sight) : Type 0 where
  pub x : IsNear s.rect.x
  pub end_x : IsNear (end_x_of s.rect)
  pub mask_x : IsNear (mask_or s.mask s.rect).x

abbrev pub IsNarrow : List (List ℕ) → Type 0
IsNarrow ts = texts_width ts ≤ 2 ^ 60

abbrev pub IsNarrowBox : IdBox → Type 0
IsNarrowBox b = text_width (box_text b) ≤ 2 ^ 60

pub record IsNarrowHeading (h : Heading) : Type 0 where
  pub toggle : IsNarrowBox h.toggle
  pub fold : IsNarrowBox h.fold
  pub title : IsNarrow (h.title ∷ [])

-- the texts of a row are narrow
abbrev pub IsNarrowRow : DocRow → Type 0
IsNarrowRow (HeaderRow key h) = IsNarrowHeading h
IsNarrowRow (SectionRow selected h) = IsNarrowHeading h
IsNarrowRow (LineRow key b ts) = IsNarrowBox b × IsNarrow ts
IsNarrowRow (MarkRow selected b t) = IsNarrowBox b × IsNarrow (t ∷ [])
IsNarrowRow (ContextRow key ts) = IsNarrow ts
IsNarrowRow (DotsRow t) = text_width t ≤ 2 ^ 60
IsNarrowRow BlankRow = Unit {0}

abbrev pub AreNarrow : List DocRow → Type 0
AreNarrow [] = Unit {0}
AreNarrow (r ∷ rs) = IsNarrowRow r × AreNarrow rs

abbrev pub AreNarrowSections : List ShownSection → Type 0
AreNarrowSections [] = Unit {0}
AreNarrowSections (p ∷ ps) = AreNarrow p.rows × AreNarrowSections ps

pub record IsNarrowFile (f : ShownFile) : Type 0 where
  pub heading : IsNarrowHeading f.heading
  pub sections : AreNarrowSections f.sections

abbrev pub AreNarrowFiles : List ShownFile → Type 0
AreNarrowFiles [] = Unit {0}
AreNarrowFiles (f ∷ fs) = IsNarrowFile f × AreNarrowFiles fs

abbrev pub IsNarrowMessage : Option (List ℕ) → Type 0
IsNarrowMessage None = Unit {0}
IsNarrowMessage (Some message) = IsNarrow (message_text message ∷ [])

pub record IsNarrowDocument (d : Document) : Type 0 where
  pub message : IsNarrowMessage d.message
  pub files : AreNarrowFiles d.files
