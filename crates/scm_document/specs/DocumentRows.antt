-- The layers of a document on a screen, and the row range of each key.
use Rattle.std.specs.Prelude.{ℕ, ◌-◌, ◌+◌, ◌==◌, List, [], ◌∷◌, if◌then◌else◌, Option, Some, None}
use Rattle.scm_types.specs.declared.keys.SelectionKey.{SelectionKey}
use Rattle.scm_widgets.specs.declared.ids.ComponentId.{ComponentId}
use Rattle.scm_types.specs.Keys.{is_key}
use Rattle.scm_document.specs.Rows.{Document}
use Rattle.scm_widgets.specs.Layers.{Layer}
use Rattle.scm_document.specs.Strips.{document_layers}
use Rattle.scm_document.specs.Places.{Place}

-- The layers of a document; the screen has `h - 1` rows for it below the menu bar.
abbrev pub rows_layers : ℕ → ℕ → ℕ → Document → List (Layer ComponentId)
rows_layers w h s d = document_layers w (h - 1) (s + 1) 1 d

-- ---- keys

-- The first row of a place and its number of rows; `None` without rows, since such a key is not drawn.
abbrev pub rows_of_place : Place → Option (ℕ × ℕ)
rows_of_place p = if p.rows == 0 then None else Some (p.top, p.rows)

-- The first row of the key's place and its number of rows.
unfoldable pub rows_of_key : SelectionKey → List Place → Option (ℕ × ℕ)
rows_of_key k [] = None
rows_of_key k (p ∷ ps) = if is_key k p.key then rows_of_place p else rows_of_key k ps
