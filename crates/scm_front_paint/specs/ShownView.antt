-- The styles of the code's screens.
use Rattle.std.specs.Prelude.{ℕ, ◌+◌, map}
use Rattle.scm_cells.specs.declared.style.Style.{Style}
use Rattle.scm_front_paint.specs.declared.shown.Shown.{Shown}
use Rattle.scm_front_paint.specs.declared.shown.Moved.{Moved}
use Rattle.scm_front_paint.specs.Below.{shown_style}
use Rattle.scm_front_paint.specs.Capped.{capped}
use Rattle.scm_front_paint.specs.WordsView.{columns_in}

-- the style of a place of the window
abbrev pub style_in : Shown → ℕ → ℕ → Style
style_in s row column = shown_style s.theme s.anchor (map columns_in s.words.now) s.syntax.now s.session.now row column

-- the style of a place of the terminal
abbrev pub moved_style : Moved → ℕ → ℕ → Style
moved_style m row column = style_in m.shown.now row (capped (column + m.x))
