-- A dialog as a value: its id, its title, its body and its buttons.
use Rattle.std.specs.Prelude.{ℕ, List}
use Rattle.scm_widgets.specs.declared.button.Button.{Button}

-- The content of a dialog: its title, the lines of its body, and its buttons from the right.
pub record ShownDialog (K : Type 0) : Type 0 where
  -- the dialog's id
  pub id : K
  -- its title
  pub title : List ℕ
  -- the lines of its body, from the top
  pub body : List (List ℕ)
  -- its buttons, from the right
  pub buttons : List (Button K)
