-- Dialogs whose buttons own their columns: they have columns, and ids of their own.
use Rattle.std.specs.Prelude.{◌≡◌, ◌⊎◌, ◌<◌, Bool, true, false, List, [], ◌∷◌}
use Rattle.scm_widgets.specs.declared.button.Button.{Button}
use Rattle.scm_widgets.specs.Buttons.{button_width}
use Rattle.scm_widgets.specs.ShownDialogs.{ShownDialog}

module _ {K : Type 0} (same_id : K → K → Bool) (is_clickable : K → Bool) where
  -- the id of one of the buttons
  abbrev pub IsOneOf : List (Button K) → K → Type 0
  IsOneOf [] i = ⊥
  IsOneOf (b ∷ bs) i = (i ≡ b.id) ⊎ IsOneOf bs i

  -- buttons with columns, of different ids, each of which a click acts on
  abbrev pub AreButtons : List (Button K) → Type 0
  AreButtons [] = Unit {0}
  AreButtons (b ∷ bs) = (0 < button_width b) × (is_clickable b.id ≡ true) × ((j : K) → IsOneOf bs j → same_id b.id j ≡ false) × AreButtons bs

  -- a dialog of an id of its own, all of which belongs to one part of the screen
  pub record IsDialog (P : K → Type 0) (d : ShownDialog K) : Type 0 where
    pub buttons : AreButtons d.buttons
    pub click : is_clickable d.id ≡ true
    pub own : (j : K) → IsOneOf d.buttons j → same_id d.id j ≡ false
    pub part : P d.id
    pub parts : (j : K) → IsOneOf d.buttons j → P j
