-- The equality of ids that a map of boxes uses.
use Rattle.std.specs.Prelude.{Bool}
use Rattle.scm_render.specs.Hits.{IsLawful}
use Rattle.scm_widgets.specs.declared.ids.ComponentId.{ComponentId}
use Rattle.scm_widgets.specs.contracts.ids.ComponentIdPartialEq.TheImpl as equality

-- `==` of ids.
abbrev pub same_id : ComponentId → ComponentId → Bool
same_id = equality.ghosts.eq

-- `==` is true for two ids exactly if they are the same id.
abbrev pub IdsAreToldApart : Type 0
IdsAreToldApart = IsLawful same_id
