-- The values of boxes.
use Rattle.std.specs.Prelude.{Option, Some, None}
use Rattle.std.specs.declared.boxed.Box.{Box}
use Rattle.std.specs.declared.alloc.Global.{Global}

-- The value in an optional box, if there is a box.
abbrev pub box_value : {A : Type 0} → Option (Box A Global) → Option A
box_value None = None
box_value (Some b) = Some b.value
