-- The contents of a store, from its fields.
use Rattle.std.specs.Prelude.{map, option_map, string_bytes}
use Rattle.scm_input.specs.Store.{Store}
use Rattle.scm_input.specs.declared.screens.Screens.TheInside.{Inside}

-- the texts as bytes, and the number of frames
abbrev pub store_of : Inside → Store
store_of s = record { texts = map (λ text. option_map string_bytes text) s.texts.items; frames = s.frames }
