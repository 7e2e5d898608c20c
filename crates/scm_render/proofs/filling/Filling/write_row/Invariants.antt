use Rattle.std.proofs.Common.{◌≡◌, ◌++◌, ◌-◌}
use Rattle.std.specs.Prelude.{pos, ◌+ℤ◌, string_bytes}
use Rattle.scm_render.specs.Drawing.{row_text}
use Rattle.scm_render.proofs.filling.Filling.write_row.Given as goal

abbrev pub invariant-loop-offset : goal.invariant-loop-offset
invariant-loop-offset l = string_bytes l.text ++ row_text l.self (l.x +ℤ pos l.offset) l.y (l.width - l.offset) ≡ row_text l.self l.x l.y l.width
