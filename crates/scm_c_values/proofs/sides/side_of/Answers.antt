use Rattle.std.proofs.Common.{Bool, sym, ap, ◌∙◌}
use Rattle.scm_types.specs.Split.{side_of}
use Rattle.scm_c_values.proofs.sides.side_of.Goals as goal

pub returns-then-selected : goal.returns-then-selected
returns-then-selected c = c.in-Ok.ensures.selected ∙ ap (λ (s : Bool). side_of s c.args.file.now) (sym c.if-selected.true)

pub returns-in-Ok : goal.returns-in-Ok
returns-in-Ok c = c.in-Ok.ensures.unselected ∙ ap (λ (s : Bool). side_of s c.args.file.now) (sym c.if-selected.false)
