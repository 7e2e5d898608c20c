use Rattle.std.proofs.Common.{◌≡◌, ◌∙◌, ◌<◌, length, ap, sym, arith}
use Rattle.std.proofs.lemmas.Bool.Decides.{nat_tests}
use Rattle.scm_layout.specs.Refolds.{last_end}
use Rattle.scm_layout.proofs.SectionStackLemmas.{last-back, last-none}
use Rattle.scm_layout.proofs.section_stack.SectionStack.last_end.Goals as goal

pub returns-else-is_empty : goal.returns-else-is_empty
returns-else-is_empty c =
    let s = c.self.inside in
    let some : 0 < length s.tops = grind (arith, nat_tests, c.is_empty.ensures, c.if-is_empty.false) in
    sym (last-back 0 s.tops s.end s.shapes c.self.invariant some) ∙ ap (last_end 0) c.self.view_is

pub returns-then-is_empty : goal.returns-then-is_empty
returns-then-is_empty c =
    let s = c.self.inside in
    let none : length s.tops ≡ 0 = grind (arith, nat_tests, c.is_empty.ensures, c.if-is_empty.true) in
    sym (last-none s.tops s.end s.shapes none) ∙ ap (last_end 0) c.self.view_is
