use Rattle.std.proofs.Common.{◌≡◌, ◌∙◌, ℕ, List, length, ap, sym, arith}
use Rattle.scm_rows.specs.declared.section_shape.SectionShape.{SectionShape}
use Rattle.scm_layout.proofs.SectionStackLemmas.{length-by}
use Rattle.scm_layout.proofs.section_stack.SectionStack.blank.Goals as goal

pub returns : goal.returns
returns c =
    let first : length c.from.result ≡ c.args.count = omega (arith, ap (λ (ts : List ℕ). length ts) c.from.ensures, c.in_ok-tops.ensures.len) in
    let second : length c.from-2.result ≡ c.args.count = omega (arith, ap (λ (ks : List SectionShape). length ks) c.from-2.ensures, c.in_ok-shapes.ensures.len) in
    length-by c.from.result 0 c.from-2.result (first ∙ sym second) ∙ first
