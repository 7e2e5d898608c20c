use Rattle.std.proofs.Common.{◌≡◌, ◌∙◌, ◌+◌, ◌-◌, ap, arith, take}
use Rattle.scm_cells.proofs.BeginningLemmas.{IsBeginning-printable}
use Rattle.scm_cells.proofs.beginnings.first_bytes.Goals as goal

pub returns-then-text-columns-gt1 : goal.returns-then-text-columns-gt1
returns-then-text-columns-gt1 c =
    let whole : (c.args.columns + 1) - 0 ≡ c.args.columns + 1 = omega arith in
    IsBeginning-printable c.args.columns _ _ c.utf8.text c.requires.printable (omega arith) (c.range.ensures.value ∙ ap (λ n. take n c.args.text.now) whole)
