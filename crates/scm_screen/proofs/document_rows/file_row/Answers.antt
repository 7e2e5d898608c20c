use Rattle.std.proofs.Common.{◌≡◌, ◌∙◌, ◌-◌, ap, sym, suc, arith, Some}
use Rattle.scm_screen.proofs.FoundLemmas.{first-shown, later-shown}
use Rattle.scm_screen.proofs.document_rows.file_row.Goals as goal

pub returns-in-None : goal.returns-in-None
returns-in-None c =
    let first : c.args.row - c.args.found.rows.now.top ≡ 0 = grind (arith, c.in-None.ensures) in
    ap Some c.header_row.ensures ∙ sym (first-shown c.args.shown.now c.args.row c.args.found c.requires first)

pub returns-in-Some : goal.returns-in-Some
returns-in-Some c =
    let next : c.args.row - c.args.found.rows.now.top ≡ suc c.in-Some.below = omega (arith, c.in-Some.ensures.0, c.in-Some.ensures.1) in
    c.section_row.ensures ∙ sym (later-shown c.args.shown.now c.args.row c.in-Some.below c.args.found c.requires next)
