use Rattle.std.proofs.Common.{Some, ◌∙◌, ap, sym}
use Rattle.scm_layout_index.proofs.ShownLineLemmas.{found-line}
use Rattle.scm_layout_index.proofs.row_owners.owner_of_found.Goals as goal

pub returns-in-Some-line_among : goal.returns-in-Some-line_among
returns-in-Some-line_among c =
    rw c.in-Some.is
    (ap Some c.line_owner.ensures
    ∙ sym (found-line c.args.width c.args.owners.now.row c.args.column c.in-Some.found c.in-Some-line_among.key (sym c.line_among.ensures ∙ c.in-Some-line_among.is)))
