use Rattle.std.proofs.Common.{◌∙◌, ap, sym, List}
use Rattle.std.specs.Prelude.{ℕ, Option, option_map}
use Rattle.scm_document.specs.Rows.{lent_text}
use Rattle.scm_screen.specs.DocumentRows.{message_rows, row_in}
use Rattle.scm_screen.proofs.MessageLemmas.{none_in}
use Rattle.scm_screen.proofs.document_rows.message_row.Goals as goal

pub returns-in_err-first_message : goal.returns-in_err-first_message
returns-in_err-first_message c =
    let none = sym c.first_message.ensures ∙ ap lent_text c.in_err-first_message.was in
    ap (option_map _) c.from_residual.ensures
    ∙ sym (ap (λ (m : Option (List ℕ)). row_in (message_rows 0 m) c.args.row) none ∙ none_in c.args.row)

pub returns : goal.returns
returns c =
    let some = sym c.first_message.ensures ∙ ap lent_text c.in_ok-first_message.was in
    c.row_of_message.ensures ∙ sym (ap (λ (m : Option (List ℕ)). row_in (message_rows 0 m) c.args.row) some)
