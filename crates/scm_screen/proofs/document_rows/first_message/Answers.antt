use Rattle.std.proofs.Common.{◌∙◌, ap, sym, List}
use Rattle.std.specs.Prelude.{slice_get}
use Rattle.scm_types.specs.declared.state.Commit.{Commit}
use Rattle.scm_document.specs.Rows.{lent_text}
use Rattle.scm_view.specs.ViewState.{ViewState}
use Rattle.scm_screen.proofs.MessageLemmas.{first-commit, no-commit}
use Rattle.scm_screen.proofs.document_rows.first_message.Goals as goal

pub returns-in_err-get : goal.returns-in_err-get
returns-in_err-get c =
    let none = ap (λ (cs : List Commit). slice_get cs 0) (sym (ap (λ (v : ViewState). v.state.commits) c.shown.view_is)) ∙ sym c.in_err-get.ensures in
    ap lent_text c.from_residual.ensures ∙ sym (no-commit c.args.shown.now.state.commits none)

pub returns : goal.returns
returns c =
    let some = ap (λ (cs : List Commit). slice_get cs 0) (sym (ap (λ (v : ViewState). v.state.commits) c.shown.view_is)) ∙ sym c.in_ok-get.ensures in
    c.message_of.ensures ∙ sym (ap (λ (d : Commit). d.message) (first-commit c.args.shown.now.state.commits _ some))
