use Rattle.std.proofs.Common.{◌≡◌, ◌∙◌, ◌+◌, ◌-◌, ◌==◌, List, length, true, false, ap, sym}
use Rattle.scm_types.specs.declared.file.File.{File}
use Rattle.scm_render.specs.Centring.{centred_gap}
use Rattle.std.specs.Prelude.{option_map}
use Rattle.scm_strips.specs.ShownRows.{row_of}
use Rattle.scm_strips.proofs.RowLemmas.{on-ok}
use Rattle.scm_view.specs.ViewState.{ViewState}
use Rattle.scm_view.specs.Window.{inline_document}
use Rattle.scm_screen.specs.DocumentRows.{words_row}
use Rattle.scm_screen.proofs.EachLemmas.{document-long, header-over, words-over}
use Rattle.scm_screen.proofs.paint.paint_top.Goals as goal

pub returns-then-is_empty-clause-ok : goal.returns-then-is_empty-clause-ok
returns-then-is_empty-clause-ok c =
    let s = c.args.shown.now in
    let h = length c.args.grid.now.rows in
    let files = ap (λ (fs : List File). length fs) (sym (c.as_slice.ensures ∙ ap (λ (v : ViewState). v.state.files) c.shown.view_is)) in
    let none : (length (inline_document s).files == 0) ≡ true = ap (λ n. n == 0) (document-long s ∙ files) ∙ sym c.is_empty.ensures ∙ c.if-is_empty.true in
    let row : 1 + c.centred_gap-row.result ≡ words_row h =
    ap (λ n. 1 + n) (c.centred_gap-row.ensures.gap ∙ ap (λ n. centred_gap n 1 50) (c.saturating_sub.ensures ∙ ap (λ n. n - 1) c.height.ensures.value)) in
    on-ok c.paint_over.result (λ p. p ∙ words-over c.args.area h c.args.scroll (1 + c.centred_gap-row.result) (inline_document s) c.args.grid.now.rows none row) c.paint_over.ensures.ok

pub returns-else-is_empty-clause-ok : goal.returns-else-is_empty-clause-ok
returns-else-is_empty-clause-ok c =
    let s = c.args.shown.now in
    let h = length c.args.grid.now.rows in
    let files = ap (λ (fs : List File). length fs) (sym (c.as_slice.ensures ∙ ap (λ (v : ViewState). v.state.files) c.shown.view_is)) in
    let some : (length (inline_document s).files == 0) ≡ false = ap (λ n. n == 0) (document-long s ∙ files) ∙ sym c.is_empty.ensures ∙ c.if-is_empty.false in
    on-ok c.paint_over-else-is_empty.result (λ p. p ∙ header-over c.args.area h c.args.scroll (inline_document s) (option_map row_of c.pinned_header-header.result) c.args.grid.now.rows some c.pinned_header-header.ensures)
    c.paint_over-else-is_empty.ensures.ok
