use Rattle.std.proofs.Common.{◌≡◌, ◌∙◌, ℕ, List, [], IfOk, subst, ap, sym, string_bytes, take, drop}
use Rattle.scm_cells.specs.Screen.{Screen}
use Rattle.scm_terminal.specs.Promise.{Paints}
use Rattle.scm_terminal.specs.StyledCell.{StyledCell, picture}
use Rattle.scm_pager.specs.Pages.{page_of, page_picture, page_style}
use Rattle.scm_pager.specs.Sides.{shown_lines}
use Rattle.scm_pager.proofs.PageLemmas.{page-wide, picture-is}
use Rattle.scm_pager.proofs.bytes.paint.Goals as goal

pub returns-clause-ok : goal.returns-clause-ok
returns-clause-ok c =
    let p = c.args.pager in
    let file = c.args.file.now in
    let lines = c.rows.result.now in
    let status = c.saturating_sub-rows.result in
    let page = c.in_ok-grid.grid in
    let shown : picture (page_style lines status) page ≡ page_picture p file c.args.width c.args.height
    = picture-is p file c.args.width c.args.height lines status page
    (c.rows.ensures ∙ c.in_ok-window.ensures.rows ∙ ap (λ (n : ℕ). take n (drop p.top (shown_lines p.selected file))) c.saturating_sub-rows.ensures)
    c.saturating_sub-rows.ensures
    (c.in_ok-grid.ensures.ok ∙ ap (page_of p file c.args.width c.args.height) (sym c.rows.ensures)) in
    let wide : page.width ≡ c.args.width = ap (λ (s : Screen). s.width) c.in_ok-grid.ensures.ok ∙ page-wide p file c.args.width c.args.height c.in_ok-window.window.rows in
    subst (λ (q : List (List StyledCell)). IfOk c.paint.result (λ text. Paints c.args.width [] q (string_bytes text))) shown
    (subst (λ (n : ℕ). IfOk c.paint.result (λ text. Paints n [] (picture (page_style lines status) page) (string_bytes text))) wide
    (subst (λ (old : List (List StyledCell)). IfOk c.paint.result (λ text. Paints page.width old (picture (page_style lines status) page) (string_bytes text)))
    c.new.ensures c.paint.ensures.ok))
