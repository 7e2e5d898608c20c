use Rattle.std.proofs.Common.{◌∙◌}
use Rattle.scm_pager.proofs.PageLemmas.{has-status, page-is}
use Rattle.scm_pager.proofs.draw.page_of.Goals as goal

pub put_status-requires : goal.put_status-requires
put_status-requires c = has-status c.args.width c.args.height _ c.in_ok-grid.grid c.if-height-eq0.false c.in_ok-grid.ensures.ok c.in_ok-put_lines.ensures.height

pub returns-clause-ok : goal.returns-clause-ok
returns-clause-ok c =
    page-is c.args.pager c.args.file.now c.args.width c.args.height c.args.window.now.rows c.rows.result.now c.as_str.result.now c.as_str-2.result.now
    c.in_ok-grid.grid c.put_lines.new.grid c.put_status.new.grid c.if-height-eq0.false c.in_ok-grid.ensures.ok
    (c.as_str.ensures.value ∙ c.in_ok-left.ensures.ok) (c.as_str-2.ensures.value ∙ c.in_ok-right.ensures.ok) c.rows.ensures
    c.in_ok-put_lines.ensures.ok c.in_ok-put_lines.ensures.width c.in_ok-put_status.ensures.ok
