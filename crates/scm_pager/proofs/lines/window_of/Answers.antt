use Rattle.std.proofs.Common.{◌≡◌, refl, sym, ◌∙◌}
use Rattle.scm_pager.specs.Windows.{after_sections, empty_window}
use Rattle.scm_pager.proofs.SectionLemmas.{side-count, side-rows}
use Rattle.scm_pager.proofs.lines.window_of.Goals as goal

pub returns-clause-count : goal.returns-clause-count
returns-clause-count c =
    let taken : after_sections c.args.selected c.new-window.result c.as_slice.result.now
    ≡ after_sections c.args.selected (empty_window c.args.top c.args.height) c.args.file.now.sections = rw (c.new-window.ensures, c.as_slice.ensures) refl in
    side-count c.args.selected c.args.top c.args.height c.args.file.now c.offer_all.new.self
    (sym c.is_replaced.ensures ∙ c.if-is_replaced.false) (c.in_ok-offer_all.ensures ∙ taken)

pub returns-clause-rows : goal.returns-clause-rows
returns-clause-rows c =
    let taken : after_sections c.args.selected c.new-window.result c.as_slice.result.now
    ≡ after_sections c.args.selected (empty_window c.args.top c.args.height) c.args.file.now.sections = rw (c.new-window.ensures, c.as_slice.ensures) refl in
    side-rows c.args.selected c.args.top c.args.height c.args.file.now c.offer_all.new.self
    (sym c.is_replaced.ensures ∙ c.if-is_replaced.false) (c.in_ok-offer_all.ensures ∙ taken)
