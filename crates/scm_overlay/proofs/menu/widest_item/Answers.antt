use Rattle.std.proofs.Common.{◌∙◌, sym}
use Rattle.scm_overlay.proofs.MenuPartsLemmas.{widest_item-more, widest_item-end}
use Rattle.scm_overlay.proofs.menu.widest_item.Goals as goal

pub loop-item-preserved : goal.loop-item-preserved
loop-item-preserved c =
    let more = rw (sym c.item-item.is) at (widest_item-more c.args.items.now c.loop-item.item-index c.loop-item.widest c.item-item.result c.loop-item-test.true) in
    rw (c.max-widest.ensures, c.in_ok-width.ensures.ok, c.button.ensures) (more ∙ c.loop-item.invariant)

pub returns : goal.returns
returns c = record { ok = sym (widest_item-end c.args.items.now c.loop-item.item-index c.loop-item.widest c.loop-item-test.false) ∙ c.loop-item.invariant }
