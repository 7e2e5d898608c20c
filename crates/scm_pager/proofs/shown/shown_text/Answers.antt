use Rattle.std.proofs.Common.{string_bytes}
use Rattle.scm_pager.proofs.ShownLemmas.{spans-next}
use Rattle.scm_pager.proofs.shown.shown_text.Goals as goal

pub loop-span-preserved : goal.loop-span-preserved
loop-span-preserved c =
    spans-next (string_bytes c.loop-span.shown) (string_bytes c.push_str.new.self) _ c.deref-span-items.result.now c.loop-span.span-index _
    c.loop-span-test.true c.in_ok-push_str.ensures.bytes c.loop-span.invariant
