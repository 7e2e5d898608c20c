use Rattle.std.proofs.Common.{arith}
use Rattle.scm_render.proofs.DrawLemmas.{spans_width-step, spans_width-fits, texts_width-none, spans-none}
use Rattle.scm_widgets.proofs.clipped_drawing.spans_width.Goals as goal

pub overflow_add-columns : goal.overflow_add-columns
overflow_add-columns c =
    let fits = spans_width-fits c.args.spans.now c.loop-span.span-index c.loop-span.columns c.text_width-columns.result _ _ (omega arith) c.text_width-columns.ensures.value c.loop-span.invariant in
    omega (arith, fits, c.requires)

pub loop-span-preserved : goal.loop-span-preserved
loop-span-preserved c = rw c.text_width-columns.ensures.value (spans_width-step c.args.spans.now c.loop-span.span-index c.loop-span.columns _ _ (omega arith) c.loop-span.invariant)

pub returns : goal.returns
returns c = omega (arith, c.loop-span.invariant, texts_width-none _ (spans-none c.args.spans.now c.loop-span.span-index (omega arith)))
