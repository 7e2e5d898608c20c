use Rattle.scm_front_paint.proofs.WordsLemmas.{borders}
use Rattle.scm_front_paint.proofs.pair_words.columns_of_spans.Goals as goal

pub columns_of_span-requires : goal.columns_of_span-requires
columns_of_span-requires c =
    borders c.args.pair.old.now c.args.pair.new.now c.args.spans.now _ c.requires c.loop-span.span-index c.loop-span-test.true
