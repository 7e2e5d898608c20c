use Rattle.std.proofs.Common.{◌≡◌, map, take}
use Rattle.scm_front_paint.specs.Words.{columns_of_span}
use Rattle.scm_front_paint.proofs.pair_words.columns_of_spans.Given as goal

abbrev pub invariant-loop-span : goal.invariant-loop-span
invariant-loop-span l = l.columns.items ≡ map (columns_of_span l.edge l.pair.is_old l.pair.old.now l.pair.new.now) (take l.span-index l.spans)
