use Rattle.std.proofs.Common.{drop}
use Rattle.scm_front_paint.specs.Headings.{Gains, labels_from}
use Rattle.scm_front_paint.proofs.headings.push_labels.Given as goal

-- the labels of the files so far are there
abbrev pub invariant-loop-index : goal.invariant-loop-index
invariant-loop-index l = Gains (labels_from 0 l.files) (labels_from l.index (drop l.index l.files)) l.fn.labels l.labels
