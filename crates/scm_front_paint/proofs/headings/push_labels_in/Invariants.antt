use Rattle.std.proofs.Common.{◌≤◌, drop}
use denote.Text.{Utf8}
use denote.Shadow.{shadow}
use Rattle.scm_front_paint.specs.Headings.{Gains, labels_below, labels_in}
use Rattle.scm_front_paint.proofs.headings.push_labels_in.Given as goal

-- the labels of the sections so far are there, and no more sections than those are editable
abbrev pub invariant-loop-index : goal.invariant-loop-index
invariant-loop-index l =
    shadow (Utf8 l.heading)
    × Gains (labels_in l.file l.sections) (labels_below l.file l.total l.index l.number l.heading (drop l.index l.sections)) l.fn.labels l.labels
    × (l.number ≤ l.index)
