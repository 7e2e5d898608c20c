use Rattle.std.proofs.Common.{◌≡◌, ◌≤◌, drop, max}
use Rattle.scm_merge.specs.Style.{marker_len}
use Rattle.scm_merge.proofs.style.marker_len.Given as goal

abbrev pub invariant-loop-line : goal.invariant-loop-line
invariant-loop-line l = record {
  greatest : max l.len (marker_len l.least (drop l.line-index l.lines)) ≡ marker_len l.least l.lines;
  least : l.least ≤ l.len;
}
