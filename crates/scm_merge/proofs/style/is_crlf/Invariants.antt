use Rattle.std.proofs.Common.{◌≡◌, drop}
use Rattle.scm_merge.specs.Style.{is_crlf}
use Rattle.scm_merge.proofs.style.is_crlf.Given as goal

abbrev pub invariant-loop-line : goal.invariant-loop-line
invariant-loop-line l = is_crlf l.lines ≡ is_crlf (drop l.line-index l.lines)
