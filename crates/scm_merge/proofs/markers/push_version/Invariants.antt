use Rattle.std.proofs.Common.{◌≡◌, ◌++◌, take}
use Rattle.scm_merge.specs.Markers.{version_lines}
use Rattle.scm_merge.proofs.markers.push_version.Given as goal

abbrev pub invariant-loop-text : goal.invariant-loop-text
invariant-loop-text l = l.lines.items ≡ l.fn.lines.items ++ version_lines l.is_crlf (take l.text-index l.texts)
