use Rattle.std.proofs.Common.{ap, ◌∙◌, true}
use Rattle.scm_diff.specs.Bytes.{side_bytes}
use Rattle.scm_merge.proofs.markers.bytes_with_markers.Goals as goal

pub returns : goal.returns
returns c = c.in_ok-bytes.ensures ∙ ap (side_bytes true) c.in_ok-copy.ensures
