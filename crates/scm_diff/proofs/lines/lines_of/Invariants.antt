use Rattle.std.proofs.Common.{◌≡◌, ◌++◌, length}
use denote.Shadow.{shadow}
use denote.Text.{Utf8}
use Rattle.scm_embed.specs.Lines.{lines_of}
use Rattle.scm_diff.proofs.lines.lines_of.Given as goal

abbrev pub invariant-cuts : goal.invariant-cuts
invariant-cuts l = record {
  utf8 : shadow (Utf8 l.rest);
  lines : l.lines.items ++ lines_of l.rest ≡ lines_of l.fn.text;
}

abbrev pub decreases-cuts : goal.decreases-cuts
decreases-cuts l = length l.rest
