use Rattle.std.proofs.Common.{◌≡◌, length}
use Rattle.std.specs.List.{list_all}
use denote.Shadow.{shadow}
use denote.Text.{Utf8}
use Rattle.scm_types.specs.Limits.{is_short_text}
use Rattle.scm_embed.specs.Lines.{lines_of}
use Rattle.scm_embed.proofs.lines.has_short_lines.Given as goal

abbrev pub invariant-cuts : goal.invariant-cuts
invariant-cuts l = record {
  utf8 : shadow (Utf8 l.rest);
  all : list_all is_short_text (lines_of l.fn.text) ≡ list_all is_short_text (lines_of l.rest);
}

abbrev pub decreases-cuts : goal.decreases-cuts
decreases-cuts l = length l.rest
