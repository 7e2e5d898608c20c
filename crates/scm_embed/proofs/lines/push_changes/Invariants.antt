use Rattle.std.proofs.Common.{◌≡◌, ◌++◌, length}
use denote.Shadow.{shadow}
use denote.Text.{Utf8}
use Rattle.scm_embed.specs.Lines.{BeginsWith}
use Rattle.scm_embed.specs.Additions.{changed_lines}
use Rattle.scm_embed.proofs.lines.push_changes.Given as goal

abbrev pub invariant-cuts : goal.invariant-cuts
invariant-cuts l = record {
  utf8 : shadow (Utf8 l.rest);
  lines : l.list.items ++ changed_lines l.is_checked l.change_type l.rest ≡ l.fn.list.items ++ changed_lines l.is_checked l.change_type l.fn.text;
  begins : BeginsWith l.fn.list.items l.list.items;
}

abbrev pub decreases-cuts : goal.decreases-cuts
decreases-cuts l = length l.rest
