use Rattle.std.proofs.Common.{refl}
use Rattle.std.specs.Char.{encode_utf8}
use Rattle.scm_overlay.specs.Tables.{help_lines}
use Rattle.scm_overlay.proofs.help_dialog.help_lines.Goals as goal

pub returns : goal.returns
unfolding help_lines encode_utf8
returns c = refl
