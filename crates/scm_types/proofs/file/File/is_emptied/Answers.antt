use Rattle.std.proofs.Common.{refl}
use Rattle.scm_types.proofs.file.File.is_emptied.Goals as goal

pub returns : goal.returns
returns c =
    rw (c.is_absent-is_there.ensures, c.is_absent-was_absent.ensures, c.has_changed_line_in-has_changed_line.ensures, c.side_mode.ensures, c.requires) refl
