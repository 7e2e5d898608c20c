use Rattle.std.proofs.Common.{sym, refl}
use Rattle.scm_types.proofs.EditLemmas.{slice_set-changed, modify-past}
use Rattle.scm_selection.specs.KeyFlags.{with_own_flag}
use Rattle.scm_selection.proofs.key_flags.put_file_flag.Goals as goal

pub returns-then-file-flags : goal.returns-then-file-flags
returns-then-file-flags c = slice_set-changed (with_own_flag c.args.is_set) c.args.flags.now c.args.file c.index-flags-file.result _ c.if-file-flags.true refl

pub returns-else-file-flags : goal.returns-else-file-flags
returns-else-file-flags c = sym (modify-past (with_own_flag c.args.is_set) c.args.flags.now c.args.file c.if-file-flags.false)
