use Rattle.std.proofs.Common.{sym, refl}
use Rattle.scm_types.proofs.EditLemmas.{slice_set-changed, modify-past}
use Rattle.scm_selection.proofs.key_flags.put_at.Goals as goal

pub returns-then-index-flags : goal.returns-then-index-flags
returns-then-index-flags c = slice_set-changed (λ _. c.args.is_set) c.args.flags.now c.args.index c.args.is_set c.args.is_set c.if-index-flags.true refl

pub returns-else-index-flags : goal.returns-else-index-flags
returns-else-index-flags c = sym (modify-past (λ _. c.args.is_set) c.args.flags.now c.args.index c.if-index-flags.false)
