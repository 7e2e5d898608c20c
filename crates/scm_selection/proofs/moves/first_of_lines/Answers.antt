use Rattle.std.proofs.Common.{◌<◌, length, arith}
use Rattle.scm_selection.specs.KeySet.{has_key}
use Rattle.scm_selection.specs.KeysAround.{is_stop}
use Rattle.scm_selection.proofs.FindLemmas.{first_line, lines-alike}
use Rattle.scm_selection.proofs.moves.first_of_lines.Goals as goal

pub returns-then-from-count : goal.returns-then-from-count
returns-then-from-count c = λ lines e.
    let within : c.args.from < length lines = omega (arith, e, c.if-from-count.true) in
    rw (first_line (is_stop c.args.reach (has_key c.args.expanded.now)) c.args.file c.args.section (lines-alike c.args.reach (has_key c.args.expanded.now) c.args.file c.args.section) c.args.from lines within, ← c.line_key.ensures) c.stop_at.ensures
