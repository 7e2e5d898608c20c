use Rattle.std.proofs.Common.{◌≡◌, ◌+◌, ◌-◌, ◌<◌, [], ◌∷◌, length, ap, sym, ◌∙◌, arith}
use Rattle.std.specs.Prelude.{find, min}
use Rattle.scm_selection.specs.KeySet.{has_key}
use Rattle.scm_selection.specs.KeyLists.{line_key, line_keys}
use Rattle.scm_selection.specs.KeysAround.{is_stop, find_last}
use Rattle.scm_selection.proofs.FindLemmas.{take-end, last_line, lines-alike}
use Rattle.scm_selection.proofs.moves.last_of_lines.Goals as goal

pub returns-else-end-eq0 : goal.returns-else-end-eq0
returns-else-end-eq0 c = λ lines e.
    let end = c.min-end.result in
    let i = end - 1 in
    let next : i + 1 ≡ end = omega (arith, c.if-end-eq0.false) in
    let bound : i + 1 ≡ min c.args.upto (length lines) = next ∙ c.min-end.ensures ∙ ap (min c.args.upto) (sym e) in
    let within : i < length lines = omega (arith, bound) in
    let last = last_line (is_stop c.args.reach (has_key c.args.expanded.now)) c.args.file c.args.section (lines-alike c.args.reach (has_key c.args.expanded.now) c.args.file c.args.section) i lines within in
    let known : c.stop_at.result ≡ find (is_stop c.args.reach (has_key c.args.expanded.now)) (line_key c.args.file c.args.section i ∷ []) = rw (← c.line_key.ensures) c.stop_at.ensures in
    known ∙ sym last ∙ ap (λ ls. find_last (is_stop c.args.reach (has_key c.args.expanded.now)) (line_keys c.args.file c.args.section 0 ls)) (take-end c.args.upto (i + 1) lines bound)
