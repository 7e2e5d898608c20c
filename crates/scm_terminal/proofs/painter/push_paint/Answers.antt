use Rattle.std.proofs.Common.{◌≡◌, ◌∙◌, sym, true, false, rules}
use Rattle.scm_terminal.specs.RowView.{sent_line_of}
use Rattle.std.specs.Prelude.{map}
use Rattle.scm_terminal.proofs.PushLemmas.{changed-lines, paint-push, paint-none}
use Rattle.scm_terminal.proofs.painter.push_paint.Goals as goal

pub returns-in_ok-push_str-2 : goal.returns-in_ok-push_str-2
returns-in_ok-push_str-2 c =
    let is : c.are_changed.result ≡ true = search rules in
    let changed = changed-lines c.args.rows.now ∙ sym c.are_changed.ensures ∙ is in
    paint-push (map sent_line_of c.args.rows.now) _ _ _ _ changed c.in_ok-push_str.ensures.bytes c.in_ok-push_rows.ensures c.in_ok-push_str-2.ensures.bytes

pub returns-else-are_changed : goal.returns-else-are_changed
returns-else-are_changed c =
    let not : c.are_changed.result ≡ false = search rules in
    paint-none (map sent_line_of c.args.rows.now) _ (changed-lines c.args.rows.now ∙ sym c.are_changed.ensures ∙ not)
