use Rattle.std.proofs.Common.{string_bytes}
use Rattle.scm_front_paint.proofs.BlankLemmas.{blanking-written}
use Rattle.scm_front_paint.proofs.blanks.blanking.Goals as goal

pub returns-clause-ok : goal.returns-clause-ok
returns-clause-ok c =
    blanking-written c.args.width c.args.row (string_bytes c.new-text.result) (string_bytes c.push_str.new.self) (string_bytes c.push_begin.new.text)
    (string_bytes c.push_spaces.new.text) (string_bytes c.push_str-2.new.self) c.new-text.ensures.bytes c.in_ok-push_str.ensures.bytes
    c.in_ok-push_begin.ensures c.in_ok-push_spaces.ensures c.in_ok-push_str-2.ensures.bytes
