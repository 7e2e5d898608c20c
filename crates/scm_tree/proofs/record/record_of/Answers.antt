use Rattle.std.proofs.Common.{sym, ◌∙◌}
use Rattle.scm_tree.proofs.RecordLemmas.{path_part, record_known}
use Rattle.scm_tree.proofs.record.record_of.Goals as goal

pub returns-then-is_readable-is_sound : goal.returns-then-is_readable-is_sound
returns-then-is_readable-is_sound c =
    sym (record_known c.args.bytes.now _ c.in-Some.ask c.is_either.result c.is_either-2.result c.is_either-3.result c.is_sound.result _
    c.in-len4-up.len_at_least (path_part c.args.bytes.now) (sym c.ask_of.ensures ∙ c.in-Some.is) c.is_either.ensures c.is_either-2.ensures c.is_either-3.ensures c.is_sound.ensures c.if-is_readable-is_sound.true)

pub returns-else-is_readable-is_sound : goal.returns-else-is_readable-is_sound
returns-else-is_readable-is_sound c =
    sym (record_known c.args.bytes.now _ c.in-Some.ask c.is_either.result c.is_either-2.result c.is_either-3.result c.is_sound.result _
    c.in-len4-up.len_at_least (path_part c.args.bytes.now) (sym c.ask_of.ensures ∙ c.in-Some.is) c.is_either.ensures c.is_either-2.ensures c.is_either-3.ensures c.is_sound.ensures c.if-is_readable-is_sound.false)
