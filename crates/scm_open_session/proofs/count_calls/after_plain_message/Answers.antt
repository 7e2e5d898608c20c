use Rattle.std.specs.Prelude.{string_bytes}
use Rattle.scm_open_session.proofs.CountLemmas.{says-and-counts}
use Rattle.scm_open_session.proofs.count_calls.after_plain_message.Goals as goal

pub returns : goal.returns
returns c =
    says-and-counts (string_bytes c.args.text) c.args.edit c.answer_and_count.result c.answer_and_count.new.handled c.stage_of-stage.result
    c.stage_of-stage.ensures c.answer_and_count.ensures.ok c.answer_and_count.ensures.err c.answer_and_count.ensures.counted
