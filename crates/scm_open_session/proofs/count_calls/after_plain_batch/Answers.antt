use Rattle.scm_open_session.proofs.CountLemmas.{presses-and-counts}
use Rattle.scm_open_session.proofs.count_calls.after_plain_batch.Goals as goal

pub returns : goal.returns
returns c =
    presses-and-counts c.args.events.now c.args.session c.handle_and_count.result c.handle_and_count.new.handled c.stage_of-stage.result
    c.stage_of-stage.ensures c.handle_and_count.ensures.ok c.handle_and_count.ensures.err c.handle_and_count.ensures.counted
