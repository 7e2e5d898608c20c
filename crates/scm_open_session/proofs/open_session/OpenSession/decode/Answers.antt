use Rattle.scm_open_session.specs.Decoding.{DecodesOpen}
use Rattle.scm_open_session.proofs.DecodeLemmas.{decodes_bytes}
use Rattle.scm_open_session.proofs.open_session.OpenSession.decode.Goals as goal

pub returns-in-Ok : goal.returns-in-Ok
returns-in-Ok c =
    decodes_bytes c.args.self.now c.tell_events.new.self c.args.bytes.now c.args.out.now c.tell_events.new.out c.feed.new.self c.new-events.result.items c.feed.new.events.items c.as_slice.result.now c.tell_events.result
    c.new-events.ensures.items c.in-Ok.ensures.ok c.as_slice.ensures.value c.tell_events.ensures

pub returns : goal.returns
returns c = DecodesOpen.refused
