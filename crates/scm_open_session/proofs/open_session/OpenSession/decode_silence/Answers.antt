use Rattle.std.proofs.Common.{Some, None}
use Rattle.scm_open_session.proofs.DecodeLemmas.{decodes_silence}
use Rattle.scm_open_session.proofs.open_session.OpenSession.decode_silence.Goals as goal

pub returns-in-Some : goal.returns-in-Some
returns-in-Some c =
    decodes_silence c.args.self.now c.tell_events.new.self c.args.out.now c.tell_events.new.out c.idle.new.self c.idle.result (Some c.in-Some.event) c.tell_events.result
    c.idle.ensures c.in-Some.is c.tell_events.ensures

pub returns-in-None : goal.returns-in-None
returns-in-None c =
    decodes_silence c.args.self.now c.tell_events-in-None.new.self c.args.out.now c.tell_events-in-None.new.out c.idle.new.self c.idle.result None c.tell_events-in-None.result
    c.idle.ensures c.in-None.is c.tell_events-in-None.ensures
