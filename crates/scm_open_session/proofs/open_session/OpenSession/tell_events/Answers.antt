use Rattle.std.specs.Prelude.{string_bytes}
use Rattle.scm_open_session.specs.Decoding.{TellsEvents}
use Rattle.scm_open_session.proofs.DecodeLemmas.{tells_words}
use Rattle.scm_open_session.proofs.open_session.OpenSession.tell_events.Goals as goal

pub returns-in-Ok : goal.returns-in-Ok
returns-in-Ok c =
    tells_words c.args.self.now c.tell.new.self c.args.decoder c.args.events.now (string_bytes c.in-Ok.words) c.as_bytes.result.now c.args.out.now c.tell.new.out c.tell.result
    c.in-Ok.ensures c.as_bytes.ensures.value c.tell.ensures.told c.tell.ensures.len

pub returns-in-Err : goal.returns-in-Err
returns-in-Err c = TellsEvents.no_words
