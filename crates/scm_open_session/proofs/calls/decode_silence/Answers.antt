use Rattle.std.proofs.Common.{Some, refl, ap}
use Rattle.scm_open_session.specs.Boxes.{box_value}
use Rattle.scm_c_values.specs.EventWords.{HearsSilence}
use Rattle.scm_open_session.proofs.DecodeLemmas.{decodes-closed, decodes-done, decodes-refused}
use Rattle.scm_open_session.proofs.calls.decode_silence.Goals as goal

pub returns-in-Some-decode_silence : goal.returns-in-Some-decode_silence
returns-in-Some-decode_silence c =
    decodes-done HearsSilence (box_value c.args.session.now) (Some c.decode_silence.new.self) c.in-Some.inner.value c.deref_mut.result.now c.decode_silence.new.self c.args.out.now c.decode_silence.new.out c.args.written.now c.in-Some-decode_silence.len c.decode_silence.result
    (ap box_value c.in-Some.is) c.deref_mut.ensures.value refl c.in-Some-decode_silence.is c.decode_silence.ensures

pub returns-in-None-decode_silence : goal.returns-in-None-decode_silence
returns-in-None-decode_silence c =
    decodes-refused HearsSilence (box_value c.args.session.now) (Some c.decode_silence.new.self) c.in-Some.inner.value c.deref_mut.result.now c.decode_silence.new.self c.args.out.now c.decode_silence.new.out c.args.written.now c.decode_silence.result
    (ap box_value c.in-Some.is) c.deref_mut.ensures.value refl c.in-None-decode_silence.is c.decode_silence.ensures

pub returns-in-None : goal.returns-in-None
returns-in-None c =
    decodes-closed HearsSilence (box_value c.args.session.now) (box_value c.args.session.now) c.args.out.now c.args.written.now
    (ap box_value c.in-None.is) (ap box_value c.in-None.is)
