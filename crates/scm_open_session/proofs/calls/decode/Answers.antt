use Rattle.std.proofs.Common.{Some, refl, ap}
use Rattle.scm_open_session.specs.Boxes.{box_value}
use Rattle.scm_c_values.specs.EventWords.{HearsBytes}
use Rattle.scm_open_session.proofs.DecodeLemmas.{decodes-closed, decodes-done, decodes-refused}
use Rattle.scm_open_session.proofs.calls.decode.Goals as goal

pub returns-in-Some-decode : goal.returns-in-Some-decode
returns-in-Some-decode c =
    decodes-done (HearsBytes c.args.bytes.now) (box_value c.args.session.now) (Some c.decode.new.self) c.in-Some.inner.value c.deref_mut.result.now c.decode.new.self c.args.out.now c.decode.new.out c.args.written.now c.in-Some-decode.len c.decode.result
    (ap box_value c.in-Some.is) c.deref_mut.ensures.value refl c.in-Some-decode.is c.decode.ensures

pub returns-in-None-decode : goal.returns-in-None-decode
returns-in-None-decode c =
    decodes-refused (HearsBytes c.args.bytes.now) (box_value c.args.session.now) (Some c.decode.new.self) c.in-Some.inner.value c.deref_mut.result.now c.decode.new.self c.args.out.now c.decode.new.out c.args.written.now c.decode.result
    (ap box_value c.in-Some.is) c.deref_mut.ensures.value refl c.in-None-decode.is c.decode.ensures

pub returns-in-None : goal.returns-in-None
returns-in-None c =
    decodes-closed (HearsBytes c.args.bytes.now) (box_value c.args.session.now) (box_value c.args.session.now) c.args.out.now c.args.written.now
    (ap box_value c.in-None.is) (ap box_value c.in-None.is)
