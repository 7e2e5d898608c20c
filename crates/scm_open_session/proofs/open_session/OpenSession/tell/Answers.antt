use Rattle.std.proofs.Common.{arith, refl}
use Rattle.scm_open_session.proofs.DecodeLemmas.{tells_nothing, tells_written}
use Rattle.scm_open_session.proofs.open_session.OpenSession.tell.Goals as goal

pub returns-then-words-out-clause-told : goal.returns-then-words-out-clause-told
returns-then-words-out-clause-told c =
    tells_written c.args.self.now _ c.args.decoder c.args.words.now c.args.out.now c.write_text.new.out (omega (arith, c.if-words-out.true)) refl c.write_text.ensures.written

pub returns-else-words-out-clause-told : goal.returns-else-words-out-clause-told
returns-else-words-out-clause-told c = tells_nothing c.args.self.now c.args.decoder c.args.words.now c.args.out.now (omega (arith, c.if-words-out.false))
