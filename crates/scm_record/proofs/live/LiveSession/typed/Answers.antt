use Rattle.std.proofs.Common.{List, [], sym, subst}
use Rattle.std.proofs.lemmas.Result.{IfErr-weaker}
use Rattle.scm_input.specs.declared.terminal.TerminalEvent.{TerminalEvent}
use Rattle.scm_terminal.specs.Decoders.{Adds}
use Rattle.scm_record.specs.Typed.{failed}
use Rattle.scm_record.proofs.live.LiveSession.typed.Goals as goal

pub returns-clause-err : goal.returns-clause-err
returns-clause-err c =
    let old = c.args.decoder.now in
    let new = c.feed.new.self in
    let bytes = c.args.bytes.now in
    let begun = subst (λ (list : List TerminalEvent). Adds old new bytes list c.feed.new.events.items) c.new-events.ensures.items c.in_ok-feed.ensures.ok in
    let adds = subst (λ (list : List TerminalEvent). Adds old new bytes [] list) (sym c.as_slice.ensures.value) begun in
    IfErr-weaker c.hand_in.result _ _ (λ e fails. failed c.as_slice.result.now adds fails) c.hand_in.ensures.err
