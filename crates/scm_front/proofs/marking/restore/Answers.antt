use Rattle.std.proofs.Common.{◌∙◌, ap}
use Rattle.std.proofs.lemmas.Result.{IfOk-weaker}
use Rattle.scm_record.specs.Live.{Live}
use Rattle.scm_front.specs.Driving.{turn_of}
use Rattle.scm_front.specs.Fronts.{selection_of}
use Rattle.scm_front.proofs.ScrollLemmas.{some-quiet-round}
use Rattle.scm_front.proofs.marking.restore.Goals as goal

pub returns-clause-ok : goal.returns-clause-ok
returns-clause-ok c =
    IfOk-weaker c.scroll_back.result _ _ (λ last s.
    some-quiet-round c.args.session (selection_of c.args.session) c.scroll-scroll.result (turn_of c.in_ok-turn.turn) (turn_of last)
    (c.scroll-scroll.ensures ∙ ap (λ (l : Live). l.session.scroll) c.live.ensures.value) c.in_ok-turn.ensures.ok s)
    c.scroll_back.ensures.ok
