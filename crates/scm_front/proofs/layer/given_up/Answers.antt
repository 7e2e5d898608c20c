use Rattle.std.proofs.Common.{[]}
use Rattle.scm_front.specs.Driving.{turn_of}
use Rattle.scm_front.proofs.DoLemmas.{gives-up}
use Rattle.scm_front.proofs.layer.given_up.Goals as goal

pub returns-clause-ok : goal.returns-clause-ok
returns-clause-ok c = λ way wanted back.
    gives-up c.args.beneath c.args.query c.args.kept c.without_steps-kept.result way wanted back (turn_of c.in_ok-turn.turn) [] c.selection_of-back.result
    c.front_turn.result c.front_turn.ensures.value c.without_steps-kept.ensures.keeps c.selection_of-back.ensures c.in_ok-turn.ensures.ok
