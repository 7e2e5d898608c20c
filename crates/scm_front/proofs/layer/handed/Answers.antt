use Rattle.scm_front.specs.Driving.{turn_of}
use Rattle.scm_front.proofs.DoLemmas.{handed-on}
use Rattle.scm_front.proofs.layer.handed.Goals as goal

pub returns : goal.returns
returns c =
    handed-on (turn_of c.args.turn) c.args.query c.with_word.result c.args.kept c.recorded.result c.saying-kept.result c.args.author c.args.before c.args.word c.front_turn.result
    c.front_turn.ensures.value c.with_word.ensures c.saying-kept.ensures c.recorded.ensures.keeps c.recorded.ensures.history
