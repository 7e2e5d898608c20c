use Rattle.scm_front.specs.Driving.{turn_of}
use Rattle.scm_front.proofs.DoLemmas.{restores-to}
use Rattle.scm_front.proofs.layer.restored.Goals as goal

pub returns-clause-ok : goal.returns-clause-ok
returns-clause-ok c =
    restores-to c.args.beneath c.args.query c.args.kept c.after_restoring-kept.result c.args.way c.args.what.wanted c.args.what.back (turn_of c.in_ok-turn.turn)
    c.is_restored-is_done.result c.front_turn.result c.front_turn.ensures.value c.after_restoring-kept.ensures.keeps
    c.after_restoring-kept.ensures.returns c.is_restored-is_done.ensures c.in_ok-turn.ensures.ok
