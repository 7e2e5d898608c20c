use Rattle.std.proofs.Common.{ap, ◌∙◌}
use Rattle.std.proofs.lemmas.Result.{IfOk-weaker}
use Rattle.scm_front.specs.Keeping.{saying, steps_of}
use Rattle.scm_front.proofs.DoLemmas.{lacked, newest, restored}
use Rattle.scm_front.proofs.layer.Front.restore.Goals as goal

pub returns-in-None-clause-ok : goal.returns-in-None-clause-ok
returns-in-None-clause-ok c =
    let mid = c.take_step.new.kept in
    lacked c.args.self c.args.way c.with_word-query.result mid c.saying-kept.result c.with_word-query.ensures
    (c.saying-kept.ensures ∙ ap (saying mid) c.nothing_left.ensures) c.take_step.ensures.kept c.in-None.ensures.none

pub returns-in-Some-clause-ok : goal.returns-in-Some-clause-ok
returns-in-Some-clause-ok c =
    let f = c.args.self in
    let way = c.args.way in
    let mid = c.take_step.new.kept in
    let keeps = c.take_step.ensures.kept in
    let steps = newest (steps_of way mid.history) _ c.in-Some.step c.take_step.result c.take_step.ensures.step c.in-Some.is in
    IfOk-weaker c.restore_step.result _ _ (λ turn r.
    restored f way c.with_word-query.result mid c.in-Some.step turn c.with_word-query.ensures steps keeps.anchor keeps.keys c.take_step.ensures.other r)
    c.restore_step.ensures.ok
