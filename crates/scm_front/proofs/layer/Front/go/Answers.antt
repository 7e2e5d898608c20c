use Rattle.scm_front.proofs.DoLemmas.{gone}
use Rattle.scm_front.proofs.layer.Front.go.Goals as goal

pub returns-clause-ok : goal.returns-clause-ok
returns-clause-ok c =
    gone c.args.self c.args.place c.in_ok-key.key c.in_ok-beneath.beneath c.with_word.result c.saying.result c.in_ok-key.ensures.ok c.with_word.ensures
    c.saying.ensures c.in_ok-beneath.ensures.leads
