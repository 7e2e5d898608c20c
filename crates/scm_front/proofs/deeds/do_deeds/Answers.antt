use Rattle.std.proofs.Common.{refl, ap}
use Rattle.scm_record.specs.declared.live.Turn.TheVariants.{Editing, Accepted}
use Rattle.scm_front.specs.Driving.{turn_of}
use Rattle.scm_front.proofs.DeedLemmas.{doing-first, doing-on, doing-last, doing-end}
use Rattle.scm_front.proofs.deeds.do_deeds.Goals as goal

pub loop-deed-init : goal.loop-deed-init
loop-deed-init c = doing-first _ _

pub loop-deed-preserved : goal.loop-deed-preserved
loop-deed-preserved c =
    doing-on c.args.session c.loop-deed.session c.args.deeds.now c.loop-deed.deed-index _ c.loop-deed-test.true c.loop-deed.invariant _ c.in-Waiting.next (ap turn_of c.in-Waiting.is) c.in_ok-next.ensures.ok

pub returns-in-Editing-clause-ok : goal.returns-in-Editing-clause-ok
returns-in-Editing-clause-ok c =
    doing-last c.args.session c.loop-deed.session c.args.deeds.now c.loop-deed.deed-index _ c.loop-deed-test.true c.loop-deed.invariant _ (Editing c.in-Editing.editing) (ap turn_of c.in-Editing.is) c.in_ok-next.ensures.ok refl

pub returns-in-Accepted-clause-ok : goal.returns-in-Accepted-clause-ok
returns-in-Accepted-clause-ok c =
    doing-last c.args.session c.loop-deed.session c.args.deeds.now c.loop-deed.deed-index _ c.loop-deed-test.true c.loop-deed.invariant _ (Accepted c.in-Accepted.state) (ap turn_of c.in-Accepted.is) c.in_ok-next.ensures.ok refl

pub returns-clause-ok : goal.returns-clause-ok
returns-clause-ok c =
    doing-end c.args.session c.loop-deed.session c.args.deeds.now c.loop-deed.deed-index c.loop-deed-test.false c.loop-deed.invariant
