use Rattle.std.proofs.Common.{refl, ap}
use Rattle.scm_record.specs.declared.live.Turn.TheVariants.{Accepted, Editing}
use Rattle.scm_front.specs.Driving.{turn_of}
use Rattle.scm_front.proofs.ScrollLemmas.{not-scrolled}
use Rattle.scm_front.proofs.scrolling.scroll_back.Goals as goal

pub returns-in-Editing-clause-ok : goal.returns-in-Editing-clause-ok
returns-in-Editing-clause-ok c = not-scrolled c.args.to (turn_of c.args.turn) (Editing c.in-Editing.editing) (ap turn_of c.in-Editing.is) refl

pub returns-in-Accepted-clause-ok : goal.returns-in-Accepted-clause-ok
returns-in-Accepted-clause-ok c = not-scrolled c.args.to (turn_of c.args.turn) (Accepted c.in-Accepted.state) (ap turn_of c.in-Accepted.is) refl
