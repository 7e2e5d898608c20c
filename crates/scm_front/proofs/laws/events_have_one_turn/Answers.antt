use Rattle.std.proofs.Common.{ap}
use Rattle.scm_record.specs.Session.{Session, after_frame}
use Rattle.scm_front.proofs.TurnLemmas.{same-live, one-live, kept-kind, stays-so, scrolls-so, next-so, toggle-so}
use Rattle.scm_front.proofs.ReplayLemmas.{replays}
use Rattle.scm_front.proofs.laws.events_have_one_turn.Goals as goal

pub returns : goal.returns
returns c = record {
  one = λ l a b event g h. one-live l a b event g h;
  replay = λ l a b events g h. replays l a b events g h;
  stays = λ l next event t calm is e g. same-live next (record { session = after_frame t; kind = l.kind }) (stays-so l event t calm is next e g) (kept-kind l next event g);
  moves = λ l next event t calm is e g. ap (λ (s : Session). s.shown) (scrolls-so l event t calm is next e g);
  next = λ l next calm closed g. next-so l next calm closed g;
  toggle = λ l next calm closed shut g. toggle-so l next calm closed shut g;
}
