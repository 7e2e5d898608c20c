use Rattle.scm_front_paint.proofs.BelowLemmas.{leads-to-both, both-written, view-whole, stay-apart}
use Rattle.scm_front_paint.proofs.laws.status_rows_stand_below.Goals as goal

pub returns : goal.returns
returns c = record {
  shows = λ width height known new bytes t p w before. leads-to-both width height known new bytes p w t before;
  written = λ width known new bytes p. both-written p;
  whole = λ theme words lines labels v accept. view-whole theme words lines labels v accept;
  apart = λ width height known new bytes p a w. stay-apart width height known new bytes p a w;
}
