use Rattle.std.proofs.Common.{None, Some}
use Rattle.scm_pager.specs.Heard.{counts_of}
use Rattle.scm_pager.proofs.HeardLemmas.{found-heard, silence-heard}
use Rattle.scm_pager.proofs.typed.hear.Goals as goal

pub returns-in-None-clause-ok : goal.returns-in-None-clause-ok
returns-in-None-clause-ok c = record {
  begun = c.new-decoder.result;
  read = c.decode.new.self;
  rested = c.idle.new.self;
  begins = c.new-decoder.ensures;
  found = c.in_ok-found.found.items;
  adds = c.in_ok-found.ensures.ok;
  last = None;
  rests = c.in-None.ensures;
  is_next = found-heard c.counts_of-counts.result (counts_of c.args.file.now) c.args.width c.args.height c.args.pager c.as_slice.result.now
      c.in_ok-found.found.items c.counts_of-counts.ensures c.as_slice.ensures.value c.hear_all-pager.result c.hear_all-pager.ensures;
}

pub returns-clause-ok : goal.returns-clause-ok
returns-clause-ok c = record {
  begun = c.new-decoder.result;
  read = c.decode.new.self;
  rested = c.idle.new.self;
  begins = c.new-decoder.ensures;
  found = c.in_ok-found.found.items;
  adds = c.in_ok-found.ensures.ok;
  last = Some c.in-Some.event;
  rests = c.in-Some.ensures;
  is_next = silence-heard c.counts_of-counts.result (counts_of c.args.file.now) c.args.width c.args.height c.args.pager c.as_slice.result.now
      c.in_ok-found.found.items c.counts_of-counts.ensures c.as_slice.ensures.value c.in-Some.event c.hear_all-pager.result c.hear_all.result
      c.hear_all-pager.ensures c.hear_all.ensures;
}
