use Rattle.std.proofs.Common.{length}
use denote.Shadow.{shadow}
use denote.Text.{Utf8}
use Rattle.scm_c_values.specs.Pieces.{events_of_pieces, pieces_of}
use Rattle.scm_c_values.proofs.PieceLemmas.{Pushed}
use Rattle.scm_c_values.proofs.batches.push_words.Given as goal

abbrev pub invariant-cuts : goal.invariant-cuts
invariant-cuts l = record {
  utf8 : shadow (Utf8 l.rest);
  pushed : Pushed l.fn.events.items l.events.items (events_of_pieces (pieces_of l.fn.words)) (events_of_pieces (pieces_of l.rest));
}

abbrev pub decreases-cuts : goal.decreases-cuts
decreases-cuts l = length l.rest
