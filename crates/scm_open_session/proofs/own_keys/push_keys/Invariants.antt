use Rattle.std.proofs.Common.{length}
use denote.Shadow.{shadow}
use denote.Text.{Utf8}
use Rattle.scm_c_values.specs.Pieces.{all_of, pieces_of}
use Rattle.scm_open_session.specs.OwnKeys.{keys_of_piece}
use Rattle.scm_c_values.proofs.PieceLemmas.{Pushed}
use Rattle.scm_open_session.proofs.own_keys.push_keys.Given as goal

abbrev pub invariant-cuts : goal.invariant-cuts
invariant-cuts l = record {
  utf8 : shadow (Utf8 l.rest);
  pushed : Pushed l.fn.keys.items l.keys.items (all_of keys_of_piece (pieces_of l.fn.text)) (all_of keys_of_piece (pieces_of l.rest));
}

abbrev pub decreases-cuts : goal.decreases-cuts
decreases-cuts l = length l.rest
