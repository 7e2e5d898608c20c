use Rattle.std.proofs.Common.{rules}
use Rattle.scm_c_values.specs.Pieces.{all_of, pieces_of}
use Rattle.scm_open_session.specs.OwnKeys.{keys_of_piece}
use Rattle.scm_c_values.proofs.PieceLemmas.{pushed_last, pushed_more, pushed_no}
use Rattle.scm_open_session.proofs.own_keys.push_keys.Goals as goal

pub returns-then-not-branch : goal.returns-then-not-branch
returns-then-not-branch c =
    pushed_no keys_of_piece c.args.keys.now.items c.cuts.keys.items c.push_piece.new.keys.items (all_of keys_of_piece (pieces_of c.args.text.now)) c.cuts.rest.now c.in-Some.piece.now (pieces_of c.in-Some.after.now) c.in_ok-push_piece.field-0
    c.cuts.invariant.pushed c.in-Some.ensures.some c.in_ok-push_piece.ensures c.if-not-branch.true

pub cuts-preserved : goal.cuts-preserved
cuts-preserved c = record {
  utf8 = search rules;
  pushed = pushed_more keys_of_piece c.args.keys.now.items c.cuts.keys.items c.push_piece.new.keys.items (all_of keys_of_piece (pieces_of c.args.text.now)) c.cuts.rest.now c.in-Some.piece.now c.in-Some.after.now c.in_ok-push_piece.field-0
      c.cuts.invariant.pushed c.in-Some.ensures.some c.in_ok-push_piece.ensures c.if-not-branch.false;
}

pub returns : goal.returns
returns c =
    pushed_last keys_of_piece c.args.keys.now.items c.cuts.keys.items c.push_piece-2.new.keys.items (all_of keys_of_piece (pieces_of c.args.text.now)) c.cuts.rest.now c.push_piece-2.result
    c.cuts.invariant.pushed c.in_default.ensures.none c.push_piece-2.ensures
