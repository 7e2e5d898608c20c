use Rattle.std.proofs.Common.{FitsSigned, ◌≡◌, subst, take, take_all, arith, w64}
use Rattle.std.proofs.lemmas.Int.{to_z-of_z}
use Rattle.std.specs.List.{All}
use Rattle.scm_record.proofs.FreePlacesLemmas.{HasAllOrNone, next-box, one-target}
use Rattle.scm_record.proofs.free_places.shown_end.Goals as goal

pub loop-entry-preserved : goal.loop-entry-preserved
loop-entry-preserved c =
    let fy : FitsSigned w64 c.args.row = c.ranges.row in
    let run = c.box_end-left.ensures in
    let before = c.loop-entry.invariant in
    let same = simp to_z-of_z at before.same in
    let own = simp to_z-of_z at run.same in
    record {
      past = run.past;
      most = let fewer = run.most in omega arith;
      same = simp to_z-of_z (next-box c.args.shown.now c.loop-entry.entry-index _ c.args.row c.args.column c.loop-entry.left c.box_end-left.result (omega arith) run.most same own);
    }

pub returns : goal.returns
returns c =
    let fy : FitsSigned w64 c.args.row = c.ranges.row in
    let shown = c.args.shown.now in
    let held = c.loop-entry.invariant in
    let all : take c.loop-entry.entry-index shown ≡ shown = take_all c.loop-entry.entry-index shown (omega arith) in
    let same = simp to_z-of_z at held.same in
    let every = subst (All (HasAllOrNone c.args.row c.args.column c.loop-entry.left)) all same in
    record {
      past = held.past;
      most = held.most;
      same = λ x low high. one-target shown c.args.row c.args.column c.loop-entry.left x every low high;
    }
