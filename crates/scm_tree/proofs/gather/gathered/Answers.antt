use Rattle.std.proofs.Common.{◌<◌, length, arith}
use Rattle.std.proofs.lemmas.List.{get_or_default}
use Rattle.std.proofs.lemmas.Result.{err_from_is_err_and}
use Rattle.scm_tree.proofs.GatherLemmas.{gathered_after, gathered_begun, gathered_fault, gathered_next, gathered_whole, nothing_gathered, some_places}
use Rattle.scm_tree.proofs.gather.gathered.Goals as goal

pub loop-i-init : goal.loop-i-init
loop-i-init c = record {
  gathered = gathered_begun c.args.places.now c.new-done.result.items _ c.new-done.ensures.items
      (some_places c.args.places.now c.is_empty.result c.is_empty.ensures c.if-is_empty.false);
  begun = omega arith;
}

pub add_place-requires-clause-after : goal.add_place-requires-clause-after
add_place-requires-clause-after c =
    let h : c.loop-i.i < length c.args.places.now = omega arith in
    gathered_after c.args.places.now c.loop-i.i c.loop-i.done.items c.loop-i.last _ c.requires c.loop-i.invariant.gathered c.loop-i.invariant.begun h (λ d. get_or_default c.args.places.now c.loop-i.i d _ h)

pub loop-i-preserved : goal.loop-i-preserved
loop-i-preserved c =
    let h : c.loop-i.i < length c.args.places.now = omega arith in
    record {
      gathered = gathered_next c.args.places.now c.loop-i.i c.loop-i.done.items c.loop-i.last _ c.add_place.new.done.items c.in_ok-last.last
          c.loop-i.invariant.gathered h (λ d. get_or_default c.args.places.now c.loop-i.i d _ h) c.in_ok-last.ensures.added;
      begun = omega arith;
    }

pub returns-in_err-last : goal.returns-in_err-last
returns-in_err-last c =
    let h : c.loop-i.i < length c.args.places.now = omega arith in
    let error = err_from_is_err_and c.from_residual.result c.from_residual.ensures.1 in
    rw (error.1, error.2) (gathered_fault c.args.places.now c.loop-i.i c.loop-i.done.items c.loop-i.last _ _ c.loop-i.invariant.gathered h (λ d. get_or_default c.args.places.now c.loop-i.i d _ h) c.in_err-last.ensures.fault)

pub returns-then-is_empty : goal.returns-then-is_empty
returns-then-is_empty c = nothing_gathered c.args.places.now c.new-done.result.items c.is_empty.result c.new-done.ensures.items c.is_empty.ensures c.if-is_empty.true

pub returns : goal.returns
returns c =
    gathered_whole c.args.places.now c.loop-i.i c.loop-i.done.items c.add.new.items.items c.loop-i.last c.loop-i.invariant.gathered (omega arith) c.in_ok-add.ensures
