use Rattle.std.proofs.Common.{◌≡◌, ◌-◌, ◌++◌, ap, ◌∙◌, arith, drop, get_or, length, length-drop, take}
use Rattle.std.proofs.lemmas.List.{get_or_default, take_all}
use Rattle.scm_merge.specs.declared.region.Region.{Region}
use Rattle.scm_merge.proofs.PartLemmas.{all-built, has-all, more-built, next-rest, next-within, nothing-built}
use Rattle.scm_merge.proofs.sections.merge_sections.Goals as goal

none : Region
none = record { base_start = 0; base_end = 0; ours_start = 0; ours_end = 0; theirs_start = 0; theirs_end = 0 }

pub loop-region-init : goal.loop-region-init
loop-region-init c = record {
  rest = has-all c.args.base.now c.args.ours.now c.args.theirs.now c.args.regions.now c.requires;
  within = omega arith;
  built = nothing-built c.args.base.now c.args.ours.now c.args.theirs.now c.args.regions.now c.new-sections.result.items c.new-pending.result.items c.new-sections.ensures.items c.new-pending.ensures.items;
}

pub push_region-requires : goal.push_region-requires
unfolding none
push_region-requires c =
    let rs = c.args.regions.now in
    let k = c.loop-region.region-index in
    let e = get_or_default rs k none (get_or rs k none) c.loop-region-test.true in
    next-within c.args.base.now c.args.ours.now c.args.theirs.now c.loop-region.done rs k (get_or rs k none) c.loop-region-test.true e c.loop-region.invariant.rest

pub loop-region-preserved : goal.loop-region-preserved
unfolding none
loop-region-preserved c =
    let base = c.args.base.now in
    let ours = c.args.ours.now in
    let theirs = c.args.theirs.now in
    let rs = c.args.regions.now in
    let k = c.loop-region.region-index in
    let r = get_or rs k none in
    let e = get_or_default rs k none r c.loop-region-test.true in
    let within = next-within base ours theirs c.loop-region.done rs k r c.loop-region-test.true e c.loop-region.invariant.rest in
    record {
      rest = next-rest base ours theirs c.loop-region.done rs k r c.loop-region-test.true e c.loop-region.invariant.rest;
      within = within.base_within;
      built = more-built base ours theirs rs c.loop-region.done k r c.loop-region.sections.items c.push_region.new.sections.items c.loop-region.pending.items c.push_region.new.pending.items c.loop-region-test.true e c.in_ok-push_region.ensures c.loop-region.invariant.built;
    }

pub returns : goal.returns
returns c =
    let base = c.args.base.now in
    let done = c.loop-region.done in
    let p = c.loop-region.pending.items in
    let rest : take (length base - done) (drop done base) ≡ drop done base = take_all (length base - done) (drop done base) (simp length-drop (omega arith)) in
    let pushed : c.push_lines.new.lines.items ≡ p ++ drop done base = c.in_ok-push_lines.ensures ∙ ap (λ xs. p ++ xs) rest in
    all-built base c.args.ours.now c.args.theirs.now c.args.regions.now done c.loop-region.region-index c.loop-region.sections.items c.flush.new.sections.items p c.push_lines.new.lines.items c.loop-region-test.false pushed c.in_ok-flush.ensures.sections c.loop-region.invariant.built
