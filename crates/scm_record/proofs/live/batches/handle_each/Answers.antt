use Rattle.std.proofs.Common.{refl, ◌+◌, ◌∙◌}
use Rattle.std.proofs.lemmas.Bool.{and_parts}
use Rattle.std.proofs.lemmas.List.{take_rest}
use Rattle.scm_input.specs.declared.events.Event.TheVariants.{None}
use Rattle.scm_record.specs.Frames.{IsSceneOf, Scene}
use Rattle.scm_record.proofs.CountLemmas.{counts-all, counts-last, counts-more, counts-none}
use Rattle.scm_record.proofs.HandleLemmas.{changed-same, leads-none, handles-more, handles-last, handles-end}
use Rattle.scm_record.proofs.live.batches.handle_each.Goals as goal

pub loop-index-init : goal.loop-index-init
loop-index-init c =
    let IsSeen = λ (scene : Scene). IsSceneOf scene c.args.frame.now in
    (λ k. refl, (leads-none IsSeen c.args.events.now c.args.session.now, counts-none IsSeen c.args.events.now c.args.session.now))

pub loop-index-preserved : goal.loop-index-preserved
loop-index-preserved c =
    let scene = c.requires.shown.0 in
    let seen = c.requires.shown.1 in (
      λ k.
          let parts = and_parts c.loop-index.is_kept c.is_kept_by-is_kept.result k in
          changed-same scene _ _ _ _ (c.is_kept_by-is_kept.ensures parts.1 scene seen) (c.in_ok-flow.ensures.ok scene seen) ∙ c.loop-index.invariant.0 parts.0,
      (
        handles-more (λ (scene : Scene). IsSceneOf scene c.args.frame.now) c.args.events.now _ c.loop-index.session c.change.new.self c.loop-index.index None c.in_ok-flow.flow c.loop-index-test.true c.loop-index.invariant.1.0 c.in_ok-flow.ensures.ok c.requires.shown c.in-GoOn.is,
        counts-more (λ (scene : Scene). IsSceneOf scene c.args.frame.now) c.args.events.now _ c.loop-index.session c.change.new.self c.loop-index.index None c.in_ok-flow.flow c.loop-index-test.true c.loop-index.invariant.1.1 c.in_ok-flow.ensures.ok c.in-GoOn.is,
      ),
    )

pub returns-in_default-clause-ok : goal.returns-in_default-clause-ok
returns-in_default-clause-ok c =
    handles-last (λ (scene : Scene). IsSceneOf scene c.args.frame.now) c.args.events.now _ c.loop-index.session c.change.new.self c.loop-index.index None c.in_ok-flow.flow c.loop-index-test.true c.loop-index.invariant.1.0 c.in_ok-flow.ensures.ok _ (take_rest c.args.events.now (c.loop-index.index + 1)) c.requires.shown c.in_default.not-GoOn

pub returns-in_default-clause-kept : goal.returns-in_default-clause-kept
returns-in_default-clause-kept c = λ k.
    let scene = c.requires.shown.0 in
    let seen = c.requires.shown.1 in
    let parts = and_parts c.loop-index.is_kept c.is_kept_by-is_kept.result k in
    changed-same scene _ _ _ _ (c.is_kept_by-is_kept.ensures parts.1 scene seen) (c.in_ok-flow.ensures.ok scene seen) ∙ c.loop-index.invariant.0 parts.0

pub returns-clause-ok : goal.returns-clause-ok
returns-clause-ok c =
    handles-end (λ (scene : Scene). IsSceneOf scene c.args.frame.now) c.args.events.now _ c.loop-index.session c.loop-index.index c.loop-index-test.false c.loop-index.invariant.1.0

pub returns-clause-kept : goal.returns-clause-kept
returns-clause-kept c = c.loop-index.invariant.0

-- ---- how many are handled

pub returns-in_default-clause-counted : goal.returns-in_default-clause-counted
returns-in_default-clause-counted c =
    counts-last (λ (scene : Scene). IsSceneOf scene c.args.frame.now) c.args.events.now _ c.loop-index.session c.change.new.self c.loop-index.index None c.in_ok-flow.flow c.loop-index-test.true c.loop-index.invariant.1.1 c.in_ok-flow.ensures.ok c.in_default.not-GoOn

pub returns-clause-counted : goal.returns-clause-counted
returns-clause-counted c =
    counts-all (λ (scene : Scene). IsSceneOf scene c.args.frame.now) c.args.events.now _ c.loop-index.session c.loop-index.index c.loop-index-test.false c.loop-index.invariant.1.1
