use Rattle.std.proofs.Common.{◌≡◌, ◌-◌, ◌++◌, ap, ◌∙◌, arith, drop, get_or, length, length-drop, take}
use Rattle.std.proofs.lemmas.List.{get_or_default, take_all}
use Rattle.scm_diff.specs.declared.hunk.Hunk.{Hunk}
use Rattle.scm_diff.specs.Sections.{context_sections}
use Rattle.scm_diff.proofs.ChangedSectionLemmas.{next-rest, next-within, to-all, to-more}
use Rattle.scm_diff.proofs.sections.push_line_sections.Goals as goal

pub loop-hunk-preserved : goal.loop-hunk-preserved
loop-hunk-preserved c =
    let old = c.args.old.now in
    let new = c.args.new.now in
    let hs = c.args.hunks.now in
    let k = c.loop-hunk.hunk-index in
    let none : Hunk = record { old_start = 0; old_end = 0; new_start = 0; new_end = 0 } in
    let h = get_or hs k none in
    let e : h ≡ get_or hs k h = get_or_default hs k none h c.loop-hunk-test.true in
    let within = next-within old new c.loop-hunk.done hs k h c.loop-hunk-test.true e c.loop-hunk.invariant.rest in
    record {
      rest = next-rest old new c.loop-hunk.done hs k h c.loop-hunk-test.true e c.loop-hunk.invariant.rest;
      within = within.old_within;
      built = to-more old new hs c.args.sections.now.items c.loop-hunk.done k h c.loop-hunk.sections.items c.push_hunk_sections.new.sections.items c.loop-hunk-test.true e c.in_ok-push_hunk_sections.ensures c.loop-hunk.invariant.built;
    }

pub returns : goal.returns
returns c =
    let old = c.args.old.now in
    let done = c.loop-hunk.done in
    let before = c.loop-hunk.sections.items in
    let rest : take (length old - done) (drop done old) ≡ drop done old = take_all (length old - done) (drop done old) (simp length-drop (omega arith)) in
    let joined : c.push_context.new.sections.items ≡ before ++ context_sections (drop done old) =
    c.in_ok-push_context.ensures ∙ ap (λ xs. before ++ context_sections xs) rest in
    to-all old c.args.new.now c.args.hunks.now c.args.sections.now.items done c.loop-hunk.hunk-index before c.push_context.new.sections.items c.loop-hunk-test.false joined c.loop-hunk.invariant.built
