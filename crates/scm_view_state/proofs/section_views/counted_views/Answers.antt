use Rattle.std.proofs.Common.{◌≡◌, ◌∙◌, ◌+◌, ◌++◌, ◌∷◌, [], suc, take, ap, sym, arith}
use Rattle.std.specs.Prelude.{map}
use Rattle.std.proofs.lemmas.List.{map-append, take_all}
use Rattle.scm_view.specs.ViewState.{section_views_of, totals_of}
use Rattle.scm_view_state.specs.Views.{lent_section, lent_sections}
use Rattle.scm_view_state.proofs.ViewLemmas.{more-taken, sections-length}
use Rattle.scm_view_state.proofs.section_views.counted_views.Goals as goal

pub view_at-requires-clause-within : goal.view_at-requires-clause-within
view_at-requires-clause-within c = omega (arith, c.len-count.ensures, c.loop-index-test.true)

pub loop-index-preserved : goal.loop-index-preserved
loop-index-preserved c =
    let xs = c.args.file.now.sections in
    let t = totals_of xs in
    let i = c.loop-index.index in
    let all = section_views_of c.args.view_state.now t c.args.key 0 0 0 xs in
    let d = c.view_at.result in
    let made = c.loop-index.views.items in
    let count = sections-length c.args.view_state.now t c.args.key 0 0 0 xs in
    let next : suc i ≡ i + 1 = omega arith in
    let more = more-taken 0 i d all (omega arith) (omega (arith, count, c.len-count.ensures, c.loop-index-test.true)) in
    let added : map lent_section (made ++ d ∷ []) ≡ map lent_section made ++ lent_section d ∷ [] = map-append lent_section made (d ∷ []) in
    ap lent_sections c.in_ok-push.ensures.items ∙ added ∙ ap (λ vs. vs ++ lent_section d ∷ []) c.loop-index.invariant
    ∙ ap (λ v. take i all ++ v ∷ []) (c.view_at.ensures d) ∙ sym more ∙ ap (λ n. take n all) next

pub returns : goal.returns
returns c =
    let xs = c.args.file.now.sections in
    let t = totals_of xs in
    let all = section_views_of c.args.view_state.now t c.args.key 0 0 0 xs in
    let count = sections-length c.args.view_state.now t c.args.key 0 0 0 xs in
    ap lent_sections c.from.ensures ∙ c.loop-index.invariant
    ∙ take_all c.loop-index.index all (omega (arith, count, c.len-count.ensures, c.loop-index-test.false))
