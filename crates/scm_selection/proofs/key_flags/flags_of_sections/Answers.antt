use Rattle.std.proofs.Common.{◌≡◌, ◌∙◌, ◌+◌, ◌++◌, ◌∷◌, [], Bool, drop, map, append-nil, refl, ap, sym}
use Rattle.std.proofs.lemmas.List.{drop_all}
use Rattle.scm_types.specs.Marks.{is_editable_section}
use Rattle.scm_selection.proofs.FindLemmas.{item-at}
use Rattle.scm_selection.proofs.KeyFlagLemmas.{made-more}
use Rattle.scm_selection.proofs.key_flags.flags_of_sections.Goals as goal

pub loop-section-preserved : goal.loop-section-preserved
loop-section-preserved c =
    let sections = c.args.sections.now in
    let i = c.loop-section.section-index in
    let made = c.loop-section.flags.items in
    rw c.in_ok-push.ensures.items
    (ap (λ (x : Bool). (made ++ x ∷ []) ++ map is_editable_section (drop (i + 1) sections)) c.is_editable.ensures
    ∙ made-more is_editable_section made sections i c.section-item.result (item-at sections i c.section-item.result c.loop-section-test.true c.section-item.is)
    ∙ c.loop-section.invariant)

pub returns : goal.returns
returns c =
    let sections = c.args.sections.now in
    let made = c.loop-section.flags.items in
    let none : map is_editable_section (drop c.loop-section.section-index sections) ≡ [] = rw (drop_all c.loop-section.section-index sections c.loop-section-test.false) refl in
    let all : c.from.result ≡ map is_editable_section sections = c.from.ensures ∙ sym (append-nil made) ∙ ap (λ xs. made ++ xs) (sym none) ∙ c.loop-section.invariant in
    rw all refl
