use Rattle.std.proofs.Common.{◌≡◌, List, Some, ap, length, sym, ◌∙◌, refl}
use Rattle.std.specs.Prelude.{slice_get}
use Rattle.scm_types.specs.declared.section.Section.{Section}
use Rattle.scm_selection.proofs.ToggleLemmas.{lent_whole}
use Rattle.scm_selection.proofs.toggles.toggle_section.Goals as goal

pub returns-in-Some : goal.returns-in-Some
returns-in-Some c =
    let file = c.args.file.now in
    let at : slice_get file.sections c.args.index ≡ Some c.in-Some.section.now = sym c.in-Some.ensures in
    let whole = lent_whole file.sections c.set_section.new.sections (c.set_section.auto.sections ∙ ap (λ (list : List Section). length list) c.as_mut_slice.ensures.value) in
    let set = rw (c.as_mut_slice.ensures.value, at) at c.set_section.ensures in
    rw (whole, set, at, ← c.tristate.ensures, ← c.mark_after-checked.ensures) refl
