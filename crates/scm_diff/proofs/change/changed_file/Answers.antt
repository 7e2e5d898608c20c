use Rattle.std.proofs.Common.{◌≡◌, ap, sym, ◌∙◌, subst}
use Rattle.scm_embed.specs.Lines.{lines_of}
use Rattle.scm_diff.specs.Hunks.{AreHunks}
use Rattle.scm_diff.specs.Sections.{AreSections, HasMore}
use Rattle.scm_diff.specs.Change.{mode_of, mode_sections, text_in}
use Rattle.scm_diff.proofs.ChangeLemmas.{change-made}
use Rattle.scm_diff.proofs.change.changed_file.Goals as goal

pub returns : goal.returns
returns c =
    let A = lines_of (text_in c.args.old) in
    let B = lines_of (text_in c.args.new) in
    let old_is : c.in_ok-old_lines.old_lines.items ≡ A = c.in_ok-old_lines.ensures ∙ ap lines_of c.text_in.ensures in
    let new_is : c.in_ok-new_lines.new_lines.items ≡ B = c.in_ok-new_lines.ensures ∙ ap lines_of c.text_in-2.ensures in
    let found = c.in_ok-differences.differences.items in
    let modes = c.in_ok-sections.sections.items in
    let are : AreHunks A B found =
    subst (λ xs. AreHunks xs B found) (c.as_slice.ensures.value ∙ old_is)
    (subst (λ ys. AreHunks c.as_slice.result.now ys found) (c.as_slice-2.ensures.value ∙ new_is) c.in_ok-differences.ensures) in
    let modes_are : modes ≡ mode_sections (mode_of c.args.old) (mode_of c.args.new) =
    c.in_ok-sections.ensures ∙ ap (λ m. mode_sections m c.mode_of.result) c.mode_of-old_mode.ensures ∙ ap (mode_sections (mode_of c.args.old)) c.mode_of.ensures in
    let all : HasMore (AreSections A B 0 found) modes c.from.result =
    subst (HasMore (AreSections A B 0 found) modes) (sym c.from.ensures)
    (subst (λ xs. HasMore (AreSections xs B 0 found) modes c.push_line_sections.new.sections.items) (c.as_slice-3.ensures.value ∙ old_is)
    (subst (λ ys. HasMore (AreSections c.as_slice-3.result.now ys 0 found) modes c.push_line_sections.new.sections.items) (c.as_slice-4.ensures.value ∙ new_is)
    (subst (λ hs. HasMore (AreSections c.as_slice-3.result.now c.as_slice-4.result.now 0 hs) modes c.push_line_sections.new.sections.items) c.as_slice-5.ensures.value c.in_ok-push_line_sections.ensures))) in
    change-made c.args.path c.args.old c.args.new found c.mode_of-old_mode.result modes c.from.result are c.mode_of-old_mode.ensures modes_are all
