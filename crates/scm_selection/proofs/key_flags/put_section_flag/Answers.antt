use Rattle.std.proofs.Common.{◌≡◌, ◌∙◌, ◌++◌, List, Bool, drop, get_or, length, sym, ap, take}
use Rattle.scm_types.specs.Edits.{modify}
use Rattle.scm_types.proofs.EditLemmas.{slice_set-changed, modify-past}
use Rattle.scm_selection.specs.KeyFlags.{with_section_flag}
use Rattle.scm_selection.specs.declared.key_flags.FileFlags.{FileFlags}
use Rattle.scm_selection.proofs.ToggleLemmas.{lent_whole}
use Rattle.scm_selection.proofs.key_flags.put_section_flag.Goals as goal

pub returns-then-file-flags : goal.returns-then-file-flags
returns-then-file-flags c =
    let f : FileFlags = get_or c.args.flags.now c.args.file c.index-flags-file.result in
    let old = f.sections in
    let new = c.put_at.new.flags in
    let put : new ≡ modify (λ _. c.args.is_set) old c.args.section = c.put_at.ensures ∙ ap (λ (bs : List Bool). modify (λ _. c.args.is_set) bs c.args.section) c.as_mut_slice.ensures.value in
    let whole : take (length old) (new ++ drop (length new) old) ≡ new = lent_whole old new (c.put_at.auto.flags ∙ ap (λ (bs : List Bool). length bs) c.as_mut_slice.ensures.value) in
    slice_set-changed (with_section_flag c.args.is_set c.args.section) c.args.flags.now c.args.file c.index-flags-file.result _ c.if-file-flags.true
    (ap (λ (bs : List Bool). record f { sections = bs }) (whole ∙ put))

pub returns-else-file-flags : goal.returns-else-file-flags
returns-else-file-flags c = sym (modify-past (with_section_flag c.args.is_set c.args.section) c.args.flags.now c.args.file c.if-file-flags.false)
