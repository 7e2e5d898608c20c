use Rattle.std.proofs.lemmas.Option.{slice_get-get_or}
use Rattle.scm_selection.proofs.ToggleLemmas.{nothing_follows}
use Rattle.scm_selection.proofs.toggles.set_section.Goals as goal

pub returns-in-Changed : goal.returns-in-Changed
returns-in-Changed c =
    let at = slice_get-get_or c.args.sections.now c.args.index c.index-sections-index.result c.if-index-sections.false in
    rw (at, c.in-Changed.is, ← c.set_section_at.ensures) c.follow_lines.ensures

pub returns-in-FileMode : goal.returns-in-FileMode
returns-in-FileMode c =
    let at = slice_get-get_or c.args.sections.now c.args.index c.index-sections-index.result c.if-index-sections.false in
    rw (at, c.in-FileMode.is, ← c.set_section_at-in-FileMode.ensures) c.follow_mode.ensures

pub returns-in-Unchanged : goal.returns-in-Unchanged
returns-in-Unchanged c =
    let at = slice_get-get_or c.args.sections.now c.args.index c.index-sections-index.result c.if-index-sections.false in
    rw (at, nothing_follows c.args.mode c.args.checked _ _ c.in-Unchanged.is) c.set_section_at-in-Unchanged.ensures
