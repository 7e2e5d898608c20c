use Rattle.std.proofs.Common.{List, ap, filter, length, sym, ◌∙◌}
use Rattle.std.proofs.lemmas.List.{length-map}
use Rattle.scm_types.specs.declared.line.SectionChangedLine.{SectionChangedLine}
use Rattle.scm_types.specs.declared.section.Section.{Section}
use Rattle.scm_types.specs.Split.{takes}
use Rattle.scm_pager.specs.Sides.{changed_line, lines_of}
use Rattle.scm_pager.proofs.counts.lines_in.Goals as goal

pub returns-in-Changed : goal.returns-in-Changed
returns-in-Changed c =
    c.changes_in.ensures
    ∙ ap (λ (lines : List SectionChangedLine). length (filter (takes c.args.selected) lines)) c.as_slice.ensures
    ∙ sym (length-map (filter (takes c.args.selected) _) changed_line)
    ∙ ap (λ (s : Section). length (lines_of c.args.selected s)) (sym c.in-Changed.is)
