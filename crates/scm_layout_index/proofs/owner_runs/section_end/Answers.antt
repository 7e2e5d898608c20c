use Rattle.std.proofs.Common.{◌∙◌, sym}
use Rattle.scm_layout_index.proofs.OwnerRunLemmas.{heading-row, line-row, mark-row, context-row, blank-row}
use Rattle.scm_layout_index.proofs.owner_runs.section_end.Goals as goal

pub returns-in-Header : goal.returns-in-Header
returns-in-Header c =
    heading-row c.args.width c.args.section.now c.args.row c.args.column _ (sym c.kind_on.ensures ∙ c.in-Header.is) c.heading_end.ensures.boxes c.heading_end.ensures.first

pub returns-in-Line : goal.returns-in-Line
returns-in-Line c =
    rw (c.end_before-in-Line.ensures, c.end_before.ensures) (line-row c.args.width c.args.section.now c.args.row c.args.column _ (sym c.kind_on.ensures ∙ c.in-Line.is) c.requires)

pub returns-in-Mark : goal.returns-in-Mark
returns-in-Mark c =
    rw (c.end_before-in-Mark-2.ensures, c.end_before-in-Mark.ensures) (mark-row c.args.width c.args.section.now c.args.row c.args.column (sym c.kind_on.ensures ∙ c.in-Mark.is) c.requires)

pub returns-in-Context : goal.returns-in-Context
returns-in-Context c = context-row c.args.width c.args.section.now c.args.row c.args.column _ (sym c.kind_on.ensures ∙ c.in-Context.is) c.requires

pub returns-in-Blank : goal.returns-in-Blank
returns-in-Blank c =
    rw c.end_before-in-Blank.ensures (blank-row c.args.width c.args.section.now c.args.row c.args.column (sym c.kind_on.ensures ∙ c.in-Blank.is) c.requires)
