use mathlib.Core.Bool.{not-not}
use Rattle.std.proofs.Common.{◌∙◌, List, Some, ap, sym}
use Rattle.scm_types.specs.declared.file.File.{File}
use Rattle.scm_layout.specs.Counts.{counts_of}
use Rattle.scm_layout.specs.declared.state_counts.StateCounts.{StateCounts}
use Rattle.scm_layout.proofs.FilesLemmas.{missing-line}
use Rattle.scm_layout.proofs.state_counts.StateCounts.toggle_line.Goals as goal

pub toggle_line_in-requires : goal.toggle_line_in-requires
toggle_line_in-requires c = c.as_slice-2.ensures ∙ ap (λ (d : StateCounts). d.files) c.requires.counted

pub count_line_at-requires : goal.count_line_at-requires
count_line_at-requires c = record {
  before = c.args.files.now;
  is_counted = c.requires.counted;
  mark = sym c.line_mark_at-mark.ensures ∙ c.in-Some.is ∙ ap Some (sym (not-not c.in-Some.was_checked));
  after = c.toggle_line_in.ensures;
  changed_is = c.changed_at-changed.ensures;
  fits = c.requires.fits;
}

pub returns-in-None-clause-counts : goal.returns-in-None-clause-counts
returns-in-None-clause-counts c =
    let key = c.args.key in
    let same = c.toggle_line_in.ensures ∙ missing-line c.args.files.now key.file_idx key.section_idx key.line_idx (sym c.line_mark_at-mark.ensures ∙ c.in-None.is) in
    c.requires.counted ∙ ap (λ (fs : List File). counts_of fs) (sym same)
