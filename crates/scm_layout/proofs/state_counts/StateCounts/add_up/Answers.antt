use Rattle.std.proofs.Common.{◌∙◌, nat_lt, ap}
use Rattle.std.specs.Prelude.{count_by}
use Rattle.scm_layout.specs.declared.file_counts.FileCounts.{FileCounts}
use Rattle.scm_layout.proofs.MarkedLemmas.{changed-counted, counts-are, lines-exact}
use Rattle.scm_layout.proofs.state_counts.StateCounts.add_up.Goals as goal

pub returns : goal.returns
returns c =
    let files = c.args.files.now in
    counts-are _ _ _ files c.requires.counted
    (c.checked_in_files-checked_lines.ensures ∙ lines-exact files c.requires.fits)
    (c.changed_in_files-changed_files.ensures ∙ ap (count_by (λ (d : FileCounts). nat_lt 0 d.checked)) (c.as_slice-counts.ensures ∙ c.requires.counted) ∙ changed-counted files)
