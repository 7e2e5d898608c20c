use Rattle.std.proofs.Common.{◌≡◌, ◌∙◌, false, ap, sym}
use Rattle.scm_layout.specs.Recounts.{files_counts, has_modes_at}
use Rattle.scm_layout.proofs.ModeLemmas.{line-alone}
use Rattle.scm_layout.proofs.state_counts.toggle_line_in.Goals as goal

pub returns-else-has_modes_at : goal.returns-else-has_modes_at
returns-else-has_modes_at c =
    let key = c.args.key in
    let files = c.args.files.now in
    let none : has_modes_at (files_counts files) key.file_idx ≡ false =
    ap (λ cs. has_modes_at cs key.file_idx) (sym c.requires) ∙ sym c.has_modes_at.ensures ∙ c.if-has_modes_at.false in
    c.invert_line_alone.ensures ∙ line-alone files key.file_idx key.section_idx key.line_idx none
