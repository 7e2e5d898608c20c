use Rattle.std.proofs.Common.{◌∙◌, List, length, ap}
use Rattle.scm_selection.proofs.ToggleLemmas.{lent_whole}
use Rattle.scm_layout.specs.declared.file_counts.FileCounts.{FileCounts}
use Rattle.scm_layout.proofs.MarkedLemmas.{file-changed_room, file-fits, file-had_changed, file-had_lines, file-lines_room, file-totals}
use Rattle.scm_layout.proofs.state_counts.StateCounts.recount_at.Goals as goal

pub share_at-after-requires-clause-fits : goal.share_at-after-requires-clause-fits
share_at-after-requires-clause-fits c = file-fits _ _ _ _ c.requires

pub exchange-requires : goal.exchange-requires
exchange-requires c = record {
  lines = file-had_lines _ _ _ _ c.requires;
  lines_fit = file-lines_room _ _ _ _ c.requires _ c.share_at-after.ensures;
  changed = file-had_changed _ _ _ _ c.requires;
  changed_fit = file-changed_room _ _ _ _ c.requires _ c.share_at-after.ensures;
}

pub returns : goal.returns
returns c =
    let whole = lent_whole c.args.self.now.files c.recount_file.new.counts (c.recount_file.auto.counts ∙ ap (λ (cs : List FileCounts). length cs) c.as_mut_slice.ensures.value) in
    c.exchange.ensures ∙ file-totals _ _ _ _ c.requires _ c.share_at-after.ensures _ (whole ∙ c.recount_file.ensures)
