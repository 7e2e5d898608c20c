use Rattle.std.proofs.Common.{◌∙◌, List, length, ap}
use Rattle.scm_selection.proofs.ToggleLemmas.{lent_whole}
use Rattle.scm_layout.specs.declared.file_counts.FileCounts.{FileCounts}
use Rattle.scm_layout.proofs.MarkedLemmas.{line-changed_room, line-had, line-had_changed, line-room, line-totals}
use Rattle.scm_layout.proofs.state_counts.StateCounts.count_line_at.Goals as goal

pub exchange-requires : goal.exchange-requires
exchange-requires c = record {
  lines = rw c.mark_count-had.ensures (line-had _ _ _ _ _ c.requires);
  lines_fit = rw (c.mark_count-had.ensures, c.mark_count-has.ensures) (line-room _ _ _ _ _ c.requires);
  changed = line-had_changed _ _ _ _ _ c.requires;
  changed_fit = line-changed_room _ _ _ _ _ c.requires _ c.changed_at-still_changed.ensures;
}

pub returns : goal.returns
returns c =
    let whole = lent_whole c.args.self.now.files c.count_line.new.counts (c.count_line.auto.counts ∙ ap (λ (cs : List FileCounts). length cs) c.as_mut_slice.ensures.value) in
    let made = rw (c.mark_count-had.ensures, c.mark_count-has.ensures) at c.exchange.ensures in
    made ∙ line-totals _ _ _ _ _ c.requires _ c.changed_at-still_changed.ensures _ (whole ∙ c.count_line.ensures)
