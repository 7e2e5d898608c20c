use Rattle.scm_selection.specs.Toggle.{with_section_toggled}
use Rattle.scm_layout.proofs.BareLemmas.{section-hidden}
use Rattle.scm_layout.proofs.state_counts.StateCounts.toggle_section.Goals as goal

pub recount_at-requires : goal.recount_at-requires
recount_at-requires c = record {
  before = c.args.files.now;
  change = with_section_toggled c.args.key.section_idx;
  is_counted = c.requires.counted;
  after = c.toggle_key.ensures;
  same = section-hidden c.args.key.section_idx;
  share_is = c.share_at-before.ensures;
  fits = c.requires.fits;
}
