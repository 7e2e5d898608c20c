use Rattle.scm_selection.specs.Toggle.{with_file_toggled}
use Rattle.scm_layout.proofs.BareLemmas.{file-hidden}
use Rattle.scm_layout.proofs.state_counts.StateCounts.toggle_file.Goals as goal

pub recount_at-requires : goal.recount_at-requires
recount_at-requires c = record {
  before = c.args.files.now;
  change = with_file_toggled;
  is_counted = c.requires.counted;
  after = c.toggle_key.ensures;
  same = file-hidden;
  share_is = c.share_at-before.ensures;
  fits = c.requires.fits;
}
