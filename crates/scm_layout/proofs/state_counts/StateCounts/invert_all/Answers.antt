use Rattle.std.proofs.Common.{◌∙◌, List, map, ap, sym}
use Rattle.scm_types.specs.declared.file.File.{File}
use Rattle.scm_layout.specs.declared.state_counts.StateCounts.{StateCounts}
use Rattle.scm_layout.proofs.BareLemmas.{bare_file, inverted-hidden}
use Rattle.scm_layout.proofs.MarkedLemmas.{all-fit}
use Rattle.scm_layout.proofs.state_counts.StateCounts.invert_all.Goals as goal

pub recount_files-requires : goal.recount_files-requires
recount_files-requires c = record {
  before = c.args.files.now;
  is_counted = c.as_mut_slice.ensures.value ∙ ap (λ (d : StateCounts). d.files) c.requires.counted;
  same = sym (inverted-hidden c.args.files.now) ∙ ap (λ (fs : List File). map bare_file fs) (sym c.invert_all.ensures);
  fits = c.requires.fits;
}

pub add_up-requires-clause-fits : goal.add_up-requires-clause-fits
add_up-requires-clause-fits c = all-fit c.args.files.now _ (sym (inverted-hidden c.args.files.now) ∙ ap (λ (fs : List File). map bare_file fs) (sym c.invert_all.ensures)) c.requires.fits
