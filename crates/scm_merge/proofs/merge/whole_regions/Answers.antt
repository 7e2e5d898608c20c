use Rattle.std.proofs.Common.{[], ◌∷◌, ap, ◌∙◌}
use Rattle.scm_merge.proofs.MergeLemmas.{merged-whole}
use Rattle.scm_merge.proofs.merge.whole_regions.Goals as goal

pub returns : goal.returns
returns c = merged-whole c.args.base.now c.args.ours.now c.args.theirs.now c.in_ok-regions.regions.items c.requires (c.in_ok-regions.ensures ∙ ap (λ r. r ∷ []) c.whole_region-whole.ensures)
