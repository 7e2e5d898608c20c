use Rattle.std.proofs.Common.{[], ◌∷◌, ap, sym, ◌∙◌}
use Rattle.scm_merge.proofs.MergeLemmas.{merged-whole-by}
use Rattle.scm_merge.proofs.merge.merge_regions_by.Goals as goal

pub returns-in_ok-regions : goal.returns-in_ok-regions
returns-in_ok-regions c = merged-whole-by c.args.base.now c.args.ours.now c.args.theirs.now c.in_ok-regions.regions.items c.args.our_hunks.now c.args.their_hunks.now (sym c.are_two_same.ensures ∙ c.if-are_two_same.true) (c.in_ok-regions.ensures ∙ ap (λ r. r ∷ []) c.whole_region-whole.ensures)
