use Rattle.std.proofs.Common.{sym, subst}
use Rattle.scm_diff.specs.Hunks.{AreHunks}
use Rattle.scm_merge.proofs.MergeLemmas.{merged-parts}
use Rattle.scm_merge.proofs.merge.part_regions.Goals as goal

pub returns : goal.returns
returns c =
    let b = c.args.base.now in
    let o = c.args.ours.now in
    let t = c.args.theirs.now in
    merged-parts b o t c.in_ok-regions.regions.items c.as_slice.result.now c.as_slice-2.result.now c.requires c.in_ok-regions.ensures.regions
    (subst (AreHunks b o) (sym c.as_slice.ensures.value) c.in_ok-our_hunks.ensures)
    (subst (AreHunks b t) (sym c.as_slice-2.ensures.value) c.in_ok-their_hunks.ensures)
    c.in_ok-regions.ensures.changed
    c.in_ok-regions.ensures.made
