use Rattle.std.proofs.Common.{refl}
use Rattle.scm_merge.proofs.RegionLemmas.{region-made}
use Rattle.scm_merge.proofs.regions.region_at.Goals as goal

pub returns-clause-made : goal.returns-clause-made
returns-clause-made c = λ from hf kf.
    let last = c.fully_grown-last.result in
    let our_end = c.advanced-our_end.result in
    let their_end = c.advanced-their_end.result in
    let start = c.args.start in
    region-made c.args.base.now c.args.ours.now c.args.theirs.now c.args.ours_hunks.now c.args.theirs_hunks.now c.args.cursors start
    (record { start = start; end = start; ours = c.advanced-our_start.result; theirs = c.advanced-their_start.result })
    last our_end their_end
    (record { base_start = start; base_end = last.end; ours_start = c.advanced-our_start.result.side; ours_end = our_end.side; theirs_start = c.advanced-their_start.result.side; theirs_end = their_end.side })
    c.requires.first refl c.fully_grown-last.ensures.grown c.fully_grown-last.ensures.needed c.advanced-our_end.ensures c.advanced-their_end.ensures refl refl refl refl from hf kf
