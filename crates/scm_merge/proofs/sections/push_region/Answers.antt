use Rattle.scm_merge.proofs.PartLemmas.{goes-both}
use Rattle.std.specs.Prelude.{slice_range}
use Rattle.scm_merge.specs.Parts.{outcomes_of, part_at}
use Rattle.scm_merge.proofs.sections.push_region.Goals as goal

pub returns : goal.returns
returns c =
    let base = c.args.base.now in
    let r = c.args.region in
    goes-both (slice_range base c.args.done r.base_start) (outcomes_of (part_at base c.args.ours.now c.args.theirs.now r)) c.args.sections.now.items c.push_part.new.sections.items c.args.pending.now.items c.push_lines.new.lines.items c.push_part.new.pending.items c.in_ok-push_lines.ensures c.in_ok-push_part.ensures
