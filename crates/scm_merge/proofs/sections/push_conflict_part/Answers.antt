use Rattle.scm_merge.proofs.PartLemmas.{goes-trimmed}
use Rattle.scm_merge.proofs.sections.push_conflict_part.Goals as goal

pub returns : goal.returns
returns c =
    goes-trimmed c.args.base.now c.args.ours.now c.args.theirs.now c.shared_start-start.result c.shared_end-end.result c.args.sections.now.items c.flush.new.sections.items c.push_conflict.new.sections.items c.args.pending.now.items c.push_lines.new.lines.items c.flush.new.pending.items c.push_lines-2.new.lines.items
    c.shared_start-start.ensures.count c.shared_end-end.ensures.count c.in_ok-push_lines.ensures c.in_ok-flush.ensures.sections c.in_ok-flush.ensures.pending c.in_ok-push_conflict.ensures c.in_ok-push_lines-2.ensures
