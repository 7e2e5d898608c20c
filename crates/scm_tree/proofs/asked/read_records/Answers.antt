use Rattle.std.proofs.Common.{◌∙◌, sym}
use Rattle.scm_tree.specs.Records.{held_by}
use Rattle.scm_tree.proofs.ReadLemmas.{all_read, part_fails, part_goes, part_left}
use Rattle.scm_tree.proofs.asked.read_records.Goals as goal

pub returns-then-not-branch : goal.returns-then-not-branch
returns-then-not-branch c =
    sym c.records.invariant
    ∙ part_fails (held_by c.records.asked) c.records.rest.now c.before-part.result.now c.in-Some.end c.in_ok-add_record.field-0 c.add_record.new.asked
    (sym c.in-Some.ensures.is) c.before-part.ensures c.in_ok-add_record.ensures c.if-not-branch.true

pub records-preserved : goal.records-preserved
records-preserved c =
    sym (part_goes (held_by c.records.asked) c.records.rest.now c.before-part.result.now c.after-rest.result.now c.in-Some.end c.in_ok-add_record.field-0 c.add_record.new.asked
    (sym c.in-Some.ensures.is) c.before-part.ensures c.after-rest.ensures c.in_ok-add_record.ensures c.if-not-branch.false)
    ∙ c.records.invariant

pub returns-then-is_empty : goal.returns-then-is_empty
returns-then-is_empty c =
    sym c.records.invariant
    ∙ all_read (held_by c.records.asked) c.records.rest.now c.is_empty.result (sym c.in_default.ensures.is) c.is_empty.ensures c.if-is_empty.true

pub returns : goal.returns
returns c =
    sym c.records.invariant
    ∙ part_left (held_by c.records.asked) c.records.rest.now c.is_empty.result (sym c.in_default.ensures.is) c.is_empty.ensures c.if-is_empty.false
