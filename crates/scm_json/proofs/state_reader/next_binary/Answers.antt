use Rattle.std.specs.Prelude.{codes}
use Rattle.serde_json.specs.Find.{as_bool, as_str}
use Rattle.scm_json.specs.Form.{optional}
use Rattle.scm_json.proofs.TokenLemmas.{IsReadMember-of}
use Rattle.scm_json.proofs.FormLemmas.{binary-read}
use Rattle.scm_json.proofs.state_reader.next_binary.Goals as goal

pub returns : goal.returns
returns c =
    let m1 = IsReadMember-of as_bool 0 (codes "is_checked") c.args.reader.now c.in_ok-is_checked.field-0 c.in-Some.is_checked c.next_member.new.reader c.in-Some.is c.in_ok-is_checked.ensures in
    let m2 = IsReadMember-of (optional as_str) 0 (codes "old_description") c.next_member.new.reader c.in_ok-old_description.field-0 c.in-Some-2.old_description c.next_member-2.new.reader c.in-Some-2.is c.in_ok-old_description.ensures in
    let m3 = IsReadMember-of (optional as_str) 0 (codes "new_description") c.next_member-2.new.reader c.in_ok-new_description.field-0 c.in-Some-3.new_description c.next_member-3.new.reader c.in-Some-3.is c.in_ok-new_description.ensures in
    let ends = c.ends_object.ensures c.if-not-ends_object.false in
    binary-read c.args.reader.now c.next_member.new.reader c.next_member-2.new.reader c.next_member-3.new.reader c.ends_object.new.reader _ _ _ m1 m2 m3 ends
