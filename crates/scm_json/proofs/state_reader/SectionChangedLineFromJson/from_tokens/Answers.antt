use Rattle.std.specs.Prelude.{codes}
use Rattle.serde_json.specs.Find.{as_bool, as_str}
use Rattle.scm_json.specs.Form.{change_type_of}
use Rattle.scm_json.proofs.TokenLemmas.{IsReadMember-of, opened}
use Rattle.scm_json.proofs.FormLemmas.{line-read}
use Rattle.scm_json.proofs.state_reader.SectionChangedLineFromJson.from_tokens.Goals as goal

pub returns : goal.returns
returns c =
    let m1 = IsReadMember-of as_bool 0 (codes "is_checked") c.args.reader.now c.in_ok-is_checked.field-0 c.in-Some.is_checked c.next_member.new.reader c.in-Some.is c.in_ok-is_checked.ensures in
    let m2 = IsReadMember-of change_type_of 0 (codes "change_type") c.next_member.new.reader c.in_ok-change_type.field-0 c.in-Some-2.change_type c.next_member-2.new.reader c.in-Some-2.is c.in_ok-change_type.ensures in
    let m3 = IsReadMember-of as_str 0 (codes "line") c.next_member-2.new.reader c.in_ok-line.field-0 c.in-Some-3.line c.next_member-3.new.reader c.in-Some-3.is c.in_ok-line.ensures in
    let ends = c.ends_object.ensures c.if-not-ends_object.false in
    let read = line-read c.args.reader.now c.next_member.new.reader c.next_member-2.new.reader c.next_member-3.new.reader c.ends_object.new.reader _ _ _ m1 m2 m3 ends in
    opened _ _ _ _ _ c.args.first c.in-BeginObject.is read
