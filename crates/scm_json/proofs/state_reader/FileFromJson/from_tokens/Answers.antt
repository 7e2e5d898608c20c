use Rattle.std.specs.Prelude.{codes}
use Rattle.serde_json.specs.Find.{as_str}
use Rattle.scm_json.specs.Form.{list_of, mode_of, optional, section_of}
use Rattle.scm_json.proofs.TokenLemmas.{IsReadMember-of, opened}
use Rattle.scm_json.proofs.FormLemmas.{file-read}
use Rattle.scm_json.proofs.state_reader.FileFromJson.from_tokens.Goals as goal

pub returns : goal.returns
returns c =
    let m1 = IsReadMember-of (optional as_str) 0 (codes "old_path") c.args.reader.now c.in_ok-old_path.field-0 c.in-Some.old_path c.next_member.new.reader c.in-Some.is c.in_ok-old_path.ensures in
    let m2 = IsReadMember-of as_str 0 (codes "path") c.next_member.new.reader c.in_ok-path.field-0 c.in-Some-2.path c.next_member-2.new.reader c.in-Some-2.is c.in_ok-path.ensures in
    let m3 = IsReadMember-of mode_of 1 (codes "file_mode") c.next_member-2.new.reader c.in_ok-file_mode.field-0 c.in-Some-3.file_mode c.next_member-3.new.reader c.in-Some-3.is c.in_ok-file_mode.ensures in
    let m4 = IsReadMember-of (list_of section_of) 5 (codes "sections") c.next_member-3.new.reader c.in_ok-sections.field-0 c.in-Some-4.sections c.next_member-4.new.reader c.in-Some-4.is c.in_ok-sections.ensures in
    let ends = c.ends_object.ensures c.if-not-ends_object.false in
    let read = file-read c.args.reader.now c.next_member.new.reader c.next_member-2.new.reader c.next_member-3.new.reader c.next_member-4.new.reader c.ends_object.new.reader _ _ _ _ m1 m2 m3 m4 ends in
    opened _ _ _ _ _ c.args.first c.in-BeginObject.is read
