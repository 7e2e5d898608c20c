use Rattle.std.specs.Prelude.{codes}
use Rattle.serde_json.specs.Find.{as_bool}
use Rattle.scm_json.specs.Form.{commit_of, file_of, list_of}
use Rattle.scm_json.proofs.TokenLemmas.{IsReadMember-of, opened}
use Rattle.scm_json.proofs.FormLemmas.{state-read}
use Rattle.scm_json.proofs.state_reader.RecordStateFromJson.from_tokens.Goals as goal

pub returns : goal.returns
returns c =
    let m1 = IsReadMember-of as_bool 0 (codes "is_read_only") c.args.reader.now c.in_ok-is_read_only.field-0 c.in-Some.is_read_only c.next_member.new.reader c.in-Some.is c.in_ok-is_read_only.ensures in
    let m2 = IsReadMember-of (list_of commit_of) 2 (codes "commits") c.next_member.new.reader c.in_ok-commits.field-0 c.in-Some-2.commits c.next_member-2.new.reader c.in-Some-2.is c.in_ok-commits.ensures in
    let m3 = IsReadMember-of (list_of file_of) 7 (codes "files") c.next_member-2.new.reader c.in_ok-files.field-0 c.in-Some-3.files c.next_member-3.new.reader c.in-Some-3.is c.in_ok-files.ensures in
    let ends = c.ends_object.ensures c.if-not-ends_object.false in
    let read = state-read c.args.reader.now c.next_member.new.reader c.next_member-2.new.reader c.next_member-3.new.reader c.ends_object.new.reader _ _ _ m1 m2 m3 ends in
    opened _ _ _ _ _ c.args.first c.in-BeginObject.is read
