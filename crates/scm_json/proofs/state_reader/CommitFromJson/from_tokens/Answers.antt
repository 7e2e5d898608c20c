use Rattle.std.specs.Prelude.{codes}
use Rattle.serde_json.specs.Find.{as_str}
use Rattle.scm_json.specs.Form.{optional}
use Rattle.scm_json.proofs.TokenLemmas.{IsReadMember-of, opened}
use Rattle.scm_json.proofs.FormLemmas.{commit-read}
use Rattle.scm_json.proofs.state_reader.CommitFromJson.from_tokens.Goals as goal

pub returns : goal.returns
returns c =
    let m1 = IsReadMember-of (optional as_str) 0 (codes "message") c.args.reader.now c.in_ok-message.field-0 c.in-Some.message c.next_member.new.reader c.in-Some.is c.in_ok-message.ensures in
    let ends = c.ends_object.ensures c.if-not-ends_object.false in
    let read = commit-read c.args.reader.now c.next_member.new.reader c.ends_object.new.reader _ m1 ends in
    opened _ _ _ _ _ c.args.first c.in-BeginObject.is read
