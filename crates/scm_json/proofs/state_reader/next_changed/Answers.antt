use Rattle.std.specs.Prelude.{codes}
use Rattle.scm_json.specs.Form.{line_of, list_of}
use Rattle.scm_json.proofs.TokenLemmas.{IsReadMember-of}
use Rattle.scm_json.proofs.FormLemmas.{changed-read}
use Rattle.scm_json.proofs.state_reader.next_changed.Goals as goal

pub returns : goal.returns
returns c =
    let m1 = IsReadMember-of (list_of line_of) 2 (codes "lines") c.args.reader.now c.in_ok-lines.field-0 c.in-Some.lines c.next_member.new.reader c.in-Some.is c.in_ok-lines.ensures in
    let ends = c.ends_object.ensures c.if-not-ends_object.false in
    changed-read c.args.reader.now c.next_member.new.reader c.ends_object.new.reader _ m1 ends
