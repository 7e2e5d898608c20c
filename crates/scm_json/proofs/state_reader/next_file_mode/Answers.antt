use Rattle.std.specs.Prelude.{codes}
use Rattle.serde_json.specs.Find.{as_bool}
use Rattle.scm_json.specs.Form.{mode_of}
use Rattle.scm_json.proofs.TokenLemmas.{IsReadMember-of}
use Rattle.scm_json.proofs.FormLemmas.{file_mode-read}
use Rattle.scm_json.proofs.state_reader.next_file_mode.Goals as goal

pub returns : goal.returns
returns c =
    let m1 = IsReadMember-of as_bool 0 (codes "is_checked") c.args.reader.now c.in_ok-is_checked.field-0 c.in-Some.is_checked c.next_member.new.reader c.in-Some.is c.in_ok-is_checked.ensures in
    let m2 = IsReadMember-of mode_of 1 (codes "mode") c.next_member.new.reader c.in_ok-mode.field-0 c.in-Some-2.mode c.next_member-2.new.reader c.in-Some-2.is c.in_ok-mode.ensures in
    let ends = c.ends_object.ensures c.if-not-ends_object.false in
    file_mode-read c.args.reader.now c.next_member.new.reader c.next_member-2.new.reader c.ends_object.new.reader _ _ m1 m2 ends
