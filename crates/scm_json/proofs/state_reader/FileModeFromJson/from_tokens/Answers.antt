use Rattle.std.proofs.Common.{◌∷◌, sym, subst}
use Rattle.std.specs.Prelude.{IfSome, codes}
use Rattle.json.specs.Reads.{token_of}
use Rattle.scm_json.specs.Form.{bits_of, mode_of}
use Rattle.scm_json.specs.Tokens.{IsRead}
use Rattle.scm_json.proofs.TokenLemmas.{IsReadMember-of, opened}
use Rattle.scm_json.proofs.FormLemmas.{absent-read, unix-read}
use Rattle.scm_json.proofs.state_reader.FileModeFromJson.from_tokens.Goals as goal

pub returns-in-String : goal.returns-in-String
returns-in-String c =
    let now = c.args.reader.now in
    let found = c.read_absent.result in
    subst (λ t. IfSome found (λ x. IsRead mode_of 1 (token_of t ∷ now) x now)) (sym c.in-String.is) (absent-read c.in-String.name.now found now c.read_absent.ensures)

pub returns-else-not-ends_object : goal.returns-else-not-ends_object
returns-else-not-ends_object c =
    let m = IsReadMember-of bits_of 0 (codes "Unix") c.args.reader.now c.in_ok-bits-in-BeginObject.field-0 c.in-Some.bits c.next_member.new.reader c.in-Some.is c.in_ok-bits-in-BeginObject.ensures in
    let ends = c.ends_object.ensures c.if-not-ends_object.false in
    opened _ _ _ _ _ c.args.first c.in-BeginObject.is (unix-read c.args.reader.now c.next_member.new.reader c.ends_object.new.reader _ m ends)
