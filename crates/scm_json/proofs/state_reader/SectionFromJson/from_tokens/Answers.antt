use Rattle.std.proofs.Common.{◌≡◌, Some, arith}
use Rattle.json.specs.Json.{read_key}
use Rattle.scm_json.specs.Form.{fields_of}
use Rattle.scm_json.proofs.TokenLemmas.{IsRead-of, opened}
use Rattle.scm_json.proofs.FormLemmas.{section-read}
use Rattle.scm_json.proofs.state_reader.SectionFromJson.from_tokens.Goals as goal

pub returns : goal.returns
returns c =
    let t0 = c.args.reader.now in
    let t1 = c.next_key.new.self in
    let t2 = c.next_fields.new.reader in
    let kind = c.in-Ok-Some.kind.now in
    let key : read_key t0 ≡ Some (Some kind, t1) = grind arith in
    let fields = IsRead-of (fields_of kind) 3 t1 c.in_ok-section.field-0 c.in-Some.section t2 c.in-Some.is c.in_ok-section.ensures in
    let ends = c.ends_object.ensures c.if-not-ends_object.false in
    opened _ _ _ _ _ c.args.first c.in-BeginObject.is (section-read t0 t1 t2 c.ends_object.new.reader kind c.in-Some.section key fields ends)
