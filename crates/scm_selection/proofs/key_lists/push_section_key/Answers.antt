use Rattle.std.proofs.Common.{◌≡◌, true}
use Rattle.scm_types.specs.Marks.{is_editable_section}
use Rattle.scm_selection.proofs.KeyListLemmas.{section_key-alone}
use Rattle.scm_selection.proofs.key_lists.push_section_key.Goals as goal

pub returns : goal.returns
returns c =
    let editable : is_editable_section c.args.section.now ≡ true = cc in
    rw (section_key-alone c.args.file c.args.index c.args.section.now editable, ← c.section_key.ensures) c.in_ok-push.ensures.items
