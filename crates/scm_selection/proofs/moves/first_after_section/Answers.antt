use Rattle.std.proofs.Common.{◌≡◌, true, false}
use Rattle.std.specs.Prelude.{is_some}
use Rattle.scm_selection.specs.KeySet.{has_key}
use Rattle.scm_selection.specs.KeysAround.{is_stop}
use Rattle.scm_selection.proofs.FindLemmas.{kept, missed}
use Rattle.scm_selection.proofs.moves.first_after_section.Goals as goal

pub returns-then-is_some : goal.returns-then-is_some
returns-then-is_some c =
    let was : is_some c.first_of_later_sections-found.result ≡ true = cc in
    rw (← c.sections_at-sections.ensures) (kept (is_stop c.args.reach (has_key c.args.expanded.now)) _ _ _ was c.first_of_later_sections-found.ensures)

pub returns : goal.returns
returns c =
    let was : is_some c.first_of_later_sections-found.result ≡ false = cc in
    rw (← c.sections_at-sections.ensures) (missed (is_stop c.args.reach (has_key c.args.expanded.now)) _ _ _ _ was c.first_of_later_sections-found.ensures c.first_after_file.ensures)
