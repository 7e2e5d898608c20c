use Rattle.std.proofs.Common.{◌≡◌, true, false, [], ◌∷◌, take}
use Rattle.std.specs.Prelude.{is_some}
use Rattle.scm_selection.specs.KeySet.{has_key}
use Rattle.scm_selection.specs.KeyLists.{file_key, sections_keys}
use Rattle.scm_selection.specs.KeysAround.{is_stop, find_last, keys_before_file}
use Rattle.scm_selection.proofs.FindLemmas.{last-kept, last-missed}
use Rattle.scm_selection.proofs.moves.last_before_section.Goals as goal

pub returns-then-is_some : goal.returns-then-is_some
returns-then-is_some c =
    let was : is_some c.last_of_sections-found.result ≡ true = cc in
    rw (← c.sections_at.ensures) (last-kept (is_stop c.args.reach (has_key c.args.expanded.now)) (keys_before_file c.args.files.now c.args.file) ((file_key c.args.file) ∷ (sections_keys c.args.file 0 (take c.args.section c.sections_at.result.now))) _ was (last-kept (is_stop c.args.reach (has_key c.args.expanded.now)) ((file_key c.args.file) ∷ []) (sections_keys c.args.file 0 (take c.args.section c.sections_at.result.now)) _ was c.last_of_sections-found.ensures))

pub returns-then-is_some-2 : goal.returns-then-is_some-2
returns-then-is_some-2 c =
    let missed : is_some c.last_of_sections-found.result ≡ false = cc in
    let was : is_some c.stop_at-found.result ≡ true = cc in
    let stop : c.stop_at-found.result ≡ find_last (is_stop c.args.reach (has_key c.args.expanded.now)) ((file_key c.args.file) ∷ []) = rw (← c.file_key.ensures) c.stop_at-found.ensures in
    rw (← c.sections_at.ensures) (last-kept (is_stop c.args.reach (has_key c.args.expanded.now)) (keys_before_file c.args.files.now c.args.file) ((file_key c.args.file) ∷ (sections_keys c.args.file 0 (take c.args.section c.sections_at.result.now))) _ was (last-missed (is_stop c.args.reach (has_key c.args.expanded.now)) ((file_key c.args.file) ∷ []) (sections_keys c.args.file 0 (take c.args.section c.sections_at.result.now)) _ _ missed c.last_of_sections-found.ensures stop))

pub returns : goal.returns
returns c =
    let missed : is_some c.last_of_sections-found.result ≡ false = cc in
    let was : is_some c.stop_at-found.result ≡ false = cc in
    let stop : c.stop_at-found.result ≡ find_last (is_stop c.args.reach (has_key c.args.expanded.now)) ((file_key c.args.file) ∷ []) = rw (← c.file_key.ensures) c.stop_at-found.ensures in
    rw (← c.sections_at.ensures) (last-missed (is_stop c.args.reach (has_key c.args.expanded.now)) (keys_before_file c.args.files.now c.args.file) ((file_key c.args.file) ∷ (sections_keys c.args.file 0 (take c.args.section c.sections_at.result.now))) _ _ was (last-missed (is_stop c.args.reach (has_key c.args.expanded.now)) ((file_key c.args.file) ∷ []) (sections_keys c.args.file 0 (take c.args.section c.sections_at.result.now)) _ _ missed c.last_of_sections-found.ensures stop) c.last_of_files.ensures)
