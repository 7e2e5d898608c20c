use Rattle.std.proofs.Common.{◌≡◌, true, false, ◌∷◌, ◌∙◌}
use Rattle.std.specs.Prelude.{find, is_some}
use Rattle.scm_selection.specs.KeySet.{has_key}
use Rattle.scm_selection.specs.KeyLists.{file_key, sections_keys}
use Rattle.scm_selection.specs.KeysAround.{is_stop}
use Rattle.scm_selection.proofs.FindLemmas.{item-at, file-found, file-missed}
use Rattle.scm_selection.proofs.moves.first_of_files.Goals as goal

pub returns-then-is_some : goal.returns-then-is_some
returns-then-is_some c =
    let file = c.index-files-index.result in
    let at = item-at c.args.files.now c.loop-index.index file c.loop-index-test.true c.index-files-index.is in
    let found : is_some (find (is_stop c.args.reach (has_key c.args.expanded.now)) (file_key c.loop-index.index ∷ sections_keys c.loop-index.index 0 file.sections)) ≡ true = cc in
    c.first_of_file-found.ensures ∙ file-found (is_stop c.args.reach (has_key c.args.expanded.now)) c.loop-index.index c.args.files.now file at found ∙ c.loop-index.invariant

pub loop-index-preserved : goal.loop-index-preserved
loop-index-preserved c =
    let file = c.index-files-index.result in
    let at = item-at c.args.files.now c.loop-index.index file c.loop-index-test.true c.index-files-index.is in
    let missed : is_some (find (is_stop c.args.reach (has_key c.args.expanded.now)) (file_key c.loop-index.index ∷ sections_keys c.loop-index.index 0 file.sections)) ≡ false = cc in
    file-missed (is_stop c.args.reach (has_key c.args.expanded.now)) c.loop-index.index c.args.files.now file at missed ∙ c.loop-index.invariant
