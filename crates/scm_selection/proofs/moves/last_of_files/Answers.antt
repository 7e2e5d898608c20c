use Rattle.std.proofs.Common.{◌≡◌, ◌+◌, ◌-◌, ◌<◌, true, false, ◌∷◌, length, take, ap, ◌∙◌, arith}
use Rattle.std.specs.Prelude.{is_some}
use Rattle.scm_selection.specs.KeySet.{has_key}
use Rattle.scm_selection.specs.KeyLists.{file_key, sections_keys, files_keys}
use Rattle.scm_selection.specs.KeysAround.{is_stop, find_last}
use Rattle.scm_selection.proofs.FindLemmas.{item-at, file-last-found, file-last-missed}
use Rattle.scm_selection.proofs.moves.last_of_files.Goals as goal

pub returns-then-is_some : goal.returns-then-is_some
returns-then-is_some c =
    let end = c.min-end.result in
    let step = c.loop-step.step in
    let i = end - 1 - step in
    let below : step < end = c.loop-step-test.true in
    let next : i + 1 ≡ end - step = omega (arith, below) in
    let within : i < length c.args.files.now = omega (arith, below, c.min-end.ensures) in
    let item = c.index-files-index.result in
    let at = item-at c.args.files.now i item within c.index-files-index.is in
    let found : is_some (find_last (is_stop c.args.reach (has_key c.args.expanded.now)) (file_key i ∷ sections_keys i 0 item.sections)) ≡ true = cc in
    c.last_of_file-found.ensures ∙ file-last-found (is_stop c.args.reach (has_key c.args.expanded.now)) i c.args.files.now item at found ∙ ap (λ n. find_last (is_stop c.args.reach (has_key c.args.expanded.now)) (files_keys 0 (take n c.args.files.now))) next ∙ c.loop-step.invariant

pub loop-step-preserved : goal.loop-step-preserved
loop-step-preserved c =
    let end = c.min-end.result in
    let step = c.loop-step.step in
    let i = end - 1 - step in
    let below : step < end = c.loop-step-test.true in
    let next : i + 1 ≡ end - step = omega (arith, below) in
    let within : i < length c.args.files.now = omega (arith, below, c.min-end.ensures) in
    let item = c.index-files-index.result in
    let at = item-at c.args.files.now i item within c.index-files-index.is in
    let missed : is_some (find_last (is_stop c.args.reach (has_key c.args.expanded.now)) (file_key i ∷ sections_keys i 0 item.sections)) ≡ false = cc in
    let rest : end - (step + 1) ≡ i = omega arith in
    ap (λ n. find_last (is_stop c.args.reach (has_key c.args.expanded.now)) (files_keys 0 (take n c.args.files.now))) rest ∙ file-last-missed (is_stop c.args.reach (has_key c.args.expanded.now)) i c.args.files.now item at missed ∙ ap (λ n. find_last (is_stop c.args.reach (has_key c.args.expanded.now)) (files_keys 0 (take n c.args.files.now))) next ∙ c.loop-step.invariant
