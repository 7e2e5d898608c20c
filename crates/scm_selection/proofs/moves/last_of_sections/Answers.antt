use Rattle.std.proofs.Common.{◌≡◌, ◌+◌, ◌-◌, ◌<◌, true, false, length, take, ap, sym, ◌∙◌, arith}
use Rattle.std.specs.Prelude.{is_some}
use Rattle.scm_selection.specs.KeySet.{has_key}
use Rattle.scm_selection.specs.KeyLists.{section_keys, sections_keys}
use Rattle.scm_selection.specs.KeysAround.{is_stop, find_last, may_stop_inside}
use Rattle.scm_selection.proofs.FindLemmas.{item-at, no-last-stop, section-last-found, section-last-missed}
use Rattle.scm_selection.proofs.moves.last_of_sections.Goals as goal

pub returns-then-not-may_stop_inside : goal.returns-then-not-may_stop_inside
returns-then-not-may_stop_inside c =
    let passed : may_stop_inside c.args.reach (has_key c.args.expanded.now) c.args.file ≡ false = cc in
    sym (no-last-stop c.args.reach (has_key c.args.expanded.now) c.args.file 0 (take c.args.upto c.args.sections.now) passed)

pub returns-then-is_some : goal.returns-then-is_some
returns-then-is_some c =
    let end = c.min-end.result in
    let step = c.loop-step.step in
    let i = end - 1 - step in
    let below : step < end = c.loop-step-test.true in
    let next : i + 1 ≡ end - step = omega (arith, below) in
    let within : i < length c.args.sections.now = omega (arith, below, c.min-end.ensures) in
    let item = c.index-sections-index.result in
    let at = item-at c.args.sections.now i item within c.index-sections-index.is in
    let found : is_some (find_last (is_stop c.args.reach (has_key c.args.expanded.now)) (section_keys c.args.file i item)) ≡ true = cc in
    c.last_of_section-found.ensures ∙ section-last-found (is_stop c.args.reach (has_key c.args.expanded.now)) c.args.file i c.args.sections.now item at found ∙ ap (λ n. find_last (is_stop c.args.reach (has_key c.args.expanded.now)) (sections_keys c.args.file 0 (take n c.args.sections.now))) next ∙ c.loop-step.invariant

pub loop-step-preserved : goal.loop-step-preserved
loop-step-preserved c =
    let end = c.min-end.result in
    let step = c.loop-step.step in
    let i = end - 1 - step in
    let below : step < end = c.loop-step-test.true in
    let next : i + 1 ≡ end - step = omega (arith, below) in
    let within : i < length c.args.sections.now = omega (arith, below, c.min-end.ensures) in
    let item = c.index-sections-index.result in
    let at = item-at c.args.sections.now i item within c.index-sections-index.is in
    let missed : is_some (find_last (is_stop c.args.reach (has_key c.args.expanded.now)) (section_keys c.args.file i item)) ≡ false = cc in
    let rest : end - (step + 1) ≡ i = omega arith in
    ap (λ n. find_last (is_stop c.args.reach (has_key c.args.expanded.now)) (sections_keys c.args.file 0 (take n c.args.sections.now))) rest ∙ section-last-missed (is_stop c.args.reach (has_key c.args.expanded.now)) c.args.file i c.args.sections.now item at missed ∙ ap (λ n. find_last (is_stop c.args.reach (has_key c.args.expanded.now)) (sections_keys c.args.file 0 (take n c.args.sections.now))) next ∙ c.loop-step.invariant
