use Rattle.std.proofs.Common.{◌≡◌, true, false, drop, sym, ◌∙◌}
use Rattle.std.specs.Prelude.{find, is_some}
use Rattle.scm_selection.specs.KeySet.{has_key}
use Rattle.scm_selection.specs.KeyLists.{section_keys}
use Rattle.scm_selection.specs.KeysAround.{is_stop, may_stop_inside}
use Rattle.scm_selection.proofs.FindLemmas.{item-at, no-first-stop, section-found, section-missed}
use Rattle.scm_selection.proofs.moves.first_of_sections.Goals as goal

pub returns-then-not-may_stop_inside : goal.returns-then-not-may_stop_inside
returns-then-not-may_stop_inside c =
    let passed : may_stop_inside c.args.reach (has_key c.args.expanded.now) c.args.file ≡ false = cc in
    sym (no-first-stop c.args.reach (has_key c.args.expanded.now) c.args.file c.args.from (drop c.args.from c.args.sections.now) passed)

pub returns-then-is_some : goal.returns-then-is_some
returns-then-is_some c =
    let s = c.index-sections-index.result in
    let at = item-at c.args.sections.now c.loop-index.index s c.loop-index-test.true c.index-sections-index.is in
    let found : is_some (find (is_stop c.args.reach (has_key c.args.expanded.now)) (section_keys c.args.file c.loop-index.index s)) ≡ true = cc in
    c.first_of_section-found.ensures ∙ section-found (is_stop c.args.reach (has_key c.args.expanded.now)) c.args.file c.loop-index.index c.args.sections.now s at found ∙ c.loop-index.invariant

pub loop-index-preserved : goal.loop-index-preserved
loop-index-preserved c =
    let s = c.index-sections-index.result in
    let at = item-at c.args.sections.now c.loop-index.index s c.loop-index-test.true c.index-sections-index.is in
    let missed : is_some (find (is_stop c.args.reach (has_key c.args.expanded.now)) (section_keys c.args.file c.loop-index.index s)) ≡ false = cc in
    section-missed (is_stop c.args.reach (has_key c.args.expanded.now)) c.args.file c.loop-index.index c.args.sections.now s at missed ∙ c.loop-index.invariant
