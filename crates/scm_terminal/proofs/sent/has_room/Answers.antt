use Rattle.std.proofs.Common.{arith}
use Rattle.std.proofs.lemmas.Bool.Decides.{nat_tests}
use Rattle.std.proofs.lemmas.Str.{IsUtf8-past_char}
use Rattle.scm_terminal.proofs.SentLemmas.{added-empty, added-step}
use Rattle.scm_terminal.proofs.sent.has_room.Goals as goal

pub returns-then-columns-left : goal.returns-then-columns-left
returns-then-columns-left c =
    let held = c.loop-character.invariant in
    let step = added-step _ _ c.in-Some.character held.0 c.in-Some.ensures.steps.0 in
    let sum = held.1 in
    let own = c.char_columns-columns.ensures.value in
    grind (arith, nat_tests)

pub loop-character-preserved : goal.loop-character-preserved
loop-character-preserved c =
    let held = c.loop-character.invariant in
    let parts = c.in-Some.ensures.steps.0 in
    let step = added-step _ _ c.in-Some.character held.0 parts in
    let sum = held.1 in
    let own = c.char_columns-columns.ensures.value in
    (IsUtf8-past_char _ _ c.in-Some.character held.0 parts, omega (arith, step, sum, own))

pub returns : goal.returns
returns c =
    let held = c.loop-character.invariant in
    let none = added-empty _ c.in-None.ensures.steps.0.0 in
    let sum = held.1 in
    grind (arith, nat_tests)
