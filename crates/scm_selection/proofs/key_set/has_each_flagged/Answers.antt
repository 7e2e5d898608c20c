use Rattle.std.proofs.Common.{◌≡◌, ◌∙◌, ◌+◌, ◌&&◌, true, false, drop, ap, sym}
use Rattle.scm_selection.specs.KeyFlags.{flagged_in, flagged_keys, has_each}
use Rattle.scm_selection.proofs.FindLemmas.{item-at}
use Rattle.scm_selection.proofs.KeyFlagLemmas.{files-from}
use Rattle.scm_selection.proofs.key_set.has_each_flagged.Goals as goal

pub returns-then-not-has_each_in : goal.returns-then-not-has_each_in
returns-then-not-has_each_in c =
    let set = c.args.set.now in
    let flags = c.args.flags.now in
    let i = c.loop-file.file in
    let f = c.index-flags-file.result in
    let at = item-at flags i f c.loop-file-test.true c.index-flags-file.is in
    let missed : has_each set (flagged_in i f) ≡ false = cc in
    sym (ap (λ b. b && has_each set (flagged_keys (i + 1) (drop (i + 1) flags))) missed) ∙ sym (files-from set i flags f at) ∙ c.loop-file.invariant

pub loop-file-preserved : goal.loop-file-preserved
loop-file-preserved c =
    let set = c.args.set.now in
    let flags = c.args.flags.now in
    let i = c.loop-file.file in
    let f = c.index-flags-file.result in
    let at = item-at flags i f c.loop-file-test.true c.index-flags-file.is in
    let found : has_each set (flagged_in i f) ≡ true = cc in
    sym (ap (λ b. b && has_each set (flagged_keys (i + 1) (drop (i + 1) flags))) found) ∙ sym (files-from set i flags f at) ∙ c.loop-file.invariant
