use Rattle.std.proofs.Common.{◌≡◌, ◌∙◌, Bool, true, false, not, refl, sym}
use Rattle.std.specs.Bool.{beq}
use Rattle.scm_types.specs.Keys.{has_key}
use Rattle.scm_layout.proofs.LayoutLemmas.{ready-key, top-fits, unchanged}
use Rattle.scm_layout.proofs.state_layout.Layout.refold_key.Goals as goal

other : (a b : Bool) → not (beq a b) ≡ true → a ≡ not b
other true false h = refl
other false true h = refl
other _ _ h = absurd cc

same : (a b : Bool) → not (beq a b) ≡ false → a ≡ b
same true false h = absurd cc
same false true h = absurd cc
same _ _ h = refl

pub refold_key-requires-clause-top : goal.refold_key-requires-clause-top
refold_key-requires-clause-top c = rw c.files_top-top.ensures (top-fits _)

pub refold_key-requires-clause-rows : goal.refold_key-requires-clause-rows
refold_key-requires-clause-rows c =
    let new : has_key c.args.expanded.now c.args.key ≡ not c.args.was_unfolded = sym c.contains.ensures ∙ other c.contains.result c.args.was_unfolded c.if-contains-was_unfolded.true in
    rw c.as_slice-files.ensures (ready-key c.args.self.now c.args.state.now c.args.expanded.now c.args.key c.args.was_unfolded c.requires.layout new c.requires.size)

pub returns-else-contains-was_unfolded : goal.returns-else-contains-was_unfolded
returns-else-contains-was_unfolded c =
    unchanged c.args.self.now c.args.state.now c.args.expanded.now c.args.key c.args.was_unfolded c.requires.layout (sym c.contains.ensures ∙ same c.contains.result c.args.was_unfolded c.if-contains-was_unfolded.false)
