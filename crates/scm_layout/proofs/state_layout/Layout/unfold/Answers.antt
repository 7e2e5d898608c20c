use Rattle.std.proofs.Common.{◌≡◌, ◌∙◌, false, true}
use Rattle.scm_types.specs.Keys.{has_key}
use Rattle.scm_layout.proofs.LayoutLemmas.{added-again, added-but}
use Rattle.scm_layout.proofs.state_layout.Layout.unfold.Goals as goal
use Rattle.scm_layout.proofs.state_layout.Layout.unfold.Goals.{then-was_folded, else-was_folded}

pub refold_key-requires-clause-layout : goal.refold_key-requires-clause-layout
refold_key-requires-clause-layout c =
    let lacked : false ≡ has_key c.args.expanded.now c.args.key = cc in
    added-but c.args.self.now c.args.state.now c.args.expanded.now c.insert.new.self c.args.key false c.requires.layout lacked c.in_ok-insert.ensures.ok

pub returns-clause-layout : goal.returns-clause-layout
returns-clause-layout c =
    elim c.if-was_folded.branch [
      | then-was_folded w ↦ w.self-is ∙ w.refold_key.ensures
      | else-was_folded w ↦
          let has : has_key c.args.expanded.now c.args.key ≡ true = cc in
          w.self-is ∙ added-again c.args.self.now c.args.state.now c.args.expanded.now c.insert.new.self c.args.key c.requires.layout c.in_ok-insert.ensures.ok has
    ]
