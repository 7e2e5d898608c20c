use Rattle.std.proofs.Common.{◌≡◌, Bool, false, true, List, ap, refl, ◌∙◌}
use Rattle.std.specs.Prelude.{OnErr, OnOk}
use Rattle.std.specs.declared.result.Result.{Result}
use Rattle.std.specs.declared.result.Result.TheVariants.{Ok, Err}
use Rattle.scm_types.specs.declared.keys.SelectionKey.{SelectionKey}
use Rattle.scm_layout.proofs.FoldLemmas.{other-added}
use Rattle.scm_layout_index.specs.FrameRows.{FitRows}
use Rattle.scm_layout_index.proofs.FrameRowLemmas.{noted-fits}
use Rattle.scm_selection.specs.KeySet.{has_key, is_key, with_key}
use Rattle.scm_record.proofs.session.unfold.Goals as goal

-- the other keys of a set after one was added, or after that failed
added-others : {T E : Type 0} (r : Result T E) (old new : List SelectionKey) (key : SelectionKey) → OnOk r (new ≡ with_key old key) → OnErr r (new ≡ old)
    → (x : SelectionKey) → is_key x key ≡ false → has_key new x ≡ has_key old x
added-others (Ok t) old new key ok err x other = ap (λ (ks : List SelectionKey). has_key ks x) ok ∙ other-added old key x other
added-others (Err e) old new key ok err x other = ap (λ (ks : List SelectionKey). has_key ks x) err

pub returns-clause-copy : goal.returns-clause-copy
returns-clause-copy c = go (has_key c.args.expanded.now c.args.key) refl
  where
    go : (b : Bool) → has_key c.args.expanded.now c.args.key ≡ b → FitRows c.note_unfold.new.copy c.unfold.new.self.rows
    go true h = rw (c.note_unfold.ensures.kept h, c.unfold.ensures.kept h) c.requires.copy
    go false h =
        rw (c.note_unfold.ensures.added h)
        (noted-fits c.unfold.new.expanded c.args.expanded.now c.args.key
        (λ x other. added-others c.unfold.result c.args.expanded.now c.unfold.new.expanded c.args.key c.unfold.ensures.set c.unfold.ensures.unchanged x other)
        c.args.copy.now c.args.state.now c.args.layout.now c.unfold.new.self c.requires.layout c.unfold.ensures.layout c.requires.copy)
