use Rattle.std.proofs.Common.{arith, ◌∙◌, sym, ap, cond, Some, ◌∷◌, [], length-append}
use Rattle.std.proofs.lemmas.List.Sums.{fold-append}
use Rattle.std.specs.HashMap.{get}
use Rattle.std.specs.Map.{update}
use Rattle.scm_render.specs.declared.trace.DrawnRect.{DrawnRect}
use Rattle.scm_render.proofs.trace.DrawTrace.merge.Goals as goal

pub loop-id-preserved : goal.loop-id-preserved
loop-id-preserved g c =
    let eq = g.Id.PartialEq.eq in
    let one : g.row.Id.Denot × DrawnRect = (c.in-Some.id, c.in-Some.drawn) in
    record {
      rect = c.loop-id.invariant.rect;
      room = omega (arith, length-append c.loop-id.yielded (one ∷ []), c.insert.ensures.spare, c.loop-id.invariant.room);
      unique = c.insert.ensures.unique;
      boxes = λ q.
          c.in-Ok.ensures.updates.0 q
          ∙ ap (λ v. cond (eq c.in-Some.id q) (Some c.in-Some.drawn) v) (c.loop-id.invariant.boxes q)
          ∙ sym (ap (λ f. f q) (fold-append (λ h p. update eq h p.0 (Some p.1)) (get eq c.args.self.now.components) c.loop-id.yielded (one ∷ [])));
    }
