use Rattle.std.proofs.Common.{ℕ, ◌+◌, length, ap, ◌∙◌}
use Rattle.std.proofs.lemmas.List.{length_push}
use Rattle.scm_front_paint.specs.Headers.{label_on}
use Rattle.scm_front_paint.proofs.HeaderLemmas.{more-labels}
use Rattle.scm_front_paint.proofs.headers.label_rows.Goals as goal

pub loop-row-preserved : goal.loop-row-preserved
loop-row-preserved c =
    let new = c.in_ok-push.ensures.items in
    let row = c.loop-row.row in
    record {
      many = ap length new ∙ length_push c.loop-row.rows.items c.in_ok-label_on.field-0 ∙ ap (λ (n : ℕ). n + 1) c.loop-row.invariant.many;
      on = more-labels (λ (k : ℕ). label_on c.args.labels.now c.args.session.now k) c.loop-row.rows.items c.push.new.self.items c.in_ok-label_on.field-0 row new
          c.loop-row.invariant.many c.loop-row.invariant.on c.in_ok-label_on.ensures.ok;
    }
