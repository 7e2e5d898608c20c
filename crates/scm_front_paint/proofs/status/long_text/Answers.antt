use Rattle.std.proofs.Common.{◌≡◌, ◌++◌, ◌∙◌, ap₂, List, ℕ, string_bytes}
use Rattle.std.specs.Prelude.{codes}
use Rattle.scm_front_paint.specs.Status.{fit_or}
use Rattle.scm_front_paint.proofs.status.long_text.Goals as goal

pub returns-clause-ok : goal.returns-clause-ok
returns-clause-ok c =
    let few : string_bytes c.in_ok-few.few ≡ string_bytes c.args.counts ++ (codes "  " ++ c.args.accept.now) = c.in_ok-few.ensures.ok in
    let all : string_bytes c.in_ok-all.all ≡ string_bytes c.args.counts ++ (codes "  /: search  ?: help  " ++ c.args.accept.now) = c.in_ok-all.ensures.ok in
    let fit = λ (text other : List ℕ). fit_or c.args.room text other in
    c.fit_or.ensures ∙ ap₂ fit all (c.fit_or-less.ensures ∙ ap₂ fit few c.in_ok-short.ensures.ok)
