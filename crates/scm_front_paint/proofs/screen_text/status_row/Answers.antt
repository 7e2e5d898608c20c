use Rattle.std.proofs.Common.{◌∙◌, ap, refl, subst, arith}
use Rattle.std.specs.Prelude.{string_bytes}
use Rattle.std.proofs.lemmas.Result.{IfOk-weaker}
use Rattle.scm_front.specs.declared.layer.Front.{Front}
use Rattle.scm_front_paint.specs.Status.{ShowsLeft, left_of, right_of}
use Rattle.scm_front_paint.proofs.StatusEndLemmas.{right-same, screen-same}
use Rattle.scm_front_paint.proofs.StatusRowLemmas.{status-row-is}
use Rattle.scm_front_paint.proofs.screen_text.status_row.Goals as goal

pub returns-clause-ok : goal.returns-clause-ok
returns-clause-ok c =
    let w = c.width_of-width.result in
    let whole = left_of c.args.view.now.front in
    let shown : ShowsLeft w c.in_ok-left.left whole =
    subst (λ (f : Front). ShowsLeft w c.in_ok-left.left (left_of f)) c.front.ensures c.in_ok-left.ensures.ok in
    IfOk-weaker c.status_grid.result _ _ (λ grid e.
    status-row-is c.args.view.now c.args.accept.now c.args.view.now.front c.args.view.now.front w c.offset-x.result whole (string_bytes c.in_ok-right.right)
    c.as_str.result.now grid refl refl c.width_of-width.ensures c.offset-x.ensures refl
    (c.in_ok-right.ensures.ok ∙ ap (λ (f : Front). right_of f w c.in_ok-left.left c.offset-x.result c.args.accept.now) c.front-2.ensures
    ∙ right-same w c.in_ok-left.left whole c.args.view.now.front w c.offset-x.result c.args.accept.now shown)
    c.as_str.ensures.value (e ∙ screen-same w w 0 c.in_ok-left.left whole c.as_str.result.now (omega arith) shown))
    c.status_grid.ensures.ok
