use Rattle.std.proofs.Common.{◌<◌, arith, ap, length, refl, unwrap_or}
use Rattle.std.proofs.lemmas.Bool.Decides.{nat_tests}
use Rattle.scm_cells.proofs.BeginningLemmas.{HasClusters-more, rest-le, IsCharBoundary-read, IsBeginning-read}
use Rattle.scm_cells.proofs.beginnings.first_clusters.Goals as goal

pub pieces-preserved : goal.pieces-preserved
pieces-preserved c =
    let own = ap (λ o. unwrap_or o 0) c.visible_width.ensures.value in
    HasClusters-more _ c.in_ok-piece.piece.now _ _ _ _ c.pieces.invariant c.in_ok-piece.ensures.steps (omega (arith, c.saturating_add-width.ensures, c.unwrap_or.ensures, own))

pub overflow_sub-text : goal.overflow_sub-text
overflow_sub-text c = rest-le _ _ _ _ c.pieces.invariant c.utf8.text c.as_str-rest.ensures

pub split_at-requires : goal.split_at-requires
split_at-requires c = IsCharBoundary-read _ _ _ _ _ c.pieces.invariant c.utf8.text c.as_str-rest.utf8 c.as_str-rest.ensures refl

pub returns : goal.returns
returns c =
    let some : 0 < length c.as_str-rest.result.now = grind (arith, nat_tests) in
    IsBeginning-read c.args.columns _ _ _ _ _ c.utf8.text c.as_str-rest.utf8 c.pieces.invariant (omega arith) c.as_str-rest.ensures some c.split_at.ensures.front
