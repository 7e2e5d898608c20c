use Rattle.std.proofs.Common.{rules}
use Rattle.std.proofs.lemmas.List.Sorted.{answers_always}
use Rattle.std.proofs.lemmas.Result.{MatchResult-weaker}
use Rattle.scm_tree.specs.Paths.{is_before}
use Rattle.scm_tree.specs.declared.place.Place.{Place}
use Rattle.scm_tree.proofs.PlaceLemmas.{place_order, sorted_by}
use Rattle.scm_tree.proofs.order.sort_places.Goals as goal

pub returns-clause-sorted : goal.returns-clause-sorted
returns-clause-sorted c =
    MatchResult-weaker c.sort_by.result c.sort_by.ensures.sorted
    (λ done sorted. sorted_by _ (sorted (λ (x y : Place). is_before x.path.now y.path.now) place_order (answers_always _ _ _ (λ f a r g h. search rules))))
    (λ error fault. tt)
