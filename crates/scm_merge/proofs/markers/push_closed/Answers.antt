use Rattle.std.proofs.Common.{ℕ, ◌++◌, [], ◌∷◌, List, ap, ◌∙◌}
use Rattle.std.proofs.lemmas.List.{append_assoc}
use Rattle.scm_merge.specs.Markers.{marker, opened}
use Rattle.scm_merge.specs.Style.{texts_of}
use Rattle.scm_merge.proofs.markers.push_closed.Goals as goal

pub returns : goal.returns
returns c =
    let m = marker c.args.style (62 ∷ []) c.args.label.now in
    let before = opened c.args.style (61 ∷ []) [] (texts_of c.args.section.now) in
    c.in_ok-push_marker.ensures
    ∙ ap (λ (ys : List (List ℕ)). ys ++ m ∷ []) c.in_ok-push_opened.ensures
    ∙ append_assoc c.args.lines.now.items before (m ∷ [])
