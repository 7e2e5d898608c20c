use Rattle.std.proofs.Common.{ℕ, ◌++◌, [], ◌∷◌, List, ap, ◌∙◌}
use Rattle.std.proofs.lemmas.List.{append_assoc}
use Rattle.scm_merge.specs.Markers.{marker, version_lines}
use Rattle.scm_merge.specs.Style.{texts_of}
use Rattle.scm_merge.proofs.markers.push_opened.Goals as goal

pub returns : goal.returns
returns c =
    let m = marker c.args.style c.args.sign.now c.args.label.now in
    let more = version_lines c.args.style.is_crlf (texts_of c.args.section.now) in
    c.in_ok-push_section_lines.ensures
    ∙ ap (λ (ys : List (List ℕ)). ys ++ more) c.in_ok-push_marker.ensures
    ∙ append_assoc c.args.lines.now.items (m ∷ []) more
