use Rattle.std.proofs.Common.{ℕ, ◌++◌, [], ◌∷◌, List, ap, sym, take, ◌∙◌}
use Rattle.std.proofs.lemmas.List.{append_assoc, take_all, take_more}
use Rattle.scm_merge.specs.Markers.{version_lines}
use Rattle.scm_merge.proofs.MarkingLemmas.{version-append}
use Rattle.scm_merge.proofs.markers.push_version.Goals as goal

pub loop-text-preserved : goal.loop-text-preserved
loop-text-preserved c =
    let xs = c.args.texts.now in
    let k = c.loop-text.text-index in
    let x = c.text-item.result in
    let old = c.args.lines.now.items in
    let crlf = c.args.is_crlf in
    c.in_ok-push_version_line.ensures
    ∙ ap (λ (ys : List (List ℕ)). ys ++ version_lines crlf (x ∷ [])) c.loop-text.invariant
    ∙ append_assoc old (version_lines crlf (take k xs)) (version_lines crlf (x ∷ []))
    ∙ ap (λ (ys : List (List ℕ)). old ++ ys)
    (sym (version-append crlf (take k xs) (x ∷ [])) ∙ ap (version_lines crlf) (ap (λ (y : List ℕ). take k xs ++ y ∷ []) c.text-item.is ∙ sym (take_more xs k x c.loop-text-test.true)))

pub returns : goal.returns
returns c =
    c.loop-text.invariant
    ∙ ap (λ (ys : List (List ℕ)). c.args.lines.now.items ++ version_lines c.args.is_crlf ys) (take_all c.loop-text.text-index c.args.texts.now c.loop-text-test.false)
