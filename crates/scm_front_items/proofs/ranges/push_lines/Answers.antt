use Rattle.std.proofs.Common.{◌≡◌, ◌++◌, [], ◌∷◌, ◌∙◌, subst}
use Rattle.std.specs.Prelude.{if◌then◌else◌}
use Rattle.scm_types.specs.declared.keys.SelectionKey.{SelectionKey}
use Rattle.scm_front_items.specs.Ranges.{is_between}
use Rattle.scm_front_items.proofs.PushLemmas.{range-more}
use Rattle.scm_front_items.proofs.ranges.push_lines.Goals as goal

pub loop-line-preserved : goal.loop-line-preserved
loop-line-preserved c =
    let keys = c.loop-line.keys.items in
    let now = c.push_if_between.new.keys.items in
    let pushed : now ≡ keys ++ (if is_between c.args.a c.args.b c.line_key.result then c.line_key.result ∷ [] else []) = c.in_ok-push_if_between.ensures in
    range-more c.args.a c.args.b keys now c.args.file c.args.section c.loop-line.line c.args.lines.now c.loop-line-test.true
    (subst (λ (k : SelectionKey). now ≡ keys ++ (if is_between c.args.a c.args.b k then k ∷ [] else [])) c.line_key.ensures pushed)
    ∙ c.loop-line.invariant
