use Rattle.std.proofs.Common.{◌∙◌, ap, sym, append-nil}
use Rattle.std.specs.Prelude.{◌++◌, is_some}
use Rattle.scm_types.specs.declared.state.Commit.{Commit}
use Rattle.scm_document.specs.HeaderRects.{message_rects}
use Rattle.scm_rows.specs.Heights.{message_height}
use Rattle.scm_layout_index.proofs.AnswerLemmas.{commit-is, commit-lacks}
use Rattle.scm_layout_index.proofs.layout_index.push_message.Goals as goal

pub returns-in-None-clause-rows : goal.returns-in-None-clause-rows
returns-in-None-clause-rows c = ap (λ (x : Commit). message_height x.message) (sym (commit-lacks c.args.commits.now c.in-None.ensures))

pub returns-in-None-clause-ok : goal.returns-in-None-clause-ok
returns-in-None-clause-ok c =
    sym (append-nil c.args.rects.now.items)
    ∙ ap (λ (x : Commit). c.args.rects.now.items ++ message_rects 0 (is_some x.message)) (sym (commit-lacks c.args.commits.now c.in-None.ensures))

pub returns-in_ok-push_rects-in-Some-clause-rows : goal.returns-in_ok-push_rects-in-Some-clause-rows
returns-in_ok-push_rects-in-Some-clause-rows c =
    c.height.ensures ∙ ap (λ (x : Commit). message_height x.message) (sym (commit-is c.args.commits.now c.in-Some.commit.now c.in-Some.ensures))

pub returns-in_ok-push_rects-in-Some-clause-ok : goal.returns-in_ok-push_rects-in-Some-clause-ok
returns-in_ok-push_rects-in-Some-clause-ok c =
    c.in_ok-push_rects-in-Some.ensures.ok
    ∙ ap (λ (x : Commit). c.args.rects.now.items ++ message_rects 0 (is_some x.message)) (sym (commit-is c.args.commits.now c.in-Some.commit.now c.in-Some.ensures))
