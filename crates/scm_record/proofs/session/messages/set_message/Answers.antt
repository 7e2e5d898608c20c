use Rattle.std.proofs.Common.{Some, ap, sym}
use Rattle.std.specs.Prelude.{ℕ, List, string_bytes}
use Rattle.scm_types.specs.declared.state.Commit.{Commit}
use Rattle.scm_types.proofs.EditLemmas.{slice_set-changed, modify-past}
use Rattle.scm_record.specs.Session.{commit_with_message}
use Rattle.scm_record.proofs.session.messages.set_message.Goals as goal

-- a commit with a message
abbrev said : List ℕ → Commit
said text = record { message = Some text }

pub returns-then-index-commits : goal.returns-then-index-commits
returns-then-index-commits c =
    slice_set-changed (commit_with_message (string_bytes c.args.text)) c.args.commits.now c.args.index c.index-commits-index.result _ c.if-index-commits.true (ap said c.from.ensures)

pub returns-else-index-commits : goal.returns-else-index-commits
returns-else-index-commits c = sym (modify-past (commit_with_message (string_bytes c.args.text)) c.args.commits.now c.args.index c.if-index-commits.false)
