use Rattle.std.proofs.Common.{◌∙◌}
use Rattle.scm_selection.specs.KeySet.{has_key}
use Rattle.scm_selection.specs.KeyLists.{is_visible, visible_keys}
use Rattle.scm_selection.proofs.WalkLemmas.{once-kept, previous-turned}
use Rattle.scm_record.proofs.pages.next_towards.Goals as goal

pub returns-in-Up : goal.returns-in-Up
returns-in-Up c =
    rw c.in-Up.is
    (c.previous_visible.ensures
    ∙ previous-turned (visible_keys (has_key c.args.expanded.now) c.args.files.now) (once-kept (is_visible (has_key c.args.expanded.now)) c.args.files.now) c.args.key c.args.key)
