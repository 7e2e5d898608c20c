use Rattle.std.proofs.Common.{◌≡◌, length}
use Rattle.scm_selection.specs.KeySet.{has_key}
use Rattle.scm_selection.specs.KeyLists.{visible_keys}
use Rattle.scm_selection.specs.Moves.{keys_behind}
use Rattle.scm_record.specs.Frames.{IsSceneOf, Scene}
use Rattle.scm_record.specs.Pages.{is_page_away, towards, walk_end}
use Rattle.scm_record.proofs.pages.walk.Given as goal

-- walking on from the key leads where the whole walk leads
abbrev pub invariant-steps : goal.invariant-steps
invariant-steps l =
    (scene : Scene) → IsSceneOf scene l.frame
    → walk_end (is_page_away scene l.way l.row) l.key (keys_behind (towards l.way (visible_keys (has_key l.expanded) l.files)) l.key)
    ≡ walk_end (is_page_away scene l.way l.row) l.fn.from (keys_behind (towards l.way (visible_keys (has_key l.expanded) l.files)) l.fn.from)

-- the keys that are left
abbrev pub decreases-steps : goal.decreases-steps
decreases-steps l = length (keys_behind (towards l.way (visible_keys (has_key l.expanded) l.files)) l.key)
