use Rattle.std.proofs.Common.{◌≡◌, drop}
use Rattle.scm_front.specs.Actions.{last_action}
use Rattle.scm_front.proofs.actions.last_action.Given as goal

-- the keys that are left lead to the same
abbrev pub invariant-loop-key : goal.invariant-loop-key
invariant-loop-key l = last_action (drop l.key-index l.keys) l.modifiers l.code l.action ≡ last_action l.keys l.modifiers l.code l.fn.otherwise
