use Rattle.std.proofs.Common.{◌≡◌, ◌-◌, vec_len}
use Rattle.scm_record.specs.Session.{padded_commits}
use Rattle.scm_record.proofs.session.pad.Given as goal

-- what is still to be added doesn't change
abbrev pub invariant-loop-commits : goal.invariant-loop-commits
invariant-loop-commits l = padded_commits l.commits.items ≡ padded_commits l.initial.commits.items

abbrev pub decreases-loop-commits : goal.decreases-loop-commits
decreases-loop-commits l = 2 - vec_len l.commits
