use Rattle.std.proofs.Common.{◌≡◌, ◌≤◌, ◌++◌, drop}
use Rattle.scm_merge.specs.Roles.{roles_from, roles_of}
use Rattle.scm_merge.proofs.roles.roles_of.Given as goal

abbrev pub invariant-loop-section : goal.invariant-loop-section
invariant-loop-section l = record {
  roles : l.roles.items ++ roles_from l.begun.seen l.begun.is_taken (drop l.section-index l.sections) ≡ roles_of l.sections;
  seen_small : l.begun.seen ≤ 2;
}
