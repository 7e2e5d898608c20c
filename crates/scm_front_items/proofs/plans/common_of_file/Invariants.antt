use Rattle.std.proofs.Common.{◌≡◌, Bool, List, drop, fold}
use Rattle.scm_front_items.specs.Plans.{common_of_file, common_with}
use Rattle.scm_front_items.specs.declared.plans.Common.{Common}
use Rattle.scm_front_items.proofs.plans.common_of_file.Given as goal

abbrev pub invariant-loop-section : goal.invariant-loop-section
invariant-loop-section l =
    fold (λ (c : Common) (list : List Bool). fold common_with c list) l.common (drop l.section-index l.marks) ≡ common_of_file l.marks
