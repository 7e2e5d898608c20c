use Rattle.std.proofs.Common.{◌∙◌, List, ℕ, sym, ap}
use Rattle.std.specs.Prelude.{is_some}
use Rattle.scm_tree.specs.Names.{fault_of, name_fault}
use Rattle.scm_tree.proofs.NameLemmas.{fault_last, fault_later, fault_now}
use Rattle.scm_tree.proofs.names.path_fault.Goals as goal

pub names-preserved : goal.names-preserved
names-preserved c =
    c.names.invariant
    ∙ fault_later c.names.rest.now c.in-Some.end (sym c.in-Some.ensures.is)
    (ap (λ (p : List ℕ). is_some (name_fault p)) (sym c.before-in-Some.ensures) ∙ ap is_some (sym c.name_fault-fault.ensures) ∙ sym c.is_some.ensures ∙ c.if-is_some.false)
    ∙ ap fault_of (sym c.after-rest.ensures)

pub returns-then-is_some : goal.returns-then-is_some
returns-then-is_some c =
    c.name_fault-fault.ensures ∙ ap name_fault c.before-in-Some.ensures
    ∙ sym (c.names.invariant
    ∙ fault_now c.names.rest.now c.in-Some.end (sym c.in-Some.ensures.is)
    (ap (λ (p : List ℕ). is_some (name_fault p)) (sym c.before-in-Some.ensures) ∙ ap is_some (sym c.name_fault-fault.ensures) ∙ sym c.is_some.ensures ∙ c.if-is_some.true))

pub returns : goal.returns
returns c = c.name_fault.ensures ∙ sym (c.names.invariant ∙ fault_last c.names.rest.now (sym c.in_default.ensures.is))
