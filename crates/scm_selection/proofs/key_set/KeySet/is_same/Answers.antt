use Rattle.std.proofs.Common.{◌≡◌, ◌∙◌, ◌&&◌, ◌++◌, true, false, List, ap, subst, sym}
use Rattle.scm_types.specs.declared.keys.SelectionKey.{SelectionKey}
use Rattle.scm_selection.specs.declared.key_flags.FileFlags.{FileFlags}
use Rattle.scm_selection.specs.KeySet.{key_set}
use Rattle.scm_selection.specs.KeyFlags.{flagged_keys, has_each}
use Rattle.scm_selection.proofs.KeyFlagLemmas.{each-set, same-each}
use Rattle.scm_selection.proofs.KeyOrderLemmas.{Ascends, set-ascends}
use Rattle.scm_selection.proofs.key_set.KeySet.is_same.Goals as goal

-- the set of a list ascends
of-set : (ks set : List SelectionKey) → key_set ks ≡ set → Ascends set
of-set ks set is = subst Ascends is (set-ascends ks)

-- a set has each key of a list if it has each of the list's set
of-list : (other : List SelectionKey) (os : List SelectionKey) (fs gs : List FileFlags) (set : List SelectionKey) → fs ≡ gs → key_set (os ++ flagged_keys 0 gs) ≡ set → has_each other (os ++ flagged_keys 0 fs) ≡ has_each other set
of-list other os fs gs set lent is =
    ap (λ (hs : List FileFlags). has_each other (os ++ flagged_keys 0 hs)) lent ∙ sym (each-set other (os ++ flagged_keys 0 gs)) ∙ ap (has_each other) is

pub returns-then-has_each_key : goal.returns-then-has_each_key
returns-then-has_each_key c =
    let a = c.self.inside in
    let b = c.other.inside in
    let own = c.args.self.now in
    let their = c.args.other.now in
    let first : has_each their own ≡ true =
    sym (of-list their a.others.keys c.as_slice-own.result.now a.flags own c.as_slice-own.ensures c.self.view_is) ∙ sym c.has_each_key.ensures ∙ c.if-has_each_key.true in
    let second : c.has_each_key-then-has_each_key.result ≡ has_each own their =
    c.has_each_key-then-has_each_key.ensures ∙ of-list own b.others.keys c.as_slice-theirs.result.now b.flags their c.as_slice-theirs.ensures c.other.view_is in
    second ∙ ap (λ x. x && has_each own their) (sym first)
    ∙ same-each own their (of-set (a.others.keys ++ flagged_keys 0 a.flags) own c.self.view_is) (of-set (b.others.keys ++ flagged_keys 0 b.flags) their c.other.view_is)

pub returns-else-has_each_key : goal.returns-else-has_each_key
returns-else-has_each_key c =
    let a = c.self.inside in
    let b = c.other.inside in
    let own = c.args.self.now in
    let their = c.args.other.now in
    let first : has_each their own ≡ false =
    sym (of-list their a.others.keys c.as_slice-own.result.now a.flags own c.as_slice-own.ensures c.self.view_is) ∙ sym c.has_each_key.ensures ∙ c.if-has_each_key.false in
    c.if-has_each_key.false ∙ ap (λ x. x && has_each own their) (sym first)
    ∙ same-each own their (of-set (a.others.keys ++ flagged_keys 0 a.flags) own c.self.view_is) (of-set (b.others.keys ++ flagged_keys 0 b.flags) their c.other.view_is)
