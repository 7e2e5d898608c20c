-- Why nothing is decided.
use Rattle.std.proofs.Common.{◌≡◌, ℕ, ◌+◌, List, get_or, true, sym, ◌∙◌, ap, inl, inr}
use Rattle.std.proofs.lemmas.Bool.{cases_order, false≢true}
use Rattle.scm_tree.specs.declared.row.Row.{Row}
use Rattle.scm_tree.specs.Paths.{is_before}
use Rattle.scm_tree.specs.Rows.{AreInOrder, AreRows}
use Rattle.scm_tree.proofs.PathLemmas.{before_self}
use Rattle.scm_tree.specs.declared.place.Entry.{Entry}
use Rattle.scm_tree.specs.declared.place.Mark.{Mark}
use Rattle.scm_tree.specs.declared.decision.Moved.{Moved}
use Rattle.scm_tree.specs.declared.decision.DecideError.{DecideError}
use Rattle.scm_tree.specs.declared.decision.DecideError.TheVariants.{Twice, Unknown, Path, Rows, Rename, File, OutOfMemory}
use Rattle.scm_tree.specs.declared.rows.GatherError.{GatherError}
use Rattle.scm_tree.specs.declared.rows.GatherError.TheVariants as gather
use Rattle.scm_tree.specs.GatherFaults.{IsGatherFault}
use Rattle.scm_tree.specs.Merge.{AreMerged}
use Rattle.scm_tree.specs.Find.{HasNoRow, IsRowFor}
use Rattle.scm_tree.specs.Renames.{IsBadRename, is_one_of, IsRename}
use Rattle.scm_tree.specs.Decisions.{IsMoved}
use Rattle.scm_tree.specs.DecideFaults.{IsDecideFault, IsMarkReason, IsMovedReason, IsPathReason, IsTreesReason, PathsFit, decide_error}
use Rattle.scm_tree.proofs.HoldsLemmas.{some_of}

pub gather_reason : (count : ℕ) (old new : List Entry) (marks : List Mark) (moved : List Moved) (error : GatherError) → IsGatherFault old new marks error → IsDecideFault count old new marks moved (decide_error error)
gather_reason count old new marks moved (gather.Twice p) f = f
gather_reason count old new marks moved (gather.Unknown p) f = f
gather_reason count old new marks moved gather.OutOfMemory f = tt

pub mark_reason : (count : ℕ) (old new : List Entry) (marks : List Mark) (moved : List Moved) (error : DecideError) → IsMarkReason count marks error → IsDecideFault count old new marks moved error
mark_reason count old new marks moved (Twice p) f = absurd f
mark_reason count old new marks moved (Unknown p) f = absurd f
mark_reason count old new marks moved (Path p fault) f = absurd f
mark_reason count old new marks moved (Rows fault) f = absurd f
mark_reason count old new marks moved (Rename i) f = absurd f
mark_reason count old new marks moved (File i) f = f
mark_reason count old new marks moved OutOfMemory f = absurd f

pub path_reason : (count : ℕ) (old new : List Entry) (marks : List Mark) (moved : List Moved) (rows : List Row) (error : DecideError) → AreMerged count old new marks rows → IsPathReason count rows error → IsDecideFault count old new marks moved error
path_reason count old new marks moved rows (Twice p) s f = absurd f
path_reason count old new marks moved rows (Unknown p) s f = absurd f
path_reason count old new marks moved rows (Path p fault) s f = (rows, (s, f))
path_reason count old new marks moved rows (Rows fault) s f = absurd f
path_reason count old new marks moved rows (Rename i) s f = absurd f
path_reason count old new marks moved rows (File i) s f = absurd f
path_reason count old new marks moved rows OutOfMemory s f = absurd f

pub trees_reason : (count : ℕ) (old new : List Entry) (marks : List Mark) (moved : List Moved) (rows : List Row) (error : DecideError) → AreMerged count old new marks rows → PathsFit count rows → IsTreesReason (count + 1) rows error → IsDecideFault count old new marks moved error
trees_reason count old new marks moved rows (Twice p) s t f = absurd f
trees_reason count old new marks moved rows (Unknown p) s t f = absurd f
trees_reason count old new marks moved rows (Path p fault) s t f = absurd f
trees_reason count old new marks moved rows (Rows fault) s t f = (rows, (s, (t, f)))
trees_reason count old new marks moved rows (Rename i) s t f = absurd f
trees_reason count old new marks moved rows (File i) s t f = absurd f
trees_reason count old new marks moved rows OutOfMemory s t f = absurd f

pub moved_reason : (count : ℕ) (old new : List Entry) (marks : List Mark) (moved : List Moved) (rows : List Row) (error : DecideError) → AreMerged count old new marks rows → PathsFit count rows → AreRows (count + 1) rows → IsMovedReason rows moved error → IsDecideFault count old new marks moved error
moved_reason count old new marks moved rows (Twice p) s t u f = absurd f
moved_reason count old new marks moved rows (Unknown p) s t u f = absurd f
moved_reason count old new marks moved rows (Path p fault) s t u f = absurd f
moved_reason count old new marks moved rows (Rows fault) s t u f = absurd f
moved_reason count old new marks moved rows (Rename i) s t u f = (rows, (s, (t, (u, f))))
moved_reason count old new marks moved rows (File i) s t u f = absurd f
moved_reason count old new marks moved rows OutOfMemory s t u f = absurd f

-- ---- a renamed file whose paths are not those of rows that are a rename

apart : (p q : List ℕ) → p ≡ q → is_before p q ≡ true → ⊥
apart p q e b = false≢true (sym (before_self q) ∙ ap (λ (x : List ℕ). is_before x q) (sym e) ∙ b)

one_row : (rows : List Row) (p : List ℕ) (i j : ℕ) → AreInOrder rows → IsRowFor rows p i → IsRowFor rows p j → i ≡ j
one_row rows p i j o s t =
    let d : Row = some_of rows i s.within in
    elim (cases_order i j) [
      | inl m ↦ m
      | inr (inl m) ↦ absurd (apart (get_or rows i d).path.now (get_or rows j d).path.now (s.path_is d ∙ sym (t.path_is d)) (o i j d m t.within))
      | inr (inr m) ↦ absurd (apart (get_or rows j d).path.now (get_or rows i d).path.now (t.path_is d ∙ sym (s.path_is d)) (o j i d m s.within))
    ]

pub no_old_row : (rows : List Row) (m : Moved) → HasNoRow rows m.old.now → IsMoved rows m → ⊥
no_old_row rows m n s = let d : Row = some_of rows s.old s.old_is.within in n.is_none s.old d s.old_is.within (s.old_is.path_is d)

pub no_new_row : (rows : List Row) (m : Moved) → HasNoRow rows m.new.now → IsMoved rows m → ⊥
no_new_row rows m n s = let d : Row = some_of rows s.new s.new_is.within in n.is_none s.new d s.new_is.within (s.new_is.path_is d)

pub a_rename : (rows : List Row) (m : Moved) (i j : ℕ) → IsRowFor rows m.old.now i → IsRowFor rows m.new.now j → IsRename rows (record { old = i; new = j }) → IsMoved rows m
a_rename rows m i j old new is = record { old = i; new = j; old_is = old; new_is = new; is_rename = is }

pub no_rename : (rows : List Row) (m : Moved) (i j : ℕ) → AreInOrder rows → IsRowFor rows m.old.now i → IsRowFor rows m.new.now j → IsBadRename rows (record { old = i; new = j }) → IsMoved rows m → ⊥
no_rename rows m i j o old new bad s =
    let d : Row = some_of rows i old.within in
    let e : s.old ≡ i = one_row rows m.old.now s.old i o s.old_is old in
    let f : s.new ≡ j = one_row rows m.new.now s.new j o s.new_is new in
    false≢true
    (sym (bad.is_none old.within new.within d)
    ∙ ap (λ (n : ℕ). is_one_of (get_or rows n d) (get_or rows j d)) (sym e)
    ∙ ap (λ (n : ℕ). is_one_of (get_or rows s.old d) (get_or rows n d)) (sym f)
    ∙ s.is_rename.is_one d)
