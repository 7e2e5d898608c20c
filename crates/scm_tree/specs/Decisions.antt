-- What becomes of each path.
use Rattle.std.specs.Prelude.{◌≡◌, ℕ, ◌+◌, ◌<◌, nat_lt, List, Bool, true, false, ◌||◌, Option, None, is_some, is_none, length, slice_index_or, if◌then◌else◌}
use Rattle.std.specs.List.{All}
use Rattle.scm_tree.specs.declared.names.PathFault.{PathFault}
use Rattle.scm_tree.specs.Names.{fault_of}
use Rattle.scm_tree.specs.declared.row.Version.{Version}
use Rattle.scm_tree.specs.declared.row.Row.{Row}
use Rattle.scm_tree.specs.declared.scan.Refusal.{Refusal}
use Rattle.scm_tree.specs.Rows.{AreRows, chosen}
use Rattle.scm_tree.specs.Refusals.{AreRefusals, is_refused}
use Rattle.scm_tree.specs.Laws.{IsTree, result_of}
use Rattle.scm_tree.specs.declared.place.Entry.{Entry}
use Rattle.scm_tree.specs.declared.place.Mark.{Mark}
use Rattle.scm_tree.specs.declared.decision.Moved.{Moved}
use Rattle.scm_tree.specs.declared.decision.Outcome.{Outcome}
use Rattle.scm_tree.specs.declared.decision.Decision.{Decision}
use Rattle.scm_tree.specs.Holds.{HaveSame}
use Rattle.scm_tree.specs.Places.{entry_path, entry_version}
use Rattle.scm_tree.specs.Merge.{AreMerged}
use Rattle.scm_tree.specs.Find.{IsRowFor}
use Rattle.scm_tree.specs.Renames.{IsRename, is_one}

-- whether the file of the mark is one of `count`
abbrev pub is_shown : ℕ → Mark → Bool
is_shown count m = nat_lt m.wish.file count

-- whether the path of a row may get another version: no file is there now, or it is that of one of `count` shown files
abbrev pub may_change : ℕ → Row → Bool
may_change count r = is_none r.current || nat_lt r.file count

-- what is wrong with the path of a row, if it may get another version
abbrev pub row_fault : ℕ → Row → Option PathFault
row_fault count r = if may_change count r then fault_of r.path.now else None

abbrev pub outcome_path : Outcome → List ℕ
outcome_path o = o.path.now

abbrev pub outcome_after : Outcome → Option Version
outcome_after o = o.after

-- The outcome is that of row `i`.
pub record IsOutcome (rows : List Row) (refused : List (Option Refusal)) (i : ℕ) (o : Outcome) : Type 0 where
  pub path : (d : Row) → o.path.now ≡ (slice_index_or rows i d).path.now
  pub before : (d : Row) → o.before ≡ (slice_index_or rows i d).current
  pub after : (d : Row) → o.after ≡ chosen (is_refused refused) (slice_index_or rows i d)

-- The outcomes are those of the first `i` rows.
pub record AreOutcomes (rows : List Row) (refused : List (Option Refusal)) (i : ℕ) (outcomes : List Outcome) : Type 0 where
  pub long : length outcomes ≡ i
  pub each : (k : ℕ) (d : Outcome) → k < i → IsOutcome rows refused k (slice_index_or outcomes k d)

-- Both paths of the renamed file have a row, and these rows are a rename.
pub record IsMoved (rows : List Row) (m : Moved) : Type 0 where
  pub old : ℕ
  pub new : ℕ
  pub old_is : IsRowFor rows m.old.now old
  pub new_is : IsRowFor rows m.new.now new
  pub is_rename : IsRename rows (record { old = old; new = new })

-- The decision is that of two trees and of the marks of `count` shown files.
pub record IsDecision (count : ℕ) (old new : List Entry) (marks : List Mark) (moved : List Moved) (d : Decision) : Type 0 where
  -- each mark is one of a shown file
  pub shown : All (λ (m : Mark). is_shown count m ≡ true) marks
  pub rows : AreMerged count old new marks d.rows.items
  pub fits : AreRows (count + 1) d.rows.items
  -- each path that would come, and each shown one, names a file below the top folder
  pub paths : All (λ (r : Row). row_fault count r ≡ None) d.rows.items
  pub renames : All (λ (m : Moved). IsMoved d.rows.items m) moved
  -- the files that are left out are the least that have to be, each with its reason
  pub refused : AreRefusals (count + 1) d.rows.items d.refused.items
  pub outcomes : AreOutcomes d.rows.items d.refused.items (length d.rows.items) d.outcomes.items

-- The renamed file is at exactly one of its paths.
pub record IsAtOne (rows : List Row) (refused : List (Option Refusal)) (m : Moved) : Type 0 where
  pub old : ℕ
  pub new : ℕ
  pub old_is : IsRowFor rows m.old.now old
  pub new_is : IsRowFor rows m.new.now new
  pub one : (d : Row) → is_one (is_some (chosen (is_refused refused) (slice_index_or rows old d))) (is_some (chosen (is_refused refused) (slice_index_or rows new d))) ≡ true

-- What a decision of `count` shown files promises.
pub record IsPromise (count : ℕ) (old new : List Entry) (moved : List Moved) (d : Decision) : Type 0 where
  -- the result is a tree
  pub is_tree : IsTree (result_of d.rows.items d.refused.items)
  -- nothing marked: it is the old tree, entry for entry
  pub nothing_marked : All (λ (r : Row). r.wanted ≡ r.current) d.rows.items → HaveSame entry_path entry_version old outcome_path outcome_after d.outcomes.items
  -- everything marked: it is the new tree, entry for entry, and nothing is refused
  pub everything_marked : All (λ (r : Row). r.wanted ≡ r.goal) d.rows.items → HaveSame entry_path entry_version new outcome_path outcome_after d.outcomes.items
  -- each path has what its own file's marks ask for, or what was there, if its file is refused
  pub own : All (λ (r : Row). (is_refused d.refused.items r.file ≡ false → chosen (is_refused d.refused.items) r ≡ r.wanted) × (is_refused d.refused.items r.file ≡ true → chosen (is_refused d.refused.items) r ≡ r.current)) d.rows.items
  -- what is not shown stays
  pub hidden_stays : All (λ (r : Row). nat_lt r.file count ≡ false → chosen (is_refused d.refused.items) r ≡ r.current) d.rows.items
  pub renames : All (λ (m : Moved). IsAtOne d.rows.items d.refused.items m) moved
