-- A layout of a state: what its parts are ready for, and what it is after one of them changed.
use Rattle.std.proofs.Common.{◌≡◌, ℕ, ◌+◌, ◌<◌, ◌≤◌, ◌^◌, List, [], ◌∷◌, Bool, true, not, length, map, ap, sym, ◌∙◌, arith}
use Rattle.scm_types.specs.declared.keys.SelectionKey.{SelectionKey}
use Rattle.scm_types.specs.declared.state.Commit.{Commit}
use Rattle.scm_types.specs.declared.state.RecordState.{RecordState}
use Rattle.scm_types.specs.Limits.{max_items, state_size}
use Rattle.scm_types.proofs.LimitLemmas.{items_room}
use Rattle.scm_selection.specs.KeySet.{has_key, with_key, with_key_flipped, without_key}
use Rattle.scm_layout.specs.declared.file_rows.FileRows.{FileRows}
use Rattle.scm_layout.specs.declared.state_counts.StateCounts.{StateCounts}
use Rattle.scm_layout.specs.declared.state_rows.StateRows.{StateRows}
use Rattle.scm_layout.specs.declared.state_layout.Layout.{Layout}
use Rattle.scm_layout.specs.Counts.{counts_of}
use Rattle.scm_rows.proofs.HeightLemmas.{message-le}
use Rattle.scm_layout.specs.Layouts.{files_top, layout_of, IsLayoutBut, IsLayoutButCommits}
use Rattle.scm_layout.specs.Refolds.{AreFilesButKey, AreRowsOfFiles, total_height}
use Rattle.scm_layout.specs.Rows.{each_file_rows, restacked, rows_of, stacked}
use Rattle.scm_layout.proofs.FoldLemmas.{again-agrees, each-agree, other-added, other-flipped, other-removed, same-agree, stacked-again, total-stacked}
use Rattle.scm_layout.proofs.StackLemmas.{each-fit, rows-of-files}

pub top-le : (commits : List Commit) → files_top commits ≤ 4
top-le [] = omega arith
top-le (c ∷ cs) = omega (arith, message-le c.message)

pub top-fits : (commits : List Commit) → files_top commits ≤ max_items
unfolding max_items
top-fits commits = omega (arith, top-le commits)

-- the rows of a layout are those of the state's files
pub ready-rows : (layout : Layout) (state : RecordState) (set : List SelectionKey) → layout ≡ layout_of state set → state_size state ≤ max_items → AreRowsOfFiles layout.rows.files state.files
ready-rows layout state set is fits = record {
  lengths = ap (λ (l : Layout). map (λ (r : FileRows). length r.sections) l.rows.files) is ∙ (rows-of-files set 0 (files_top state.commits) state.files fits).lengths;
  fits = fits;
}

pub ready-key : (layout : Layout) (state : RecordState) (expanded : List SelectionKey) (key : SelectionKey) (was : Bool) → IsLayoutBut layout state expanded key was → has_key expanded key ≡ not was → state_size state ≤ max_items
    → AreFilesButKey layout.rows.files expanded 0 state.files key
ready-key layout state expanded key was h new fits = record {
  before = h.before;
  top = files_top state.commits;
  is_it = ap (λ (l : Layout). l.rows.files) h.is_it;
  differ = record { at = new ∙ ap not (sym h.was); others = h.others };
  fits = fits;
}

-- a layout by its parts
abbrev layout_with : StateCounts → StateRows → Layout
layout_with counts rows = record { counts = counts; rows = rows }

-- rows by their files
abbrev rows_with : List FileRows → StateRows
rows_with files = record { files = files }

-- the layout while the set of unfolded keys stays
pub unchanged : (layout : Layout) (state : RecordState) (expanded : List SelectionKey) (key : SelectionKey) (was : Bool) → IsLayoutBut layout state expanded key was → has_key expanded key ≡ was → layout ≡ layout_of state expanded
unchanged layout state expanded key was h same =
    let each : each_file_rows expanded 0 0 state.files ≡ each_file_rows h.before 0 0 state.files =
    each-agree expanded h.before 0 0 state.files (λ k. same-agree expanded h.before key k (same ∙ sym h.was) h.others) in
    h.is_it ∙ ap (λ (rs : List FileRows). layout_with (counts_of state.files) (rows_with (stacked (files_top state.commits) rs))) (sym each)

-- a set of unfolded keys after one was flipped, added or removed
pub flipped-but : (layout : Layout) (state : RecordState) (set expanded : List SelectionKey) (key : SelectionKey) (was : Bool) → layout ≡ layout_of state set → was ≡ has_key set key → expanded ≡ with_key_flipped set key
    → IsLayoutBut layout state expanded key was
flipped-but layout state set expanded key was is had e = record {
  before = set;
  is_it = is;
  was = sym had;
  others = λ x other. rw e (other-flipped set key x other);
}

pub added-but : (layout : Layout) (state : RecordState) (set expanded : List SelectionKey) (key : SelectionKey) (was : Bool) → layout ≡ layout_of state set → was ≡ has_key set key → expanded ≡ with_key set key
    → IsLayoutBut layout state expanded key was
added-but layout state set expanded key was is had e = record {
  before = set;
  is_it = is;
  was = sym had;
  others = λ x other. rw e (other-added set key x other);
}

pub removed-but : (layout : Layout) (state : RecordState) (set expanded : List SelectionKey) (key : SelectionKey) (was : Bool) → layout ≡ layout_of state set → was ≡ has_key set key → expanded ≡ without_key set key
    → IsLayoutBut layout state expanded key was
removed-but layout state set expanded key was is had e = record {
  before = set;
  is_it = is;
  was = sym had;
  others = λ x other. rw e (other-removed set key x other);
}

-- a key that was unfolded before changes no row
pub added-again : (layout : Layout) (state : RecordState) (set expanded : List SelectionKey) (key : SelectionKey) → layout ≡ layout_of state set → expanded ≡ with_key set key → has_key set key ≡ true → layout ≡ layout_of state expanded
added-again layout state set expanded key is e has =
    let same : each_file_rows expanded 0 0 state.files ≡ each_file_rows set 0 0 state.files =
    rw e (each-agree (with_key set key) set 0 0 state.files (again-agrees set key has)) in
    is ∙ ap (λ (rs : List FileRows). layout_with (counts_of state.files) (rows_with (stacked (files_top state.commits) rs))) (sym same)

-- ---- files below another message

pub restack-fits : (layout : Layout) (state : RecordState) (top : ℕ) → top ≤ max_items → IsLayoutButCommits layout state → state_size state ≤ max_items → top + total_height layout.rows.files < 2 ^ 63
restack-fits layout state top room h fits =
    let height : total_height layout.rows.files ≡ total_height (each_file_rows h.expanded 0 0 state.files) =
    ap (λ (l : Layout). total_height l.rows.files) h.is_it ∙ total-stacked (files_top h.before) (each_file_rows h.expanded 0 0 state.files) in
    omega (arith, items_room, height, each-fit h.expanded 0 state.files fits, room)

pub restacked-layout : (layout : Layout) (state : RecordState) (before : List Commit) (expanded : List SelectionKey) (rows : StateRows)
    → layout ≡ layout_of (record state { commits = before }) expanded → rows ≡ restacked (files_top state.commits) layout.rows → layout_with layout.counts rows ≡ layout_of state expanded
restacked-layout layout state before expanded rows is found =
    let each = each_file_rows expanded 0 0 state.files in
    let again : restacked (files_top state.commits) layout.rows ≡ rows_of expanded 0 (files_top state.commits) state.files =
    ap (λ (l : Layout). restacked (files_top state.commits) l.rows) is
    ∙ ap (λ (rs : List FileRows). rows_with rs) (stacked-again (files_top state.commits) (files_top before) each) in
    ap (λ (l : Layout). layout_with l.counts rows) is ∙ ap (λ rs. layout_with (counts_of state.files) rs) (found ∙ again)
