-- The layout of a state: its counts, and its rows where some files and sections are unfolded.
use Rattle.std.specs.Prelude.{◌≡◌, ℕ, ◌+◌, List, [], ◌∷◌, Bool, false}
use Rattle.scm_types.specs.declared.keys.SelectionKey.{SelectionKey}
use Rattle.scm_types.specs.declared.state.Commit.{Commit}
use Rattle.scm_types.specs.declared.state.RecordState.{RecordState}
use Rattle.scm_types.specs.Keys.{has_key, is_key}
use Rattle.scm_rows.specs.Heights.{message_height}
use Rattle.scm_layout.specs.declared.state_layout.Layout.{Layout}
use Rattle.scm_layout.specs.Counts.{counts_of}
use Rattle.scm_layout.specs.Rows.{rows_of}

-- the first row of the files, below the message of the first commit, which begins on row 1
abbrev pub files_top : List Commit → ℕ
files_top [] = 1
files_top (commit ∷ commits) = 1 + message_height commit.message

-- the layout of a state, if the files and sections of `expanded` are unfolded; the keys are those of commit 0
abbrev pub layout_of : RecordState → List SelectionKey → Layout
layout_of state expanded = record {
  counts = counts_of state.files;
  rows = rows_of expanded 0 (files_top state.commits) state.files;
}

-- the layout is that of the state where some files and sections are unfolded
pub record IsLayoutOf (layout : Layout) (state : RecordState) : Type 0 where
  pub expanded : List SelectionKey
  pub is_it : layout ≡ layout_of state expanded

-- the layout is that of the state before the set of unfolded keys became `expanded`, which differs at most in `key`; the set before had `key` if `was_unfolded`
pub record IsLayoutBut (layout : Layout) (state : RecordState) (expanded : List SelectionKey) (key : SelectionKey) (was_unfolded : Bool) : Type 0 where
  pub before : List SelectionKey
  pub is_it : layout ≡ layout_of state before
  pub was : has_key before key ≡ was_unfolded
  pub others : (x : SelectionKey) → is_key x key ≡ false → has_key expanded x ≡ has_key before x

-- the layout is that of the state before its commits changed
pub record IsLayoutButCommits (layout : Layout) (state : RecordState) : Type 0 where
  pub before : List Commit
  pub expanded : List SelectionKey
  pub is_it : layout ≡ layout_of (record state { commits = before }) expanded
