-- A copy of the rows of a session's layout, and what changed of them since. Indexes count from 0.
use Rattle.std.specs.Prelude.{◌≡◌, ℕ, Bool, false, List, length, nat_eq, IfSome, Option, Some, None, slice_get}
use Rattle.scm_types.specs.declared.keys.SelectionKey.{SelectionKey}
use Rattle.scm_types.specs.declared.keys.SelectionKey.TheVariants as keys
use Rattle.scm_layout.specs.declared.file_rows.FileRows.{FileRows}
use Rattle.scm_layout.specs.declared.state_rows.StateRows.{StateRows}
use Rattle.scm_layout.specs.SectionStack.{shapes_of}
use Rattle.scm_layout_index.specs.declared.frame_rows.Change.{Change}
use Rattle.scm_layout_index.specs.declared.frame_rows.Change.TheVariants.{Nothing, Files, Sections}
use Rattle.scm_layout_index.specs.declared.frame_rows.FrameRows.{FrameRows}

-- whether `index` is the file that is named, if one is
abbrev pub is_named : Option ℕ → ℕ → Bool
is_named None index = false
is_named (Some file) index = nat_eq file index

-- the files have the same sections in both, and on the same rows except those of `file`
pub record AreSectionsBut (copy rows : List FileRows) (file : Option ℕ) : Type 0 where
  pub lengths : length copy ≡ length rows
  pub same : (i : ℕ) (old new : FileRows) → is_named file i ≡ false → slice_get copy i ≡ Some old → slice_get rows i ≡ Some new → old.sections ≡ new.sections
  pub shapes : (i : ℕ) (old new : FileRows) → slice_get copy i ≡ Some old → slice_get rows i ≡ Some new → shapes_of old.sections ≡ shapes_of new.sections

-- the rows changed since they were copied as it says
abbrev pub HaveChanged : Change → List FileRows → List FileRows → Type 0
HaveChanged Nothing copy rows = copy ≡ rows
HaveChanged Files copy rows = AreSectionsBut copy rows None
HaveChanged (Sections file) copy rows = AreSectionsBut copy rows (Some file)

-- what a fold of a key changes
abbrev pub change_by : SelectionKey → Change
change_by keys.None = Files
change_by (keys.File key) = Files
change_by (keys.Section key) = Sections key.file_idx
change_by (keys.Line key) = Files

-- the copy is forgotten
abbrev pub forgotten : FrameRows
forgotten = record { copy = None; change = Nothing }

-- what is kept after a fold of a key: the copy is forgotten if another fold came before
abbrev pub noted : SelectionKey → Option StateRows → Change → FrameRows
noted key copy Nothing = record { copy = copy; change = change_by key }
noted key copy Files = forgotten
noted key copy (Sections file) = forgotten

-- a copy that is kept has changed as it says
abbrev pub FitRows : FrameRows → StateRows → Type 0
FitRows r rows = IfSome r.copy (λ (copy : StateRows). HaveChanged r.change copy.files rows.files)
