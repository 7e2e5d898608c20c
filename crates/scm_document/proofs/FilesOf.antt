-- Whose ids a document has: those of the keys of its files, sections and lines, each of them once.
use Rattle.std.specs.Prelude.{◌≡◌, ℕ, suc, ◌≤◌, ◌<◌, List, [], ◌∷◌, length}
use Rattle.scm_types.specs.declared.keys.FileKey.{FileKey}
use Rattle.scm_types.specs.declared.keys.SelectionKey.TheVariants as selection
use Rattle.scm_widgets.specs.declared.ids.ComponentId.TheVariants as ids
use Rattle.scm_document.specs.Rows.{Heading, ShownSection, ShownFile, Document}
use Rattle.scm_document.specs.Owners.{AreSectionsOf}

-- the heading of a file has the ids of its two boxes
pub record IsHeadingOf (f : FileKey) (h : Heading) : Type 0 where
  pub toggle : h.toggle.id ≡ ids.ToggleBox (selection.File f)
  pub fold : h.fold.id ≡ ids.ExpandBox (selection.File f)

-- each section has a row
abbrev pub HaveRows : List ShownSection → Type 0
HaveRows [] = Unit {0}
HaveRows (p ∷ ps) = (0 < length p.rows) × HaveRows ps

-- a file of the commit with this index or a later one: its heading and its sections have its ids, and each section has a row
pub record IsFileOf (commit n : ℕ) (f : ShownFile) : Type 0 where
  pub commit_is : f.key.commit_idx ≡ commit
  pub index : n ≤ f.key.file_idx
  pub heading : IsHeadingOf f.key f.heading
  pub sections : AreSectionsOf f.key 0 f.sections
  pub rows : HaveRows f.sections

-- the files of a commit, from file `n` on
abbrev pub AreFilesOf : ℕ → ℕ → List ShownFile → Type 0
AreFilesOf commit n [] = Unit {0}
AreFilesOf commit n (f ∷ fs) = IsFileOf commit n f × AreFilesOf commit (suc f.key.file_idx) fs

-- a document whose files and sections have the ids of their keys, each key once
abbrev pub HasItsIds : Document → Type 0
HasItsIds d = AreFilesOf d.commit 0 d.files
