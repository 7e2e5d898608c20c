-- What calls tell of a pager.
use Rattle.std.specs.Prelude.{◌≡◌, ℕ, min, List, [], length, Option, Some, None, slice_get}
use Rattle.scm_types.specs.declared.file.File.{File}
use Rattle.scm_types.specs.declared.state.RecordState.{RecordState}
use Rattle.scm_terminal.specs.Promise.{Paints}
use Rattle.scm_c_values.specs.Buffers.{over}
use Rattle.scm_c_values.specs.Updates.{as_update}
use Rattle.scm_pager.specs.declared.pager.Pager.{Pager}
use Rattle.scm_pager.specs.Heard.{IsTyped}
use Rattle.scm_pager.specs.Pages.{page_picture}
use Rattle.scm_pager.specs.Places.{shown_at}

-- file `i` of a state
abbrev pub file_at : ℕ → RecordState → Option File
file_at i state = slice_get state.files i

-- The columns or the rows of a page: of a larger terminal 1,000.
abbrev pub most : ℕ → ℕ
most length = min length 1000

-- the pager with line `line` of section `index` of a file on a screen of `height` rows; without a file it stays
abbrev pub shown_in : Option File → Pager → ℕ → ℕ → ℕ → Pager
shown_in None p index line height = p
shown_in (Some file) p index line height = shown_at p file index line (most height)

-- The pager over a file after bytes that a silence follows. Without a file this is false.
abbrev pub HearsInPager : Option File → Pager → List ℕ → ℕ → ℕ → Pager → Type 0
HearsInPager None p bytes width height next = ⊥
HearsInPager (Some file) p bytes width height next = IsTyped p file bytes (most width) (most height) next

-- Bytes that make a terminal show the pager, whatever it shows before: one synchronized update.
pub record ShowsPage (p : Pager) (file : File) (width height : ℕ) (update : List ℕ) : Type 0 where
  -- the bytes inside the update
  pub bytes : List ℕ
  pub paints : Paints (most width) [] (page_picture p file (most width) (most height)) bytes
  pub is : update ≡ as_update bytes

-- Such bytes are written over the buffer, clipped to the buffer's length, and their number is told.
pub record PaintsPage (p : Pager) (file : File) (width height : ℕ) (old new : List ℕ) (told : ℕ) : Type 0 where
  pub update : List ℕ
  pub shows : ShowsPage p file width height update
  pub long : told ≡ length update
  pub written : new ≡ over update old

-- The page of a file is painted. Without a file this is false.
abbrev pub TellsPage : Option File → Pager → ℕ → ℕ → List ℕ → List ℕ → ℕ → Type 0
TellsPage None p width height old new told = ⊥
TellsPage (Some file) p width height old new told = PaintsPage p file width height old new told
