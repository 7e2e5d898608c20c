-- The file that has a row of a document, as the layout has it.
use Rattle.std.specs.Prelude.{◌≡◌, ℕ, ◌-◌, ◌<◌, ◌≤◌, nat_lt, if◌then◌else◌, Some, None, option_map, slice_get}
use Rattle.scm_types.specs.Limits.{file_size, max_items}
use Rattle.scm_layout.specs.Counts.{file_counts}
use Rattle.scm_layout.specs.Rows.{file_rows, moved_to}
use Rattle.scm_document.specs.Rows as views
use Rattle.scm_document.specs.Rows.{shown_file}
use Rattle.scm_strips.specs.Shows.{FileRow}
use Rattle.scm_view.specs.ViewState.{ViewState, commit_at, file_view_of}
use Rattle.scm_view.specs.Window.{inline_document}
use Rattle.scm_screen.specs.declared.document_rows.RowFile.{RowFile}
use Rattle.scm_screen.specs.DocumentRows.{header_of, message_rows, pinned_on, row_in, row_shown}

-- the counts and the rows of file c are those of the layout, in which it may begin on any row
pub record IsInLayout (s : ViewState) (c : RowFile) : Type 0 where
  pub counts : c.counts.now ≡ file_counts c.file.now
  pub size : file_size c.file.now ≤ max_items
  pub rows : c.rows.now ≡ moved_to c.rows.now.top (file_rows s.expanded c.key c.file.now)

-- file c has row y of the document
pub record HasRow (s : ViewState) (y : ℕ) (c : RowFile) : Type 0 where
  pub layout : IsInLayout s c
  pub low : c.rows.now.top ≤ y
  pub high : y < c.rows.now.end
  pub shows : row_shown (inline_document s) y ≡ option_map FileRow (slice_get (views.file_rows (shown_file (file_view_of s c.key c.file.now))) (y - c.rows.now.top))
  pub over : pinned_on (inline_document s) y ≡ (if nat_lt c.rows.now.top y then Some (header_of (shown_file (file_view_of s c.key c.file.now))) else None)

-- no file has row y of the document: it is a row of the message, or none, and no header is pinned there
pub record NoFileHas (s : ViewState) (y : ℕ) : Type 0 where
  pub shows : row_shown (inline_document s) y ≡ row_in (message_rows 0 (commit_at 0 s.state.commits).message) y
  pub over : pinned_on (inline_document s) y ≡ None
