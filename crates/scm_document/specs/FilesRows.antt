-- The rows of files.
use Rattle.std.specs.Prelude.{List, [], ◌∷◌, ◌++◌}
use Rattle.scm_document.specs.Rows.{DocRow, ShownFile, file_rows}

-- the rows of files, from the top down
unfoldable pub files_rows : List ShownFile → List DocRow
files_rows [] = []
files_rows (f ∷ fs) = file_rows f ++ files_rows fs
