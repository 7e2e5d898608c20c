-- Row ranges: pairs of the first row and the end (exclusive). The smallest range around several of them.
use Rattle.std.specs.Prelude.{ℕ, ◌+◌, ◌==◌, min, max, Bool, if◌then◌else◌, Option, Some, None}
use Rattle.scm_document.specs.Strips.{no_files_gap}

-- the smallest row range around a and b
abbrev pub joined : ℕ × ℕ → ℕ × ℕ → ℕ × ℕ
joined a b = (min a.0 b.0, max a.1 b.1)

-- the smallest row range around a and an optional range
abbrev pub joined_with : ℕ × ℕ → Option (ℕ × ℕ) → ℕ × ℕ
joined_with a None = a
joined_with a (Some b) = joined a b

-- the row range of the empty-state text, centred in h rows
abbrev pub words_run : ℕ → ℕ × ℕ
words_run h = (1 + no_files_gap h, 1 + no_files_gap h + 1)

-- the row range of a document: 1..end if it has files; else that of a message of n rows and of the empty-state text
abbrev pub document_run : ℕ → ℕ → Bool → ℕ → ℕ × ℕ
document_run h n is_empty end = if is_empty then (if n == 0 then words_run h else joined (1, 1 + n) (words_run h)) else (1, end)
