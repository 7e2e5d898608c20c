-- The marks of a state by file and section, and runs of marks that were: those of items `first` and later of a section.
use Rattle.std.specs.Prelude.{ℕ, ◌+◌, Bool, List, [], ◌∷◌, map, fold, set, length}
use Rattle.scm_types.specs.declared.file.File.{File}
use Rattle.scm_types.specs.Marks.{section_marks}
use Rattle.scm_types.specs.Edits.{modify}
use Rattle.scm_front_items.specs.declared.runs.Run.{Run}
use Rattle.scm_front_items.specs.declared.runs.Step.{Step}

-- the marks of a file, by section
abbrev pub marks_of_file : File → List (List Bool)
marks_of_file file = map section_marks file.sections

-- the marks of files, by file and section
abbrev pub marks_of_files : List File → List (List (List Bool))
marks_of_files files = map marks_of_file files

-- the marks with other ones written over them, from index `first` on; those past the end are left out
abbrev pub overwritten : ℕ → List Bool → List Bool → List Bool
overwritten first [] old = old
overwritten first (mark ∷ marks) old = overwritten (first + 1) marks (set old first mark)

-- the marks with those of a run written over them
abbrev pub with_run : List (List (List Bool)) → Run → List (List (List Bool))
with_run marks run = modify (λ (list : List (List Bool)). modify (overwritten run.first run.marks) list run.section) marks run.file

-- the marks with those of a step written over them
abbrev pub marks_with : Step → List (List (List Bool)) → List (List (List Bool))
marks_with step marks = fold with_run marks step.runs

-- the bytes that a run takes: one a mark, and those of the run itself
abbrev pub run_bytes : Run → ℕ
run_bytes run = length run.marks + 64
