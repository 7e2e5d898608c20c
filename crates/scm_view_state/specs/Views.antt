-- Views without the addresses of what they borrow, so that views of equal contents are equal.
use Rattle.std.specs.Prelude.{ℕ, List, map, Option, option_map}
use Rattle.std.specs.Borrow.{Bor}
use Rattle.scm_document.specs.declared.section_view.SectionView.{SectionView}
use Rattle.scm_document.specs.declared.file_view.FileView.{FileView}
use Rattle.scm_view.specs.ViewState.{Totals, borrow_of}
use Rattle.scm_view_state.specs.declared.section_views.FileTotals.{FileTotals}

-- the view of a section without the address of the section
abbrev pub lent_section : SectionView → SectionView
lent_section v = record v { section = borrow_of v.section.now }

-- the views of sections without the addresses of the sections
abbrev pub lent_sections : List SectionView → List SectionView
lent_sections vs = map lent_section vs

-- a path without its address, if there is a path
abbrev pub lent_path : Option (Bor (List ℕ)) → Option (Bor (List ℕ))
lent_path path = option_map (λ (t : Bor (List ℕ)). borrow_of t.now) path

-- the view of a file without the addresses of its paths and sections
abbrev pub lent_file : FileView → FileView
lent_file v = record v {
  old_path = lent_path v.old_path;
  path = borrow_of v.path.now;
  section_views = lent_sections v.section_views;
}

-- the views of files without the addresses of their paths and sections
abbrev pub lent_files : List FileView → List FileView
lent_files vs = map lent_file vs

-- the numbers of a file's sections, as the contracts know them
abbrev pub totals_in : FileTotals → Totals
totals_in t = record { sections = t.sections; editable = t.editable }
