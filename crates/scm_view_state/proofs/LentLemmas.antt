-- A document depends on what its view borrows, and not on the addresses.
use Rattle.std.proofs.Common.{◌≡◌, ℕ, Bool, true, false, List, [], ◌∷◌, refl}
use Rattle.std.specs.Prelude.{map, Option, Some, None}
use Rattle.std.specs.Borrow.{Bor}
use Rattle.scm_types.specs.declared.section.Section.{Section}
use Rattle.scm_types.specs.declared.section.Section.TheVariants.{Unchanged, Changed}
use Rattle.scm_document.specs.declared.section_view.SectionView.{SectionView}
use Rattle.scm_document.specs.declared.file_view.FileView.{FileView}
use Rattle.scm_document.specs.declared.commit_view.CommitView.{CommitView}
use Rattle.scm_view.specs.ViewState.{borrow_of}
use Rattle.scm_rows.specs.Heights.{is_section_visible}
use Rattle.scm_document.specs.Rows.{context_rows, rows_of, section_rows, is_first_open, is_open, shown_section, shown_sections, lent_text, shown_file, document_of}
use Rattle.scm_view_state.specs.Views.{lent_section, lent_sections, lent_path, lent_file, lent_files}

-- the view of a commit without the addresses of what it borrows
abbrev pub lent_commit : CommitView → CommitView
lent_commit v = record {
  commit_message_view = record { commit_idx = v.commit_message_view.commit_idx; commit = borrow_of v.commit_message_view.commit.now };
  file_views = lent_files v.file_views;
}

rows_of-lent : (v : SectionView) (s : Section) → rows_of (lent_section v) s ≡ rows_of v s
unfolding context_rows
rows_of-lent v (Unchanged lines) = refl
rows_of-lent v (Changed lines) = refl
rows_of-lent v _ = refl

section_rows-lent : (v : SectionView) → section_rows (lent_section v) ≡ section_rows v
unfolding section_rows
section_rows-lent v = rows_of-lent v v.section.now

first_open-lent : (vs : List SectionView) → is_first_open (lent_sections vs) ≡ is_first_open vs
first_open-lent [] = refl
first_open-lent (v ∷ vs) = refl

shown_section-lent : (b : Bool) (v : SectionView) → shown_section b (lent_section v) ≡ shown_section b v
shown_section-lent true v = rw (section_rows-lent v) refl
shown_section-lent false v = refl

shown_sections-lent : (before : Bool) (vs : List SectionView) → shown_sections before (lent_sections vs) ≡ shown_sections before vs
unfolding shown_sections
shown_sections-lent before [] = refl
shown_sections-lent before (v ∷ vs) =
    rw (first_open-lent vs, shown_section-lent (is_section_visible before v.section.now (is_first_open vs)) v, shown_sections-lent (is_open v) vs) refl

path-lent : (path : Option (Bor (List ℕ))) → lent_text (lent_path path) ≡ lent_text path
path-lent None = refl
path-lent (Some text) = refl

shown_file-lent : (v : FileView) → shown_file (lent_file v) ≡ shown_file v
unfolding shown_file
shown_file-lent v = rw (path-lent v.old_path, shown_sections-lent false v.section_views) refl

pub files-lent : (vs : List FileView) → map shown_file (lent_files vs) ≡ map shown_file vs
files-lent [] = refl
files-lent (v ∷ vs) = rw (shown_file-lent v, files-lent vs) refl

pub document-lent : (v : CommitView) → document_of (lent_commit v) ≡ document_of v
document-lent v = rw (files-lent v.file_views) refl
