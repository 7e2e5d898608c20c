-- The file and the section that a key of the files lies in are keys of the files.
use Rattle.std.proofs.Common.{◌≡◌, ℕ, Bool, true, false, List, [], length, refl, Option, Some, None, arith, nat_lt, nat_eq}
use Rattle.std.specs.Prelude.{slice_get}
use Rattle.std.proofs.lemmas.Bool.Decides.{nat_tests}
use Rattle.std.proofs.lemmas.Bool.{le-ltb}
use Rattle.std.proofs.lemmas.Option.{slice_get_within}
use Rattle.scm_types.specs.declared.section.Section.{Section}
use Rattle.scm_types.specs.declared.section.Section.TheVariants.{Unchanged, Changed, FileMode, Binary}
use Rattle.scm_types.specs.declared.file.File.{File}
use Rattle.scm_types.specs.declared.keys.SectionKey.{SectionKey}
use Rattle.scm_types.specs.declared.keys.LineKey.{LineKey}
use Rattle.scm_types.specs.declared.keys.SelectionKey.{SelectionKey}
use Rattle.scm_types.specs.declared.keys.SelectionKey.TheVariants as keys
use Rattle.scm_types.specs.Marks.{is_editable_section}
use Rattle.scm_types.specs.Keys.{file_of_section, section_of_line}
use Rattle.scm_selection.specs.KeysAround.{is_key_of, is_editable_in, lines_in, lines_of, sections_in, sections_at}
use Rattle.scm_selection.proofs.RelationLemmas.{and-left, and-right}

has-item : {X : Type 0} (xs : List X) (i : ℕ) (x : X) → slice_get xs i ≡ Some x → nat_lt i (length xs) ≡ true
has-item xs i x e = let h = slice_get_within xs i x e in grind (arith, nat_tests)

of-file : (files : List File) (i : ℕ) (test : List Section → Bool) → test [] ≡ false → (r : Option File) → slice_get files i ≡ r → test (sections_in r) ≡ true → nat_lt i (length files) ≡ true
of-file files i test none None e h = cc
of-file files i test none (Some file) e h = has-item files i file e

no-line : (i : ℕ) → nat_lt i 0 ≡ false
no-line i = le-ltb i 0 (omega arith)

of-section : (s : Section) (line : ℕ) → nat_lt line (length (lines_of s)) ≡ true → is_editable_section s ≡ true
of-section (Unchanged lines) line h = let none = no-line line in cc
of-section (Changed lines) line h = refl
of-section (FileMode checked mode) line h = let none = no-line line in cc
of-section (Binary checked old new) line h = let none = no-line line in cc

of-lines : (r : Option Section) (line : ℕ) → nat_lt line (length (lines_in r)) ≡ true → is_editable_in r ≡ true
of-lines None line h = let none = no-line line in cc
of-lines (Some s) line h = of-section s line h

pub file-of-section : (files : List File) (k : SectionKey) → is_key_of files (keys.Section k) ≡ true → is_key_of files (keys.File (file_of_section k)) ≡ true
file-of-section files k h =
    let first = and-left (nat_eq k.commit_idx 0) _ h in
    let inside = of-file files k.file_idx (λ ss. is_editable_in (slice_get ss k.section_idx)) refl (slice_get files k.file_idx) refl (and-right (nat_eq k.commit_idx 0) _ h) in
    rw (first, inside) refl

pub section-of-line : (files : List File) (k : LineKey) → is_key_of files (keys.Line k) ≡ true → is_key_of files (keys.Section (section_of_line k)) ≡ true
section-of-line files k h =
    let first = and-left (nat_eq k.commit_idx 0) _ h in
    let inside = of-lines (slice_get (sections_at files k.file_idx) k.section_idx) k.line_idx (and-right (nat_eq k.commit_idx 0) _ h) in
    rw (first, inside) refl

-- there is a file
pub some-file : (key : SelectionKey) → is_key_of [] key ≡ true → key ≡ keys.None
some-file keys.None h = refl
some-file (keys.File k) h =
    let out = and-right (nat_eq k.commit_idx 0) _ h in
    let none = no-line k.file_idx in
    cc
some-file (keys.Section k) h =
    let out = and-right (nat_eq k.commit_idx 0) _ h in
    cc
some-file (keys.Line k) h =
    let out = and-right (nat_eq k.commit_idx 0) _ h in
    let none = no-line k.line_idx in
    cc
