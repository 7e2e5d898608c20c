-- The boxes of a section's rows, by the selected key.
use Rattle.std.proofs.Common.{◌≡◌, ℕ, Bool, true, false, ◌&&◌, ◌==◌, nat_eq, refl, arith}
use Rattle.std.specs.Prelude.{if◌then◌else◌, Some, None}
use Rattle.std.proofs.lemmas.Bool.Decides.{nat_tests}
use Rattle.scm_types.specs.declared.keys.SectionKey.{SectionKey}
use Rattle.scm_types.specs.declared.keys.SelectionKey.{SelectionKey}
use Rattle.scm_types.specs.declared.keys.SelectionKey.TheVariants as keys
use Rattle.scm_types.specs.Keys.{is_key, line_key_of, section_of_line}
use Rattle.scm_document.specs.declared.section_view.SectionSelection.TheVariants.{SectionHeader, ChangedLine}
use Rattle.scm_document.specs.Rows.{is_header_selected, is_line_selected}
use Rattle.scm_view.specs.ViewState.{selected_in}

header-if : (b : Bool) → is_header_selected (if b then Some SectionHeader else None) ≡ b
header-if true = refl
header-if false = refl

no-header : (b : Bool) (n : ℕ) → is_header_selected (if b then Some (ChangedLine n) else None) ≡ false
no-header true n = refl
no-header false n = refl

no-line : (b : Bool) (n : ℕ) → is_line_selected n (if b then Some SectionHeader else None) ≡ false
no-line true n = refl
no-line false n = refl

-- a section itself is selected if its key is
pub header_selected : (k : SectionKey) (s : SelectionKey) → is_header_selected (selected_in k s) ≡ is_key (keys.Section k) s
header_selected k keys.None = refl
header_selected k (keys.File f) = refl
header_selected k (keys.Section j) = header-if (is_key (keys.Section k) (keys.Section j))
header_selected k (keys.Line l) = no-header (is_key (keys.Section k) (keys.Section (section_of_line l))) l.line_idx

same-line : (n m : ℕ) → (m == n) ≡ (nat_eq n m && true)
same-line n m = grind (arith, nat_tests)

line-if : (a b c : Bool) (n m : ℕ) → is_line_selected n (if a && (b && (c && true)) then Some (ChangedLine m) else None) ≡ (a && (b && (c && (nat_eq n m && true))))
line-if true true true n m = same-line n m
line-if true true false n m = refl
line-if true false c n m = refl
line-if false b c n m = refl

-- a line is selected if its key is
pub line_selected : (k : SectionKey) (n : ℕ) (s : SelectionKey) → is_line_selected n (selected_in k s) ≡ is_key (keys.Line (line_key_of k n)) s
line_selected k n keys.None = refl
line_selected k n (keys.File f) = refl
line_selected k n (keys.Section j) = no-line (is_key (keys.Section k) (keys.Section j)) n
line_selected k n (keys.Line l) = line-if (nat_eq k.commit_idx l.commit_idx) (nat_eq k.file_idx l.file_idx) (nat_eq k.section_idx l.section_idx) n l.line_idx
