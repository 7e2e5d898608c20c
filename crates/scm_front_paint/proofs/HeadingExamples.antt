-- Worked rows: the headings above the sections of a file, and what a label shows of them.
use Rattle.std.proofs.Common.{◌≡◌, ℕ, true, false, List, [], ◌∷◌, ◌++◌, refl, None, Some}
use lib.Utf8.{encode}
use Rattle.std.specs.Prelude.{codes}
use Rattle.std.specs.Str.{chars, trim_end}
use Rattle.scm_types.specs.declared.line.ChangeType.TheVariants.{Added, Removed}
use Rattle.scm_types.specs.declared.line.SectionChangedLine.{SectionChangedLine}
use Rattle.scm_types.specs.declared.section.Section.{Section}
use Rattle.scm_types.specs.declared.section.Section.TheVariants.{Changed, Unchanged}
use Rattle.scm_document.specs.Texts.{section_text}
use Rattle.scm_front_paint.specs.Headings.{heading_above, is_heading, label_in, shown_heading}

abbrev added : List ℕ → SectionChangedLine
added text = record { is_checked = true; change_type = Added; line = text }

abbrev removed : List ℕ → SectionChangedLine
removed text = record { is_checked = false; change_type = Removed; line = text }

abbrev file : List Section
file =
    Unchanged (codes "fn main() {\n" ∷ (codes "    a\n" ∷ []))
    ∷ (Changed (removed (codes "    b\n") ∷ (added (codes "fn other() {\n") ∷ []))
    ∷ (Unchanged (codes "}\n" ∷ [])
    ∷ (Changed (removed (codes "fn next() { \r\n") ∷ [])
    ∷ (Unchanged (codes "    x\n" ∷ [])
    ∷ (Changed (added (codes "y\n") ∷ []) ∷ [])))))

-- nothing stands above the first line
no-line : heading_above file 0 ≡ []
no-line = refl

-- the lines above the section
context : heading_above file 1 ≡ codes "fn main() {\n"
context = refl

-- an added line does not count
not-added : heading_above file 3 ≡ codes "fn main() {\n"
not-added = refl

-- a removed line counts, and the last line is the one
old-line : heading_above file 5 ≡ codes "fn next() { \r\n"
old-line = refl

letters : is_heading (codes "Zebra") ≡ true
letters = refl

under-line : is_heading (codes "_start:") ≡ true
under-line = refl

dollar : is_heading (codes "$SYS") ≡ true
dollar = refl

digit : is_heading (codes "1st") ≡ false
digit = refl

blank : is_heading (codes " fn") ≡ false
blank = refl

-- a letter beyond ASCII is none
umlaut : is_heading (195 ∷ (164 ∷ [])) ≡ false
umlaut = refl

empty : is_heading [] ≡ false
empty = refl

-- sections of context have no label, and the first section of changed lines has its number
of-context : label_in 0 file 2 ≡ None
of-context = refl

with-title : label_in 7 file 1 ≡ Some (record { file = 7; section = 1; text = section_text 1 3 ++ (codes "  " ++ shown_heading (codes "fn main() {\n")) })
with-title = refl

blanks-left-off : shown_heading (codes "fn next() { \r\n") ≡ codes "fn next() {"
unfolding trim_end chars encode
blanks-left-off = refl
