-- The rows that the code hands in, by references into the state.
use Rattle.std.specs.Prelude.{ℕ, List}
use Rattle.scm_document.specs.Texts.{path_text, section_text, mode_change_text, binary_text, number_text, sign_text, dots_text}
use Rattle.scm_document.specs.Rows.{Heading, HeaderRow, SectionRow, LineRow, MarkRow, ContextRow, DotsRow, BlankRow, lent_text, line_texts}
use Rattle.scm_widgets.specs.Boxes.{IdBox}
use Rattle.scm_strips.specs.declared.shown.Shown.{Shown}
use Rattle.scm_strips.specs.declared.shown.Shown.TheVariants as shown
use Rattle.scm_strips.specs.Shows.{AreaRow, FileRow, MessageRow, MarginRow, WordsRow}

-- a heading by its boxes and its title
abbrev pub heading : IdBox → IdBox → List ℕ → Heading
heading toggle fold title = record { toggle = toggle; fold = fold; title = title }

-- the row of a document that is shown
abbrev pub row_of : Shown → AreaRow
row_of (shown.File key toggle fold old path) = FileRow (HeaderRow key (heading toggle fold (path_text (lent_text old) path.now)))
row_of (shown.Section selected toggle fold number total) = FileRow (SectionRow selected (heading toggle fold (section_text number total)))
row_of (shown.Line key toggle change line) = FileRow (LineRow key toggle (line_texts (sign_text change) line.now))
row_of (shown.Mode selected toggle mode) = FileRow (MarkRow selected toggle (mode_change_text mode))
row_of (shown.Binary selected toggle old new) = FileRow (MarkRow selected toggle (binary_text old.now new.now))
row_of (shown.Context key number line) = FileRow (ContextRow key (line_texts (number_text number) line.now))
row_of (shown.Dots unicode) = FileRow (DotsRow (dots_text unicode))
row_of shown.Blank = FileRow BlankRow
row_of (shown.Message commit message) = MessageRow commit message.now
row_of shown.Margin = MarginRow
row_of shown.Words = WordsRow
