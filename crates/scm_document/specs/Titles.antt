-- The titles of headings.
use Rattle.std.specs.Prelude.{ℕ, List}
use Rattle.scm_document.specs.declared.title.Title.{Title}
use Rattle.scm_document.specs.declared.title.Title.TheVariants.{File, Section}
use Rattle.scm_document.specs.Rows.{lent_text}
use Rattle.scm_document.specs.Texts.{path_text, section_text}

-- the text of a title
abbrev pub title_text : Title → List ℕ
title_text (File old path) = path_text (lent_text old) path.now
title_text (Section number total) = section_text number total
