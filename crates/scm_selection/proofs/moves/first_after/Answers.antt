use Rattle.std.proofs.Common.{◌≡◌, true, false, length, sym}
use Rattle.std.specs.Prelude.{is_some}
use Rattle.scm_selection.specs.KeySet.{has_key}
use Rattle.scm_selection.specs.KeysAround.{is_stop, sections_at, lines_at}
use Rattle.scm_selection.proofs.FindLemmas.{kept, missed}
use Rattle.scm_selection.proofs.moves.first_after.Goals as goal

pub returns-then-is_some : goal.returns-then-is_some
returns-then-is_some c =
    let was : is_some c.first_of_sections-found.result ≡ true = cc in
    rw (c.in-File.is, ← c.sections_at.ensures) (kept (is_stop c.args.reach (has_key c.args.expanded.now)) _ _ _ was c.first_of_sections-found.ensures)

pub returns-else-is_some : goal.returns-else-is_some
returns-else-is_some c =
    let was : is_some c.first_of_sections-found.result ≡ false = cc in
    rw (c.in-File.is, ← c.sections_at.ensures) (missed (is_stop c.args.reach (has_key c.args.expanded.now)) _ _ _ _ was c.first_of_sections-found.ensures c.first_after_file.ensures)

pub returns-then-is_some-2 : goal.returns-then-is_some-2
returns-then-is_some-2 c =
    let lines = lines_at (sections_at c.args.files.now c.in-Section.key.file_idx) c.in-Section.key.section_idx in
    let counted : length lines ≡ c.line_count_at-count.result = rw (← c.sections_at-in-Section.ensures) (sym c.line_count_at-count.ensures) in
    let was : is_some c.first_of_lines-found.result ≡ true = cc in
    rw c.in-Section.is (kept (is_stop c.args.reach (has_key c.args.expanded.now)) _ _ _ was (c.first_of_lines-found.ensures lines counted))

pub returns-else-is_some-2 : goal.returns-else-is_some-2
returns-else-is_some-2 c =
    let lines = lines_at (sections_at c.args.files.now c.in-Section.key.file_idx) c.in-Section.key.section_idx in
    let counted : length lines ≡ c.line_count_at-count.result = rw (← c.sections_at-in-Section.ensures) (sym c.line_count_at-count.ensures) in
    let was : is_some c.first_of_lines-found.result ≡ false = cc in
    rw c.in-Section.is (missed (is_stop c.args.reach (has_key c.args.expanded.now)) _ _ _ _ was (c.first_of_lines-found.ensures lines counted) c.first_after_section.ensures)

pub returns-then-is_some-3 : goal.returns-then-is_some-3
returns-then-is_some-3 c =
    let lines = lines_at (sections_at c.args.files.now c.in-Line.key.file_idx) c.in-Line.key.section_idx in
    let counted : length lines ≡ c.line_count_at-count-in-Line.result = rw (← c.sections_at-in-Line.ensures) (sym c.line_count_at-count-in-Line.ensures) in
    let was : is_some c.first_of_later_lines-found.result ≡ true = cc in
    rw c.in-Line.is (kept (is_stop c.args.reach (has_key c.args.expanded.now)) _ _ _ was (c.first_of_later_lines-found.ensures lines counted))

pub returns-else-is_some-3 : goal.returns-else-is_some-3
returns-else-is_some-3 c =
    let lines = lines_at (sections_at c.args.files.now c.in-Line.key.file_idx) c.in-Line.key.section_idx in
    let counted : length lines ≡ c.line_count_at-count-in-Line.result = rw (← c.sections_at-in-Line.ensures) (sym c.line_count_at-count-in-Line.ensures) in
    let was : is_some c.first_of_later_lines-found.result ≡ false = cc in
    rw c.in-Line.is (missed (is_stop c.args.reach (has_key c.args.expanded.now)) _ _ _ _ was (c.first_of_later_lines-found.ensures lines counted) c.first_after_section-in-Line.ensures)
