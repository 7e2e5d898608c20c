use Rattle.std.proofs.Common.{◌≡◌, true, false, [], ◌∷◌, length, take, sym}
use Rattle.std.specs.Prelude.{is_some}
use Rattle.scm_selection.specs.KeySet.{has_key}
use Rattle.scm_selection.specs.KeyLists.{section_key, line_keys}
use Rattle.scm_selection.specs.KeysAround.{is_stop, find_last, sections_at, lines_at, keys_before_section}
use Rattle.scm_selection.proofs.FindLemmas.{last-kept, last-missed}
use Rattle.scm_selection.proofs.moves.last_before.Goals as goal

pub returns-then-is_some : goal.returns-then-is_some
returns-then-is_some c =
    let lines = lines_at (sections_at c.args.files.now c.in-Line.key.file_idx) c.in-Line.key.section_idx in
    let counted : length lines ≡ c.line_count_at-count.result = rw (← c.sections_at.ensures) (sym c.line_count_at-count.ensures) in
    let was : is_some c.last_of_lines-found.result ≡ true = cc in
    rw c.in-Line.is (last-kept (is_stop c.args.reach (has_key c.args.expanded.now)) (keys_before_section c.args.files.now c.in-Line.key.file_idx c.in-Line.key.section_idx) ((section_key c.in-Line.key.file_idx c.in-Line.key.section_idx) ∷ (line_keys c.in-Line.key.file_idx c.in-Line.key.section_idx 0 (take c.in-Line.key.line_idx lines))) _ was (last-kept (is_stop c.args.reach (has_key c.args.expanded.now)) ((section_key c.in-Line.key.file_idx c.in-Line.key.section_idx) ∷ []) (line_keys c.in-Line.key.file_idx c.in-Line.key.section_idx 0 (take c.in-Line.key.line_idx lines)) _ was (c.last_of_lines-found.ensures lines counted)))

pub returns-then-is_some-2 : goal.returns-then-is_some-2
returns-then-is_some-2 c =
    let lines = lines_at (sections_at c.args.files.now c.in-Line.key.file_idx) c.in-Line.key.section_idx in
    let counted : length lines ≡ c.line_count_at-count.result = rw (← c.sections_at.ensures) (sym c.line_count_at-count.ensures) in
    let missed : is_some c.last_of_lines-found.result ≡ false = cc in
    let was : is_some c.stop_at-found.result ≡ true = cc in
    let stop : c.stop_at-found.result ≡ find_last (is_stop c.args.reach (has_key c.args.expanded.now)) ((section_key c.in-Line.key.file_idx c.in-Line.key.section_idx) ∷ []) = rw (← c.section_key.ensures) c.stop_at-found.ensures in
    rw c.in-Line.is (last-kept (is_stop c.args.reach (has_key c.args.expanded.now)) (keys_before_section c.args.files.now c.in-Line.key.file_idx c.in-Line.key.section_idx) ((section_key c.in-Line.key.file_idx c.in-Line.key.section_idx) ∷ (line_keys c.in-Line.key.file_idx c.in-Line.key.section_idx 0 (take c.in-Line.key.line_idx lines))) _ was (last-missed (is_stop c.args.reach (has_key c.args.expanded.now)) ((section_key c.in-Line.key.file_idx c.in-Line.key.section_idx) ∷ []) (line_keys c.in-Line.key.file_idx c.in-Line.key.section_idx 0 (take c.in-Line.key.line_idx lines)) _ _ missed (c.last_of_lines-found.ensures lines counted) stop))

pub returns-else-is_some-2 : goal.returns-else-is_some-2
returns-else-is_some-2 c =
    let lines = lines_at (sections_at c.args.files.now c.in-Line.key.file_idx) c.in-Line.key.section_idx in
    let counted : length lines ≡ c.line_count_at-count.result = rw (← c.sections_at.ensures) (sym c.line_count_at-count.ensures) in
    let missed : is_some c.last_of_lines-found.result ≡ false = cc in
    let was : is_some c.stop_at-found.result ≡ false = cc in
    let stop : c.stop_at-found.result ≡ find_last (is_stop c.args.reach (has_key c.args.expanded.now)) ((section_key c.in-Line.key.file_idx c.in-Line.key.section_idx) ∷ []) = rw (← c.section_key.ensures) c.stop_at-found.ensures in
    rw c.in-Line.is (last-missed (is_stop c.args.reach (has_key c.args.expanded.now)) (keys_before_section c.args.files.now c.in-Line.key.file_idx c.in-Line.key.section_idx) ((section_key c.in-Line.key.file_idx c.in-Line.key.section_idx) ∷ (line_keys c.in-Line.key.file_idx c.in-Line.key.section_idx 0 (take c.in-Line.key.line_idx lines))) _ _ was (last-missed (is_stop c.args.reach (has_key c.args.expanded.now)) ((section_key c.in-Line.key.file_idx c.in-Line.key.section_idx) ∷ []) (line_keys c.in-Line.key.file_idx c.in-Line.key.section_idx 0 (take c.in-Line.key.line_idx lines)) _ _ missed (c.last_of_lines-found.ensures lines counted) stop) c.last_before_section-in-Line.ensures)
