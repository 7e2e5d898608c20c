use Rattle.std.proofs.Common.{◌≡◌, ◌∙◌, ◌-◌, arith, ap, length, length-take-le, map, slice_range, take}
use Rattle.std.specs.Str.{chars}
use Rattle.std.proofs.lemmas.List.{length-map}
use Rattle.scm_cells.specs.Cell.{char_cell}
use Rattle.scm_cells.proofs.RowLemmas.{over-mended, length-between}
use borrow.Rule.Slice.PartMut.{put_mid}
use Rattle.scm_cells.proofs.row.write_text_over.Goals as goal

pub write_characters-requires-clause-size : goal.write_characters-requires-clause-size
write_characters-requires-clause-size c =
    let part = length-between c.mend_around.new.columns c.args.from c.args.past (omega (arith, c.mend_around.auto.columns, c.requires.end)) in
    omega (arith, part, c.requires.size)

pub returns : goal.returns
returns c =
    let from = c.args.from in
    let past = c.args.past in
    let cs = chars c.args.text.now in
    let part : length (slice_range c.mend_around.new.columns from past) ≡ past - from = length-between c.mend_around.new.columns from past (omega (arith, c.mend_around.auto.columns, c.requires.end)) in
    let size : length (map char_cell (take (past - from) cs)) ≡ past - from = length-map (take (past - from) cs) char_cell ∙ length-take-le (past - from) cs c.requires.size in
    ap (put_mid from (past - from) c.mend_around.new.columns) (c.write_characters.ensures ∙ ap (λ n. map char_cell (take n cs)) part)
    ∙ over-mended c.args.columns.now c.mend_around.new.columns (map char_cell (take (past - from) cs)) from past c.requires.some size c.mend_around.ensures.front c.mend_around.ensures.back
