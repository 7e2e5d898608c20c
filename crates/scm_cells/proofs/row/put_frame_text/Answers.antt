use Rattle.std.proofs.Common.{◌≡◌, ◌∙◌, ◌+◌, ◌-◌, ◌≤◌, arith, length, length-take, map, min, sym, take}
use Rattle.std.specs.Str.{chars}
use Rattle.std.proofs.lemmas.List.{length-map}
use Rattle.scm_cells.specs.Cell.{char_cell}
use Rattle.scm_cells.proofs.CharacterLemmas.{put-characters, put-characters_none}
use Rattle.scm_cells.proofs.FrameTextLemmas.{frame_sized}
use Rattle.scm_cells.proofs.TailLemmas.{IsBlankFrom-before}
use Rattle.scm_cells.proofs.row.put_frame_text.Goals as goal

pub write_text_over-requires-clause-frame : goal.write_text_over-requires-clause-frame
write_text_over-requires-clause-frame c = (frame_sized c.args.text.now c.args.width c.requires.frame).0

pub write_text_over-requires-clause-size : goal.write_text_over-requires-clause-size
write_text_over-requires-clause-size c = omega (arith, (frame_sized c.args.text.now c.args.width c.requires.frame).1, c.min-limit.ensures, c.saturating_add.ensures)

pub returns-then-from-limit-clause-row : goal.returns-then-from-limit-clause-row
returns-then-from-limit-clause-row c = λ low le.
    let limit : c.min-limit.result ≡ min c.args.high (c.args.from + c.args.width) = omega (arith, c.min-limit.ensures, c.saturating_add.ensures, c.ranges.high) in
    c.write_text_over.ensures ∙ sym (put-characters c.args.columns.now c.args.text.now c.args.width c.args.from low c.args.high c.min-limit.result c.requires.frame le limit)

pub returns-then-from-limit-clause-tail : goal.returns-then-from-limit-clause-tail
returns-then-from-limit-clause-tail c = λ n le blank_from.
    let frame = frame_sized c.args.text.now c.args.width c.requires.frame in
    let cs = chars c.args.text.now in
    let count = c.min-limit.result - c.args.from in
    let size : length (map char_cell (take count cs)) ≤ count = omega (arith, length-map (take count cs) char_cell, length-take count cs) in
    IsBlankFrom-before c.args.columns.now _ (map char_cell (take count cs)) c.args.from n c.write_text_over.ensures (omega (arith, le, size, c.if-from-limit.true)) blank_from

pub returns-else-from-limit-clause-row : goal.returns-else-from-limit-clause-row
returns-else-from-limit-clause-row c = λ low le.
    let limit : c.min-limit.result ≡ min c.args.high (c.args.from + c.args.width) = omega (arith, c.min-limit.ensures, c.saturating_add.ensures, c.ranges.high) in
    put-characters_none c.args.columns.now c.args.text.now c.args.width c.args.from low c.args.high c.min-limit.result c.requires.frame le limit (omega arith)
