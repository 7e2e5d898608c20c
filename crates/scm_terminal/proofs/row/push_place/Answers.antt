use Rattle.std.proofs.Common.{◌∙◌, ◌++◌, ap, sym}
use Rattle.std.specs.List.{flat_map}
use Rattle.std.specs.Prelude.{string_bytes}
use Rattle.scm_terminal.specs.Painting.{cell_commands, passed, pen_after}
use Rattle.scm_terminal.specs.StyledCell.{StyledCell}
use Rattle.scm_terminal.specs.Terminal.{bytes_of}
use Rattle.scm_terminal.proofs.ByteLemmas.{letter-blank, letter-sent}
use Rattle.scm_terminal.proofs.row.push_place.Goals as goal

pub returns-in-Some : goal.returns-in-Some
returns-in-Some c =
    let sent = letter-sent c.args.width c.args.column c.args.blank c.args.cell.now c.style.result c.in-Some.byte c.in-Some.ensures c.style.ensures in
    record {
      pen = c.in_ok-pen.ensures.pen ∙ ap (λ (p : StyledCell). pen_after c.args.pen (passed c.args.pass c.args.pen.is_there p)) (sym sent);
      blank = sym (letter-blank c.args.width c.args.column c.args.blank c.args.cell.now c.style.result c.in-Some.byte c.in-Some.ensures c.style.ensures);
      bytes = c.in_ok-pen.ensures.bytes ∙ ap (λ (p : StyledCell). string_bytes c.args.text.now ++ flat_map bytes_of (cell_commands c.args.row c.args.column c.args.pen (passed c.args.pass c.args.pen.is_there p) 0)) (sym sent);
    }
