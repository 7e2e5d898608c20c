use Rattle.std.proofs.Common.{◌∙◌, ap, sym}
use Rattle.std.specs.Prelude.{string_bytes}
use Rattle.scm_terminal.specs.StyledCell.{symbol_of_cell}
use Rattle.scm_terminal.proofs.StyledCellLemmas.{shows-byte}
use Rattle.scm_terminal.proofs.styled_cell.StyledCell.letter.Goals as goal

pub returns-then-is_printable : goal.returns-then-is_printable
returns-then-is_printable c =
    let own = c.self.inside in
    let printable = sym c.is_printable.ensures ∙ c.if-is_printable.true in
    record {
      is_it = ap symbol_of_cell (sym (shows-byte own.byte own.is_first (string_bytes own.symbol) own.style c.args.self.now printable c.self.view_is));
      printable = printable;
    }
