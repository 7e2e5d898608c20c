use Rattle.std.proofs.Common.{◌∙◌, ap, sym}
use Rattle.std.specs.Prelude.{string_bytes}
use Rattle.scm_terminal.specs.StyledCell.{symbol_of_cell}
use Rattle.scm_terminal.proofs.StyledCellLemmas.{shows-byte}
use Rattle.scm_terminal.proofs.styled_cell.StyledCell.is_byte.Goals as goal

pub returns : goal.returns
returns c = λ t.
    let own = c.self.inside in
    record {
      byte = own.byte;
      is_it = ap symbol_of_cell (sym (shows-byte own.byte own.is_first (string_bytes own.symbol) own.style c.args.self.now (sym c.is_printable.ensures ∙ t) c.self.view_is));
    }
