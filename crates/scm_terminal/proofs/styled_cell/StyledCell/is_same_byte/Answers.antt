use Rattle.std.specs.Prelude.{string_bytes}
use Rattle.scm_terminal.proofs.StyledCellLemmas.{same-byte}
use Rattle.scm_terminal.proofs.styled_cell.StyledCell.is_same_byte.Goals as goal

pub returns : goal.returns
returns c =
    let own = c.self.inside in
    same-byte own.byte c.args.byte own.is_first (string_bytes own.symbol) own.style c.args.style c.code.result c.code-2.result c.args.self.now c.requires c.code.ensures c.code-2.ensures c.self.view_is
