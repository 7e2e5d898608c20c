use Rattle.std.proofs.Common.{◌∙◌, ap, sym}
use Rattle.std.specs.Prelude.{[], ◌∷◌, ◌==◌, string_bytes}
use Rattle.scm_terminal.proofs.StyledCellLemmas.{same-first, same-if-first, shows-byte, shows-text, byte-decides, letter-decides}
use Rattle.scm_terminal.specs.StyledCell.{letter_of}
use Rattle.scm_terminal.proofs.styled_cell.StyledCell.is_letter.Goals as goal

pub returns-then-is_printable : goal.returns-then-is_printable
returns-then-is_printable c =
    let own = c.self.inside in
    same-first (own.byte ∷ []) (c.args.byte ∷ []) own.style c.args.style (own.byte == c.args.byte) c.code.result c.code-2.result c.args.self.now (byte-decides own.byte c.args.byte) c.code.ensures c.code-2.ensures
    (shows-byte own.byte own.is_first _ own.style c.args.self.now (sym c.is_printable.ensures ∙ c.if-is_printable.true) c.self.view_is)

pub returns : goal.returns
returns c =
    let own = c.self.inside in
    let letter = c.letter_of.ensures ∙ ap letter_of c.as_str.ensures.value in
    let says = rw (← letter) at (letter-decides (string_bytes own.symbol) c.args.byte c.requires) in
    same-if-first own.is_first _ (c.args.byte ∷ []) own.style c.args.style (c.letter_of.result == c.args.byte) c.code.result c.code-2.result c.args.self.now says c.code.ensures c.code-2.ensures
    (shows-text own.byte own.is_first _ own.style c.args.self.now (sym c.is_printable.ensures ∙ c.if-is_printable.false) c.self.view_is)
