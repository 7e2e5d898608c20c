use Rattle.std.proofs.Common.{sym, ◌∙◌}
use Rattle.scm_terminal.proofs.SentLemmas.{stays-far}
use Rattle.scm_terminal.proofs.sent.stays_on_row.Goals as goal

pub returns-then-symbol-room : goal.returns-then-symbol-room
returns-then-symbol-room c =
    stays-far c.args.symbol.now c.args.width c.args.column c.utf8.symbol c.requires c.if-symbol-room.true (sym c.joins_row_above.ensures ∙ c.if-joins_row_above.false)
