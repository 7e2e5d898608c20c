use Rattle.scm_terminal.proofs.ControlLemmas.{holds_no_control}
use Rattle.scm_terminal.proofs.laws.symbols_hold_no_control.Goals as goal

pub returns : goal.returns
returns c = λ symbol columns. holds_no_control symbol columns
