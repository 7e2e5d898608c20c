use Rattle.scm_open_session.proofs.ScreenCallLemmas.{symbol-of-layer}
use Rattle.scm_open_session.proofs.screen_calls.write_running_symbol.Goals as goal

pub returns-in-Layered : goal.returns-in-Layered
returns-in-Layered c =
    symbol-of-layer c.args.session.now c.args.painters.now c.in-Layered.view c.as_str-accept.result.now c.in-Layered.is c.as_str-accept.ensures
    c.args.row c.args.column c.args.out.now c.write_view_symbol.new.out c.write_view_symbol.result c.write_view_symbol.ensures
