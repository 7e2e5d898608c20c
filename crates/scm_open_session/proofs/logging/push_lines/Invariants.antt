use Rattle.std.proofs.Common.{◌≡◌, ◌++◌, take}
use Rattle.std.specs.List.{flat_map}
use Rattle.scm_front.specs.declared.logging.LoggedCall.{LoggedCall}
use Rattle.scm_open_session.specs.Logging.{line_of}
use Rattle.scm_open_session.proofs.logging.push_lines.Given as goal

abbrev pub invariant-loop-call : goal.invariant-loop-call
invariant-loop-call l = l.script.items ≡ l.fn.script.items ++ flat_map (λ (call : LoggedCall). line_of call) (take l.call-index l.calls)
