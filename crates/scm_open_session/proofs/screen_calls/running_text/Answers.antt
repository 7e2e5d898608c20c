use Rattle.std.proofs.Common.{◌≡◌, ℕ, List, rules, subst}
use Rattle.std.specs.Prelude.{IfSome, string_bytes}
use Rattle.scm_open_session.proofs.ScreenCallLemmas.{text-of-layer}
use Rattle.scm_open_session.proofs.screen_calls.running_text.Goals as goal

pub returns-in-Layered : goal.returns-in-Layered
returns-in-Layered c =
    subst (λ (bytes : List ℕ). IfSome c.ok-in-Layered.result (λ text. string_bytes text ≡ bytes))
    (text-of-layer c.args.session.now c.args.painters.now c.in-Layered.view c.as_str.result.now c.in-Layered.is c.as_str.ensures)
    (search rules)
