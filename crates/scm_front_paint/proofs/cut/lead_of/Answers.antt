use Rattle.std.proofs.Common.{ℕ, List, ap, ◌∙◌, sym, Option, Bor, option_map}
use Rattle.scm_front_paint.specs.Source.{symbols_in}
use Rattle.scm_front_paint.proofs.CutLemmas.{leads}
use Rattle.scm_front_paint.proofs.cut.lead_of.Goals as goal

pub returns-in-Some-clause-is_lead : goal.returns-in-Some-clause-is_lead
returns-in-Some-clause-is_lead c =
    leads (symbols_in c.args.source.now) c.args.x c.args.row c.loop-column.column c.loop-column.auto.column c.loop-column.invariant c.in-Some._symbol.now
    (sym c.symbol.ensures ∙ ap (λ (o : Option (Bor (List ℕ))). option_map (λ s. s.now) o) c.in-Some.is)
