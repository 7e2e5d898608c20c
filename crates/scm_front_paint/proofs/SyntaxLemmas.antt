-- Runs of a line, one by one.
use Rattle.std.proofs.Common.{◌≡◌, ℕ, ◌+◌, ◌<◌, List, [], ◌∷◌, ◌++◌, length, take, get_or, refl, sym, ap, ◌∙◌}
use Rattle.std.proofs.lemmas.List.{take_more}
use Rattle.scm_cells.specs.declared.style.Style.{Style}
use Rattle.scm_front_paint.specs.declared.runs.Run.{Run}
use Rattle.scm_front_paint.specs.Syntax.{in_run, with_runs}

-- runs behind others
runs-behind : (runs more : List Run) (c : ℕ) (style : Style) → with_runs (runs ++ more) c style ≡ with_runs more c (with_runs runs c style)
runs-behind [] more c style = refl
runs-behind (run ∷ runs) more c style = runs-behind runs more c (in_run run c style)

-- one run more
pub one-run : (runs : List Run) (i : ℕ) (d : Run) (c : ℕ) (style : Style) → i < length runs
    → in_run (get_or runs i d) c (with_runs (take i runs) c style) ≡ with_runs (take (i + 1) runs) c style
one-run runs i d c style h =
    sym (ap (λ (list : List Run). with_runs list c style) (take_more runs i d h) ∙ runs-behind (take i runs) (get_or runs i d ∷ []) c style)
