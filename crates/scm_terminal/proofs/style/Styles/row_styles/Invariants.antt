use Rattle.std.proofs.Common.{◌≡◌, ℕ, ◌<◌, get_or}
use Rattle.scm_terminal.specs.Style.{plain_style}
use Rattle.scm_terminal.proofs.style.Styles.row_styles.Given as goal

abbrev pub invariant-loop-style : goal.invariant-loop-style
invariant-loop-style g l = record {
  column : l.column ≡ l.style-index;
  shown : (k : ℕ) → k < l.style-index → get_or l.styles k plain_style ≡ g.Self.Styles.styled l.self l.row k;
}
