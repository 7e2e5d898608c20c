use Rattle.std.proofs.Common.{◌≡◌, ◌∙◌, sym, ap, ℕ, List, [], get_or}
use Rattle.std.specs.Prelude.{max}
use denote.Ref.{Bor}
use Rattle.scm_cells.specs.Clusters.{text_width}
use Rattle.scm_overlay.proofs.MenuPartsLemmas.{widest_line-more, widest_line-end}
use Rattle.scm_overlay.proofs.dialog.widest_line.Goals as goal

abbrev none : Bor (List ℕ)
none = record { ref_ptr = (0, 0); now = [] }

pub loop-line-preserved : goal.loop-line-preserved
loop-line-preserved c =
    let wide : c.max-widest.result ≡ max c.loop-line.widest (text_width (get_or c.args.lines.now c.loop-line.line-index none).now) = c.max-widest.ensures ∙ ap (max c.loop-line.widest) c.text_width.ensures.value in
    rw wide (widest_line-more c.args.lines.now c.loop-line.line-index c.loop-line.widest none c.loop-line-test.true ∙ c.loop-line.invariant)

pub returns : goal.returns
returns c = sym (widest_line-end c.args.lines.now c.loop-line.line-index c.loop-line.widest c.loop-line-test.false) ∙ c.loop-line.invariant
