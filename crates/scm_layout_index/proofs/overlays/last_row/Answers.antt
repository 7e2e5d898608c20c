use Rattle.std.proofs.Common.{rules}
use Rattle.scm_layout_index.proofs.OverlayLemmas.{past-last}
use Rattle.scm_layout_index.proofs.overlays.last_row.Goals as goal

pub returns : goal.returns
returns c = λ y low high. past-last c.args.placed.rect.y c.args.placed.rect.height y low (search rules)
