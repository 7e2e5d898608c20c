use Rattle.std.proofs.Common.{length, sym}
use Rattle.std.proofs.lemmas.List.{length-map}
use Rattle.scm_render.specs.Drawing.{body_texts}
use Rattle.scm_overlay.specs.Dialogs.{widest_line}
use Rattle.scm_overlay.proofs.DialogPlaceLemmas.{centred-held}
use Rattle.scm_overlay.proofs.dialog.dialog_place.Goals as goal

pub returns-clause-place : goal.returns-clause-place
returns-clause-place c =
    let lines = c.args.lines.now in
    let count = sym (length-map lines (λ line. line.now)) in
    let held = centred-held c.args.rect (widest_line (body_texts lines)) (length (body_texts lines)) c.requires in
    rw (c.saturating_add.ensures, c.saturating_add-2.ensures, c.widest_line.ensures, count, held) at c.centered_rect.ensures.value
