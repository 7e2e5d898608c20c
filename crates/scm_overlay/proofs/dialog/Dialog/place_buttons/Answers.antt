use Rattle.std.proofs.Common.{◌-ℤ◌, pos, FitsSigned, w64}
use Rattle.std.proofs.lemmas.Int.{to_z-of_z}
use Rattle.scm_cells.specs.Rect.{end_x_of, end_y_of}
use Rattle.scm_render.proofs.StepLemmas.{InRange-fits}
use Rattle.scm_overlay.proofs.DialogPlaceLemmas.{last-fits}
use Rattle.scm_overlay.proofs.dialog.Dialog.place_buttons.Goals as goal

pub overflow_sub-end_x : goal.overflow_sub-end_x
overflow_sub-end_x g c =
    let fits = c.requires.place in
    let fx : FitsSigned w64 (end_x_of c.args.place) = InRange-fits _ fits.end_x in
    rw c.end_x.ensures (simp to_z-of_z (last-fits _ fits.end_x))

pub overflow_sub-end_y : goal.overflow_sub-end_y
overflow_sub-end_y g c =
    let fits = c.requires.place in
    let fy : FitsSigned w64 (end_y_of c.args.place) = InRange-fits _ fits.end_y in
    rw c.end_y.ensures (simp to_z-of_z (last-fits _ fits.end_y))

pub place_from_right-requires : goal.place_from_right-requires
place_from_right-requires g c =
    let fits = c.requires.place in
    let fx : FitsSigned w64 (end_x_of c.args.place) = InRange-fits _ fits.end_x in
    let fy : FitsSigned w64 (end_y_of c.args.place) = InRange-fits _ fits.end_y in
    let lx : FitsSigned w64 (end_x_of c.args.place -ℤ pos 1) = last-fits _ fits.end_x in
    let ly : FitsSigned w64 (end_y_of c.args.place -ℤ pos 1) = last-fits _ fits.end_y in
    rw (c.end_x.ensures, c.end_y.ensures) (simp to_z-of_z c.requires.buttons)

pub returns : goal.returns
returns g c =
    let fits = c.requires.place in
    let fx : FitsSigned w64 (end_x_of c.args.place) = InRange-fits _ fits.end_x in
    let fy : FitsSigned w64 (end_y_of c.args.place) = InRange-fits _ fits.end_y in
    let lx : FitsSigned w64 (end_x_of c.args.place -ℤ pos 1) = last-fits _ fits.end_x in
    let ly : FitsSigned w64 (end_y_of c.args.place -ℤ pos 1) = last-fits _ fits.end_y in
    record { ok = simp to_z-of_z at (rw (c.end_x.ensures, c.end_y.ensures) at c.place_from_right.ensures.ok) }
