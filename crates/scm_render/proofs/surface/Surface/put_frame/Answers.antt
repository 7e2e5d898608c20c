use Rattle.std.proofs.Common.{arith, ◌≤◌, ap, FitsSigned, w64, length, take}
use Rattle.std.proofs.lemmas.Int.{to_z-of_z}
use Rattle.std.proofs.lemmas.List.{length-take}
use Rattle.scm_cells.proofs.RectLemmas.{places}
use Rattle.scm_render.proofs.DrawLemmas.{frame-made}
use Rattle.scm_render.proofs.surface.Surface.put_frame.Goals as goal

pub put_lines-requires-clause-end : goal.put_lines-requires-clause-end
put_lines-requires-clause-end c =
    let fy : FitsSigned w64 c.body_room-room.result.y = omega (arith, places, c.body_room-room.ensures.in_range) in
    let few : length (take c.min.result c.args.body.now) ≤ c.body_room-room.result.height = omega (arith, c.min.ensures, length-take c.min.result c.args.body.now) in
    simp to_z-of_z (record { low = omega (arith, places, c.body_room-room.ensures.in_range); high = omega (arith, places, c.body_room-room.ensures.in_range) })

pub returns-clause-ok : goal.returns-clause-ok
returns-clause-ok c =
    let fx : FitsSigned w64 c.title_room-top.result.x = omega (arith, places, c.title_room-top.ensures.in_range) in
    let fy : FitsSigned w64 c.title_room-top.result.y = omega (arith, places, c.title_room-top.ensures.in_range) in
    let gx : FitsSigned w64 c.body_room-room.result.x = omega (arith, places, c.body_room-room.ensures.in_range) in
    let gy : FitsSigned w64 c.body_room-room.result.y = omega (arith, places, c.body_room-room.ensures.in_range) in
    let titled = simp to_z-of_z at c.in_ok-put_text.ensures.ok in
    let lined = simp to_z-of_z at c.in_ok-put_lines.ensures.ok in
    frame-made c.args.within c.args.frame c.intersect.result c.intersect-2.result c.intersect-3.result c.title_room-top.result c.body_room-room.result c.args.title.now c.args.body.now _ _ _ _ _
    c.intersect.ensures.fields c.title_room-top.ensures.room c.intersect-2.ensures.fields c.body_room-room.ensures.room c.intersect-3.ensures.fields
    (ap (λ n. take n c.args.body.now) c.min.ensures)
    c.in_ok-fill.ensures.ok titled lined
