use Rattle.std.proofs.Common.{◌≡◌, pos, arith, length, w64, to_z}
use Rattle.std.proofs.lemmas.Int.{to_z_pos}
use Rattle.scm_types.proofs.LimitLemmas.{scroll_room}
use Rattle.scm_record.proofs.FrameLemmas.{cleared-screen, drawn_is_map, drawn-rows}
use Rattle.scm_record.proofs.frame.render.Goals as goal

pub render_top_level-requires-clause-place : goal.render_top_level-requires-clause-place
render_top_level-requires-clause-place c =
    let y : to_z w64 c.args.scroll ≡ pos c.args.scroll = to_z_pos w64 c.args.scroll (omega (arith, c.requires.scroll, scroll_room)) in
    rw (y, c.clear.ensures, cleared-screen c.cleared_grids_are_screens.ensures c.args.grid.now.width (length c.args.grid.now.rows) c.args.scroll)
    (c.cleared_grids_are_screens.ensures.in_range c.args.grid.now.width (length c.args.grid.now.rows) c.args.scroll
    (omega (arith, c.width-width.ensures.value, c.if-prove.false)) (omega (arith, c.height-height.ensures.value, c.if-prove-2.false)) c.requires.scroll)

pub render_top_level-requires-clause-picture : goal.render_top_level-requires-clause-picture
render_top_level-requires-clause-picture c =
    let y : to_z w64 c.args.scroll ≡ pos c.args.scroll = to_z_pos w64 c.args.scroll (omega (arith, c.requires.scroll, scroll_room)) in
    rw (y, c.clear.ensures, c.cleared_grids_are_screens.ensures.cleared c.args.grid.now.width (length c.args.grid.now.rows) c.args.scroll)
    (c.requires.in_range c.args.grid.now.width (length c.args.grid.now.rows)
    (omega (arith, c.width-width.ensures.value, c.if-prove.false)) (omega (arith, c.height-height.ensures.value, c.if-prove-2.false)))

pub returns-clause-rows : goal.returns-clause-rows
returns-clause-rows c =
    let y : to_z w64 c.args.scroll ≡ pos c.args.scroll = to_z_pos w64 c.args.scroll (omega (arith, c.requires.scroll, scroll_room)) in
    drawn-rows c.cleared_grids_are_screens.ensures c.args.grid.now.width (length c.args.grid.now.rows) c.args.scroll c.args.view.now c.clear.new.self
    (to_z w64 c.args.scroll) c.render_top_level.new.grid.rows c.clear.ensures y c.in_ok-boxes.ensures.rows

pub returns-clause-ok : goal.returns-clause-ok
returns-clause-ok c =
    let y : to_z w64 c.args.scroll ≡ pos c.args.scroll = to_z_pos w64 c.args.scroll (omega (arith, c.requires.scroll, scroll_room)) in
    drawn_is_map c.cleared_grids_are_screens.ensures c.args.grid.now.width (length c.args.grid.now.rows) c.args.scroll c.args.view.now c.clear.new.self
    (to_z w64 c.args.scroll) c.in_ok-boxes.boxes (c.maps_have_last_boxes.ensures c.ids_are_told_apart.ensures) c.clear.ensures y c.in_ok-boxes.ensures.boxes
