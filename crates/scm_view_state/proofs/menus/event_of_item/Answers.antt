use Rattle.std.proofs.Common.{◌≡◌, ◌∙◌, ◌<◌, length, refl, ap, sym, arith}
use Rattle.std.specs.Prelude.{Some, slice_get}
use Rattle.std.proofs.lemmas.Option.{slice_get-map, slice_get-get_or}
use Rattle.scm_view_state.proofs.menus.event_of_item.Goals as goal

pub returns-in-Some : goal.returns-in-Some
returns-in-Some c =
    let rows = c.rows_of_menu.result.now in
    let row = c.in-Some.field-0.now in
    let within : c.args.item < length rows = grind (arith, c.in-Some.ensures.lookup.0) in
    let here : slice_get rows c.args.item ≡ Some row = slice_get-get_or rows c.args.item row within ∙ ap Some (sym c.in-Some.ensures.lookup.1) in
    rw (← c.rows_of_menu.ensures, slice_get-map, here) refl
