use Rattle.std.proofs.Common.{arith}
use Rattle.scm_types.proofs.LimitLemmas.{items_room}
use Rattle.scm_rows.specs.Context.{place}
use Rattle.scm_rows.proofs.HeightLemmas.{height-le}
use Rattle.scm_layout.proofs.section_rows.visible_height.Goals as goal

pub shown_height-requires : goal.shown_height-requires
shown_height-requires c =
    let a = c.args in
    omega (arith, items_room, c.requires, height-le (place a.total a.index) a.is_open a.section.now)
