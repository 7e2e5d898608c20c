use Rattle.std.proofs.Common.{length, arith}
use Rattle.scm_types.proofs.LimitLemmas.{items_room}
use Rattle.scm_layout.proofs.RowLemmas.{sections-fit}
use Rattle.scm_layout.proofs.file_rows.FileRows.refold.Goals as goal

pub height_with-self-requires : goal.height_with-self-requires
height_with-self-requires c =
    let sections = c.args.file.now.sections in
    let fit = sections-fit c.args.unfolded.keys.now c.args.key (length sections) sections in
    let is = rw c.as_slice-sections.ensures at c.refold-height.ensures.height in
    omega (arith, items_room, c.requires.fits)
