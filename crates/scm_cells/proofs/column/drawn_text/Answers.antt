use Rattle.std.proofs.Common.{sym, ap}
use Rattle.std.specs.Char.{encode_utf8}
use Rattle.scm_cells.specs.Cell.{drawn_text}
use Rattle.scm_cells.proofs.column.drawn_text.Goals as goal

pub returns-in-9472 : goal.returns-in-9472
unfolding encode_utf8
returns-in-9472 c = ap drawn_text (sym c.in-9472.is)

pub returns-in-9474 : goal.returns-in-9474
unfolding encode_utf8
returns-in-9474 c = ap drawn_text (sym c.in-9474.is)

pub returns-in-9484 : goal.returns-in-9484
unfolding encode_utf8
returns-in-9484 c = ap drawn_text (sym c.in-9484.is)

pub returns-in-9488 : goal.returns-in-9488
unfolding encode_utf8
returns-in-9488 c = ap drawn_text (sym c.in-9488.is)

pub returns-in-9492 : goal.returns-in-9492
unfolding encode_utf8
returns-in-9492 c = ap drawn_text (sym c.in-9492.is)

pub returns-in-9496 : goal.returns-in-9496
unfolding encode_utf8
returns-in-9496 c = ap drawn_text (sym c.in-9496.is)

pub returns-in-177 : goal.returns-in-177
unfolding encode_utf8
returns-in-177 c = ap drawn_text (sym c.in-177.is)

pub returns-in-8226 : goal.returns-in-8226
unfolding encode_utf8
returns-in-8226 c = ap drawn_text (sym c.in-8226.is)

pub returns-in-8230 : goal.returns-in-8230
unfolding encode_utf8
returns-in-8230 c = ap drawn_text (sym c.in-8230.is)

pub returns-in-8592 : goal.returns-in-8592
unfolding encode_utf8
returns-in-8592 c = ap drawn_text (sym c.in-8592.is)

pub returns-in-8593 : goal.returns-in-8593
unfolding encode_utf8
returns-in-8593 c = ap drawn_text (sym c.in-8593.is)

pub returns-in-8594 : goal.returns-in-8594
unfolding encode_utf8
returns-in-8594 c = ap drawn_text (sym c.in-8594.is)

pub returns-in-8595 : goal.returns-in-8595
unfolding encode_utf8
returns-in-8595 c = ap drawn_text (sym c.in-8595.is)

pub returns-in-8942 : goal.returns-in-8942
unfolding encode_utf8
returns-in-8942 c = ap drawn_text (sym c.in-8942.is)

pub returns-in-9166 : goal.returns-in-9166
unfolding encode_utf8
returns-in-9166 c = ap drawn_text (sym c.in-9166.is)

pub returns-in-9679 : goal.returns-in-9679
unfolding encode_utf8
returns-in-9679 c = ap drawn_text (sym c.in-9679.is)

pub returns-in-9680 : goal.returns-in-9680
unfolding encode_utf8
returns-in-9680 c = ap drawn_text (sym c.in-9680.is)

pub returns-in-65533 : goal.returns-in-65533
unfolding encode_utf8
returns-in-65533 c = ap drawn_text (sym c.in-65533.is)
