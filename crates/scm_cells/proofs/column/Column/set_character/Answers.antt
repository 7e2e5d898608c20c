use Rattle.scm_cells.proofs.FrameTextLemmas.{in_place}
use Rattle.scm_cells.proofs.column.Column.set_character.Goals as goal

pub returns : goal.returns
returns c = in_place c.args.character _ c.requires
