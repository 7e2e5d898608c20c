use Rattle.std.proofs.Common.{◌≡◌}
use Rattle.std.specs.Str.{chars}
use Rattle.std.specs.Str.Iter.{chars_rest}
use Rattle.scm_cells.proofs.CharacterLemmas.{char_written}
use Rattle.scm_cells.proofs.FrameTextLemmas.{IsAt}
use Rattle.scm_cells.proofs.MapFrom.{so_far}
use Rattle.scm_cells.proofs.row.write_characters.Given as goal

abbrev pub invariant-loop-column : goal.invariant-loop-column
invariant-loop-column l = record { at : IsAt l.text l.column-index (chars_rest l.characters); columns : l.columns ≡ so_far (char_written (chars l.text)) l.initial.columns l.column-index }
