use Rattle.std.proofs.Common.{sym}
use Rattle.scm_layout_index.proofs.key_pieces.section_of_key.Goals as goal

pub section_at-requires : goal.section_at-requires
section_at-requires c = c.requires.sections c.args.key.file_idx c.in_ok-file_rows.file_rows.now (sym c.in_ok-file_rows.ensures)
