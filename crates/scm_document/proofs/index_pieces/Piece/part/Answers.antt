use Rattle.std.proofs.Common.{◌≤◌, ◌<◌, ◌-◌, length, sym, arith}
use Rattle.std.proofs.lemmas.Option.{slice_get_past}
use Rattle.scm_document.specs.RowIndex.{section_parts}
use Rattle.scm_document.proofs.IndexLemmas.{length-parts, part-at}
use Rattle.scm_document.proofs.index_pieces.Piece.part.Goals as goal

pub returns-then-row-saturating_sub : goal.returns-then-row-saturating_sub
returns-then-row-saturating_sub c =
    let s = c.in-Section.section in
    let inside : c.args.row < s.end - s.top = omega (arith, c.saturating_sub.ensures, c.if-row-saturating_sub.true) in
    rw c.in-Section.is (part-at s.key 0 (s.end - s.top) c.args.row c.args.row inside (omega arith))

pub returns-else-row-saturating_sub : goal.returns-else-row-saturating_sub
returns-else-row-saturating_sub c =
    let s = c.in-Section.section in
    let past : length (section_parts s.key 0 (s.end - s.top)) ≤ c.args.row = omega (arith, length-parts s.key 0 (s.end - s.top), c.saturating_sub.ensures, c.if-row-saturating_sub.false) in
    rw c.in-Section.is (sym (slice_get_past (section_parts s.key 0 (s.end - s.top)) c.args.row past))
