use Rattle.std.proofs.Common.{arith, ◌∙◌, sym, ap, FitsSigned, w64, append-nil, ◌++◌, ◌-◌}
use Rattle.std.specs.Prelude.{pos, ◌+ℤ◌, string_bytes, encode_utf8}
use Rattle.std.proofs.lemmas.Int.{to_z-of_z}
use Rattle.scm_cells.proofs.RectLemmas.{places}
use Rattle.scm_render.proofs.DrawLemmas.{row_text-step, row_text-none}
use Rattle.scm_render.proofs.filling.Filling.write_row.Goals as goal

pub loop-offset-preserved : goal.loop-offset-preserved
loop-offset-preserved c =
    let fx : FitsSigned w64 c.args.x = c.ranges.x in
    let fy : FitsSigned w64 c.args.y = c.ranges.y in
    let at = simp to_z-of_z at c.strict_add_unsigned.ensures in
    let fc : FitsSigned w64 (c.args.x +ℤ pos c.loop-offset.offset) = omega (arith, places) in
    let symbol = simp to_z-of_z at (rw at at c.symbol.ensures) in
    let so_far = simp to_z-of_z at c.loop-offset.invariant in
    simp to_z-of_z (row_text-step c.args.self c.args.x c.args.y c.args.width c.loop-offset.offset (string_bytes c.loop-offset.text) (string_bytes c.push.new.self) _ (omega arith) (c.in_ok-push.ensures.bytes ∙ ap (λ s. string_bytes c.loop-offset.text ++ encode_utf8 s) symbol) so_far)

pub returns : goal.returns
returns c =
    let fx : FitsSigned w64 c.args.x = c.ranges.x in
    let fy : FitsSigned w64 c.args.y = c.ranges.y in
    let so_far = simp to_z-of_z at c.loop-offset.invariant in
    let end = row_text-none c.args.self (c.args.x +ℤ pos c.loop-offset.offset) c.args.y (c.args.width - c.loop-offset.offset) (omega arith) in
    sym (append-nil (string_bytes c.loop-offset.text)) ∙ ap (λ w. string_bytes c.loop-offset.text ++ w) (sym end) ∙ so_far
