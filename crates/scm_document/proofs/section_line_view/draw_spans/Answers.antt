use Rattle.std.proofs.Common.{rules, ◌∙◌, FitsSigned, w64}
use Rattle.std.proofs.lemmas.Int.{to_z-of_z}
use Rattle.scm_cells.specs.Replaced.{line_pieces}
use Rattle.scm_document.specs.Rows.{line_texts}
use Rattle.scm_document.proofs.VisibleLemmas.{one-span, shown-behind, shown-in-range, shown-drawn}
use Rattle.scm_document.proofs.section_line_view.draw_spans.Goals as goal

pub show_text-requires : goal.show_text-requires
show_text-requires c =
    let fx : FitsSigned w64 c.args.x = c.ranges.x in
    let fy : FitsSigned w64 c.args.y = c.ranges.y in
    let front = one-span _ _ _ c.new-spans.ensures.items c.in_ok-push.ensures.items in
    let added = simp to_z-of_z at c.in_ok-push_visible_spans.ensures.ok in
    let shown = shown-behind c.args.viewport.now.canvas c.args.x c.args.front.now _ _ (line_pieces c.args.line.now) front added in
    rw c.as_slice.ensures.value (simp to_z-of_z (shown-in-range c.args.viewport.now.canvas c.args.x c.args.y _ (line_texts c.args.front.now c.args.line.now) shown c.requires))

pub returns : goal.returns
returns c =
    let fx : FitsSigned w64 c.args.x = c.ranges.x in
    let fy : FitsSigned w64 c.args.y = c.ranges.y in
    let front = one-span _ _ _ c.new-spans.ensures.items c.in_ok-push.ensures.items in
    let added = simp to_z-of_z at c.in_ok-push_visible_spans.ensures.ok in
    let shown = shown-behind c.args.viewport.now.canvas c.args.x c.args.front.now _ _ (line_pieces c.args.line.now) front added in
    record {
      ok = rw c.as_slice.ensures.value at (simp to_z-of_z at c.in_ok-show_text.ensures.ok) ∙ shown-drawn c.args.viewport.now.canvas c.args.x c.args.y _ (line_texts c.args.front.now c.args.line.now) shown;
      counts = search rules;
      rect = search rules;
      err = search rules;
    }
