use Rattle.std.proofs.Common.{◌≡◌, ◌∙◌, ◌+◌, ◌<◌, suc, sym, ap, arith, length}
use Rattle.std.specs.Prelude.{slice_get}
use Rattle.std.specs.List.{flat_map}
use Rattle.scm_document.specs.RowIndex.{message_parts}
use Rattle.scm_document.specs.Pieces.{piece_parts}
use Rattle.scm_document.proofs.IndexLemmas.{message-at, length-message, get-first, get-rest}
use Rattle.scm_view.proofs.row_index.RowIndex.place.Goals as goal

pub returns-in-None-checked_sub : goal.returns-in-None-checked_sub
returns-in-None-checked_sub c =
    let left = c.in-Some.left in
    let m = c.self.inside.message in
    let row : c.args.row ≡ suc left = omega (arith, c.in-Some.ensures) in
    let few : left < m = omega (arith, c.in-None-checked_sub.ensures) in
    let inside : left < length (message_parts 0 m) = omega (arith, length-message 0 m, few) in
    let same : left ≡ 0 + left = omega arith in
    rw (row, sym c.self.view_is) (message-at 0 m left left few same ∙ sym (get-first (message_parts 0 m) (flat_map piece_parts c.self.inside.pieces.items) left inside))

pub returns-in-Some-checked_sub : goal.returns-in-Some-checked_sub
returns-in-Some-checked_sub c =
    let left = c.in-Some.left in
    let m = c.self.inside.message in
    let row : c.args.row ≡ suc left = omega (arith, c.in-Some.ensures) in
    let far : left ≡ length (message_parts 0 m) + c.in-Some-checked_sub.below = omega (arith, length-message 0 m, c.in-Some-checked_sub.ensures) in
    rw (row, sym c.self.view_is) (c.place_in.ensures ∙ ap (λ ss. slice_get (flat_map piece_parts ss) c.in-Some-checked_sub.below) c.as_slice.ensures.value ∙ sym (get-rest (message_parts 0 m) (flat_map piece_parts c.self.inside.pieces.items) left c.in-Some-checked_sub.below far))
