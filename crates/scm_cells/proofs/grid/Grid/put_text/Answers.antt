use Rattle.std.proofs.Common.{◌∙◌, ◌<◌, ap, sym, subst, arith, length, List, set, rules, FitsSigned, w64}
use Rattle.std.proofs.lemmas.Int.{to_z-of_z}
use Rattle.scm_cells.specs.Cell.{Cell}
use Rattle.scm_cells.specs.Row.{IsWhole, put}
use Rattle.scm_cells.specs.Screen.{Screen, put_on}
use Rattle.scm_cells.proofs.PutLemmas.{length-put}
use Rattle.scm_cells.proofs.ScreenLemmas.{row-read, whole-read, length-read, rows-unchanged, IsScreen-set, length-with_items}
use Rattle.scm_cells.proofs.WholeLemmas.{IsWhole-put}
use Rattle.scm_cells.proofs.WrittenLemmas.{on_err}
use Rattle.scm_cells.proofs.grid.Grid.put_text.Goals as goal

pub put_text-requires-clause-width : goal.put_text-requires-clause-width
put_text-requires-clause-width c =
    let rows = c.self.inside.rows.items in
    let same = ap (λ (s : Screen). length s.rows) c.self.view_is in
    let inside : c.args.row < length rows = omega (arith, same) in
    let size = length-read rows c.args.row c.self.inside.width c.index_mut-columns.result.now inside c.index_mut-columns.ensures.value c.self.invariant.screen in
    omega (arith, size, c.self.invariant.screen.width)

pub put_text-requires-clause-high : goal.put_text-requires-clause-high
put_text-requires-clause-high c =
    let rows = c.self.inside.rows.items in
    let same = ap (λ (s : Screen). length s.rows) c.self.view_is in
    let inside : c.args.row < length rows = omega (arith, same) in
    let wide = ap (λ (s : Screen). s.width) c.self.view_is in
    let size = length-read rows c.args.row c.self.inside.width c.index_mut-columns.result.now inside c.index_mut-columns.ensures.value c.self.invariant.screen in
    omega (arith, wide, size, c.requires.high)

pub put_text-requires-clause-laid : goal.put_text-requires-clause-laid
put_text-requires-clause-laid c =
    let rows = c.self.inside.rows.items in
    let same = ap (λ (s : Screen). length s.rows) c.self.view_is in
    let inside : c.args.row < length rows = omega (arith, same) in
    let size = length-read rows c.args.row c.self.inside.width c.index_mut-columns.result.now inside c.index_mut-columns.ensures.value c.self.invariant.screen in
    ap length c.as_mut_slice-laid.ensures.value ∙ c.self.invariant.laid ∙ sym size

pub put_text-requires-clause-whole : goal.put_text-requires-clause-whole
put_text-requires-clause-whole c =
    let rows = c.self.inside.rows.items in
    let same = ap (λ (s : Screen). length s.rows) c.self.view_is in
    let inside : c.args.row < length rows = omega (arith, same) in
    whole-read rows c.args.row c.self.inside.width c.index_mut-columns.result.now inside c.index_mut-columns.ensures.value c.self.invariant.screen

pub invariant_of-self : goal.invariant_of-self
invariant_of-self c =
    let rows = c.self.inside.rows.items in
    let same = ap (λ (s : Screen). length s.rows) c.self.view_is in
    let inside : c.args.row < length rows = omega (arith, same) in
    let size = length-read rows c.args.row c.self.inside.width c.index_mut-columns.result.now inside c.index_mut-columns.ensures.value c.self.invariant.screen in
    let whole = whole-read rows c.args.row c.self.inside.width c.index_mut-columns.result.now inside c.index_mut-columns.ensures.value c.self.invariant.screen in
    record {
      screen = IsScreen-set _ c.args.row c.put_text.new.self c.self.invariant.screen (ap length c.in_err-rest.ensures.err ∙ size) (subst IsWhole (sym c.in_err-rest.ensures.err) whole);
      laid = length-with_items c.self.inside.laid c.put_text.new.laid c.self.inside.width (c.put_text.auto.laid ∙ c.as_mut_slice-laid.ensures.len)
          (c.put_text.auto.laid ∙ ap length c.as_mut_slice-laid.ensures.value ∙ c.self.invariant.laid);
    }

pub invariant_of-self-2 : goal.invariant_of-self-2
invariant_of-self-2 c =
    let fits : FitsSigned w64 c.args.column = search rules in
    let rows = c.self.inside.rows.items in
    let same = ap (λ (s : Screen). length s.rows) c.self.view_is in
    let inside : c.args.row < length rows = omega (arith, same) in
    let wide = ap (λ (s : Screen). s.width) c.self.view_is in
    let size = length-read rows c.args.row c.self.inside.width c.index_mut-columns.result.now inside c.index_mut-columns.ensures.value c.self.invariant.screen in
    let whole = whole-read rows c.args.row c.self.inside.width c.index_mut-columns.result.now inside c.index_mut-columns.ensures.value c.self.invariant.screen in
    let made = simp to_z-of_z at c.in_ok-rest.ensures.ok in
    record {
      screen = IsScreen-set _ c.args.row c.put_text.new.self c.self.invariant.screen
          (ap length made ∙ length-put c.index_mut-columns.result.now c.args.column c.args.text.now c.args.low c.args.high (omega (arith, wide, size, c.requires.high)) ∙ size)
          (subst IsWhole (sym made) (IsWhole-put _ c.args.column c.args.text.now c.args.low c.args.high c.utf8.text whole));
      laid = length-with_items c.self.inside.laid c.put_text.new.laid c.self.inside.width (c.put_text.auto.laid ∙ c.as_mut_slice-laid.ensures.len)
          (c.put_text.auto.laid ∙ ap length c.as_mut_slice-laid.ensures.value ∙ c.self.invariant.laid);
    }

pub returns-in_err-rest-clause-unchanged : goal.returns-in_err-rest-clause-unchanged
returns-in_err-rest-clause-unchanged c =
    let rows = c.self.inside.rows.items in
    let same = ap (λ (s : Screen). length s.rows) c.self.view_is in
    let inside : c.args.row < length rows = omega (arith, same) in
    let read = row-read rows c.args.row c.index_mut-columns.result.now inside c.index_mut-columns.ensures.value in
    on_err c.from_residual.result (ap (λ (rs : List (List Cell)). record { width = c.self.inside.width; rows = rs; counts = record { rows = c.self.inside.rows_drawn; calls = c.self.inside.calls } })
    (rows-unchanged rows c.args.row c.put_text.new.self (c.in_err-rest.ensures.err ∙ read))
    ∙ c.self.view_is)

pub returns-clause-ok : goal.returns-clause-ok
returns-clause-ok c =
    let fits : FitsSigned w64 c.args.column = search rules in
    let rows = c.self.inside.rows.items in
    let same = ap (λ (s : Screen). length s.rows) c.self.view_is in
    let inside : c.args.row < length rows = omega (arith, same) in
    let read = row-read rows c.args.row c.index_mut-columns.result.now inside c.index_mut-columns.ensures.value in
    let made = simp to_z-of_z at c.in_ok-rest.ensures.ok in
    ap (λ (rs : List (List Cell)). record { width = c.self.inside.width; rows = rs; counts = record { rows = c.self.inside.rows_drawn; calls = c.self.inside.calls } })
    (ap (set rows c.args.row) (made ∙ ap (λ row. put row c.args.column c.args.text.now c.args.low c.args.high) read))
    ∙ ap (λ (s : Screen). put_on s c.args.row c.args.column c.args.text.now c.args.low c.args.high) c.self.view_is
