use Rattle.std.proofs.Common.{◌∙◌, ◌<◌, ap, sym, subst, arith, length, List, set, rules, FitsSigned, w64}
use Rattle.std.proofs.lemmas.Int.{to_z-of_z}
use Rattle.scm_cells.specs.Cell.{Cell}
use Rattle.scm_cells.specs.Row.{IsWhole, put}
use Rattle.scm_cells.specs.Screen.{Screen, put_on}
use Rattle.scm_cells.proofs.PutLemmas.{length-put}
use Rattle.scm_cells.proofs.ScreenLemmas.{row-read, whole-read, length-read, IsScreen-set}
use Rattle.scm_cells.proofs.WholeLemmas.{IsWhole-put}
use Rattle.scm_cells.proofs.grid.Grid.put_printable.Goals as goal

pub put_printable-requires-clause-width : goal.put_printable-requires-clause-width
put_printable-requires-clause-width c =
    let rows = c.self.inside.rows.items in
    let same = ap (λ (s : Screen). length s.rows) c.self.view_is in
    let inside : c.args.row < length rows = omega (arith, same) in
    let size = length-read rows c.args.row c.self.inside.width c.index_mut-cells.result.now inside c.index_mut-cells.ensures.value c.self.invariant.screen in
    omega (arith, size, c.self.invariant.screen.width)

pub put_printable-requires-clause-high : goal.put_printable-requires-clause-high
put_printable-requires-clause-high c =
    let rows = c.self.inside.rows.items in
    let same = ap (λ (s : Screen). length s.rows) c.self.view_is in
    let inside : c.args.row < length rows = omega (arith, same) in
    let wide = ap (λ (s : Screen). s.width) c.self.view_is in
    let size = length-read rows c.args.row c.self.inside.width c.index_mut-cells.result.now inside c.index_mut-cells.ensures.value c.self.invariant.screen in
    omega (arith, wide, size, c.requires.high)

pub put_printable-requires-clause-whole : goal.put_printable-requires-clause-whole
put_printable-requires-clause-whole c =
    let rows = c.self.inside.rows.items in
    let same = ap (λ (s : Screen). length s.rows) c.self.view_is in
    let inside : c.args.row < length rows = omega (arith, same) in
    whole-read rows c.args.row c.self.inside.width c.index_mut-cells.result.now inside c.index_mut-cells.ensures.value c.self.invariant.screen

pub invariant_of-self : goal.invariant_of-self
invariant_of-self c =
    let fits : FitsSigned w64 c.args.column = search rules in
    let rows = c.self.inside.rows.items in
    let same = ap (λ (s : Screen). length s.rows) c.self.view_is in
    let inside : c.args.row < length rows = omega (arith, same) in
    let wide = ap (λ (s : Screen). s.width) c.self.view_is in
    let size = length-read rows c.args.row c.self.inside.width c.index_mut-cells.result.now inside c.index_mut-cells.ensures.value c.self.invariant.screen in
    let whole = whole-read rows c.args.row c.self.inside.width c.index_mut-cells.result.now inside c.index_mut-cells.ensures.value c.self.invariant.screen in
    let made = simp to_z-of_z at c.put_printable.ensures in
    record {
      screen = IsScreen-set _ c.args.row c.put_printable.new.self c.self.invariant.screen
          (ap length made ∙ length-put c.index_mut-cells.result.now c.args.column c.args.text.now c.args.low c.args.high (omega (arith, wide, size, c.requires.high)) ∙ size)
          (subst IsWhole (sym made) (IsWhole-put _ c.args.column c.args.text.now c.args.low c.args.high c.utf8.text whole));
      laid = c.self.invariant.laid;
    }

pub returns : goal.returns
returns c =
    let fits : FitsSigned w64 c.args.column = search rules in
    let rows = c.self.inside.rows.items in
    let same = ap (λ (s : Screen). length s.rows) c.self.view_is in
    let inside : c.args.row < length rows = omega (arith, same) in
    let read = row-read rows c.args.row c.index_mut-cells.result.now inside c.index_mut-cells.ensures.value in
    let made = simp to_z-of_z at c.put_printable.ensures in
    ap (λ (rs : List (List Cell)). record { width = c.self.inside.width; rows = rs; counts = record { rows = c.self.inside.rows_drawn; calls = c.self.inside.calls } })
    (ap (set rows c.args.row) (made ∙ ap (λ row. put row c.args.column c.args.text.now c.args.low c.args.high) read))
    ∙ ap (λ (s : Screen). put_on s c.args.row c.args.column c.args.text.now c.args.low c.args.high) c.self.view_is
