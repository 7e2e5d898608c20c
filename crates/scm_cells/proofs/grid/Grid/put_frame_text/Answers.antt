use Rattle.std.proofs.Common.{◌∙◌, ◌<◌, ap, sym, subst, arith, length, List, set}
use Rattle.std.specs.Prelude.{pos}
use Rattle.scm_cells.specs.Cell.{Cell}
use Rattle.scm_cells.specs.Row.{IsWhole, put}
use Rattle.scm_cells.specs.Screen.{Screen, put_on}
use Rattle.scm_cells.proofs.PutLemmas.{length-put}
use Rattle.scm_cells.proofs.ScreenLemmas.{row-read, whole-read, length-read, IsScreen-set}
use Rattle.scm_cells.proofs.WholeLemmas.{IsWhole-put}
use Rattle.scm_cells.proofs.grid.Grid.put_frame_text.Goals as goal

pub put_frame_text-requires-clause-high : goal.put_frame_text-requires-clause-high
put_frame_text-requires-clause-high c =
    let rows = c.self.inside.rows.items in
    let same = ap (λ (s : Screen). length s.rows) c.self.view_is in
    let inside : c.args.row < length rows = omega (arith, same) in
    let wide = ap (λ (s : Screen). s.width) c.self.view_is in
    let size = length-read rows c.args.row c.self.inside.width c.index_mut-cells.result.now inside c.index_mut-cells.ensures.value c.self.invariant.screen in
    omega (arith, wide, size, c.requires.high)

pub put_frame_text-requires-clause-whole : goal.put_frame_text-requires-clause-whole
put_frame_text-requires-clause-whole c =
    let rows = c.self.inside.rows.items in
    let same = ap (λ (s : Screen). length s.rows) c.self.view_is in
    let inside : c.args.row < length rows = omega (arith, same) in
    whole-read rows c.args.row c.self.inside.width c.index_mut-cells.result.now inside c.index_mut-cells.ensures.value c.self.invariant.screen

pub invariant_of-self : goal.invariant_of-self
invariant_of-self c =
    let rows = c.self.inside.rows.items in
    let same = ap (λ (s : Screen). length s.rows) c.self.view_is in
    let inside : c.args.row < length rows = omega (arith, same) in
    let wide = ap (λ (s : Screen). s.width) c.self.view_is in
    let size = length-read rows c.args.row c.self.inside.width c.index_mut-cells.result.now inside c.index_mut-cells.ensures.value c.self.invariant.screen in
    let whole = whole-read rows c.args.row c.self.inside.width c.index_mut-cells.result.now inside c.index_mut-cells.ensures.value c.self.invariant.screen in
    let made = c.put_frame_text.ensures c.args.from (omega arith) in
    record {
      screen = IsScreen-set _ c.args.row c.put_frame_text.new.self c.self.invariant.screen
          (ap length made ∙ length-put c.index_mut-cells.result.now (pos c.args.from) c.args.text.now c.args.from c.args.high (omega (arith, wide, size, c.requires.high)) ∙ size)
          (subst IsWhole (sym made) (IsWhole-put _ (pos c.args.from) c.args.text.now c.args.from c.args.high c.utf8.text whole));
      laid = c.self.invariant.laid;
    }

pub returns : goal.returns
returns c = λ low le.
    let rows = c.self.inside.rows.items in
    let same = ap (λ (s : Screen). length s.rows) c.self.view_is in
    let inside : c.args.row < length rows = omega (arith, same) in
    let read = row-read rows c.args.row c.index_mut-cells.result.now inside c.index_mut-cells.ensures.value in
    let made = c.put_frame_text.ensures low le in
    ap (λ (rs : List (List Cell)). record { width = c.self.inside.width; rows = rs; counts = record { rows = c.self.inside.rows_drawn; calls = c.self.inside.calls } })
    (ap (set rows c.args.row) (made ∙ ap (λ row. put row (pos c.args.from) c.args.text.now low c.args.high) read))
    ∙ ap (λ (s : Screen). put_on s c.args.row (pos c.args.from) c.args.text.now low c.args.high) c.self.view_is
