use Rattle.std.proofs.Common.{◌∙◌, ◌++◌, ◌≡◌, ◌+◌, ◌-◌, ◌<◌, ◌≤◌, ℕ, length, take, drop, refl, ap, arith}
use Rattle.std.specs.Prelude.{slice_index_or, slice_set, []}
use Rattle.scm_render.specs.Canvas.{Row}
use Rattle.scm_strips.proofs.RowLemmas.{sized-same, sized-then}
use Rattle.scm_view.specs.Window.{inline_document}
use Rattle.scm_screen.specs.DocumentRows.{each_row, row_shown, with_shown}
use Rattle.scm_screen.proofs.EachLemmas.{each-end, each-set, few-more, few-none}
use Rattle.scm_screen.proofs.paint.paint_shown.Goals as goal

pub loop-row-init : goal.loop-row-init
loop-row-init c =
    let paint = λ (z : ℕ) (line : Row). with_shown c.args.area (row_shown (inline_document c.args.shown.now) z) line in
    let rows = c.args.grid.now.rows in
    let none : c.args.first - c.args.first ≡ 0 = omega arith in
    record {
      size = sized-same _ _ refl;
      rows = refl {a = take c.args.first rows ++ each_row paint (c.args.scroll + c.args.first) (drop c.args.first rows)};
      begun = omega arith;
      few = rw none (few-none _);
    }

pub loop-row-preserved : goal.loop-row-preserved
loop-row-preserved c =
    let paint = λ (z : ℕ) (line : Row). with_shown c.args.area (row_shown (inline_document c.args.shown.now) z) line in
    let n = c.loop-row.row in
    let within : n < length c.loop-row.grid.rows = omega arith in
    record {
      size = sized-then _ _ _ c.loop-row.invariant.size c.in_ok-paint_some.ensures.size;
      rows = each-set paint c.args.scroll n c.loop-row.grid.rows _ _ within
          (c.in_ok-paint_some.ensures.ok ∙ ap (λ o. slice_set c.loop-row.grid.rows n (with_shown c.args.area o (slice_index_or c.loop-row.grid.rows n []))) c.document_row-what.ensures)
          c.loop-row.invariant.rows;
      begun = omega (arith, c.loop-row.invariant.begun);
      few = few-more (n - c.args.first) 1 ((n + 1) - c.args.first) _ _ _ (omega (arith, c.loop-row.invariant.begun)) c.loop-row.invariant.few c.in_ok-paint_some.ensures.few;
    }

pub returns-clause-ok : goal.returns-clause-ok
returns-clause-ok c =
    let paint = λ (z : ℕ) (line : Row). with_shown c.args.area (row_shown (inline_document c.args.shown.now) z) line in
    let all : length c.loop-row.grid.rows ≤ c.loop-row.row = omega (arith, c.loop-row.invariant.size.height, c.height-height.ensures.value) in
    each-end paint c.args.scroll c.loop-row.row c.loop-row.grid.rows _ all c.loop-row.invariant.rows
