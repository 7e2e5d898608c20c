use Rattle.std.proofs.Common.{◌≡◌, ◌∙◌, ◌+◌, ◌-◌, ◌≤◌, arith, ap, refl, length, length-take, length-drop, take, drop}
use Rattle.scm_cells.specs.Row.{cells_of}
use Rattle.scm_cells.specs.Laying.{fit}
use Rattle.scm_cells.proofs.WrittenLemmas.{fit-none, fit-stop, laid-end, laid-step, columns_of-more, columns_of-none, length-put_mid}
use borrow.Rule.Slice.PartMut.{put_mid}
use Rattle.scm_cells.proofs.row.lay_clusters.Goals as goal

pub returns-then-width-columns-clause-laid : goal.returns-then-width-columns-clause-laid
returns-then-width-columns-clause-laid c =
    laid-end _ _ _ _ c.clusters.invariant.laid (ap (fit _) c.in-Some.ensures.steps ∙ fit-stop _ _ _ c.if-width-columns.true)

pub overflow_add-taken : goal.overflow_add-taken
overflow_add-taken c = let more = columns_of-more _ _ _ c.in-Some.ensures.steps in omega (arith, more, c.clusters.invariant.taken, c.requires.few)

pub returns-then-width-columns-clause-taken : goal.returns-then-width-columns-clause-taken
returns-then-width-columns-clause-taken c = let more = columns_of-more _ _ _ c.in-Some.ensures.steps in omega (arith, more, c.clusters.invariant.taken)

pub lay_symbol-requires-clause-width : goal.lay_symbol-requires-clause-width
lay_symbol-requires-clause-width c =
    let some = c.in-Some.ensures.columns in
    simp (length-take, length-drop) (omega arith)

pub clusters-preserved : goal.clusters-preserved
clusters-preserved c =
    let room : c.in-Some.width ≤ length c.clusters.columns - c.clusters.end = c.if-width-columns.false in
    let within : c.clusters.end ≤ length c.clusters.columns = omega arith in
    let k = c.clusters.end + c.in-Some.width - c.clusters.end in
    let size : length c.lay_symbol.new.columns ≡ k = c.lay_symbol.auto.columns ∙ simp (length-take, length-drop) (omega arith) in
    let same : length (put_mid c.clusters.end k c.clusters.columns c.lay_symbol.new.columns) ≡ length c.clusters.columns = length-put_mid _ _ _ _ size (omega arith) in
    let wide : length (take k (drop c.clusters.end c.clusters.columns)) ≡ c.in-Some.width = simp (length-take, length-drop) (omega arith) in
    let more = columns_of-more _ _ _ c.in-Some.ensures.steps in
    record {
      after = omega (arith, c.clusters.invariant.after);
      within = rw same (omega arith);
      laid = rw same (laid-step c.clusters.columns c.lay_symbol.new.columns c.clusters.end k (c.in-Some.symbol.now, c.in-Some.width) _ _ _ refl within room c.in-Some.ensures.steps size
          (c.in_ok-lay_symbol.ensures ∙ ap (λ n. cells_of (c.in-Some.symbol.now, n)) wide) c.clusters.invariant.laid);
      taken = omega (arith, more, c.clusters.invariant.taken, c.clusters.invariant.after);
    }

pub returns-clause-laid : goal.returns-clause-laid
returns-clause-laid c = laid-end _ _ _ _ c.clusters.invariant.laid (ap (fit _) c.in_default.ensures.steps.0 ∙ fit-none _)

pub returns-clause-taken : goal.returns-clause-taken
returns-clause-taken c = let none = columns_of-none _ _ c.in_default.ensures.steps.0 c.in_default.ensures.steps.1 in omega (arith, none, c.clusters.invariant.taken)
