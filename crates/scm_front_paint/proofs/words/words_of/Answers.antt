use Rattle.std.proofs.Common.{◌≡◌, ℕ, ◌+◌, ◌-◌, List, Option, length, ap, subst, sym, ◌∙◌, arith}
use Rattle.std.specs.Prelude.{option_map}
use Rattle.std.proofs.lemmas.List.{length_push}
use Rattle.scm_cells.specs.Cell.{Cell}
use Rattle.scm_record.specs.Frames.{columns_of, scene_of}
use Rattle.scm_record.specs.ShownLines.{line_on}
use Rattle.scm_types.specs.declared.file.File.{File}
use Rattle.scm_types.specs.declared.keys.LineKey.{LineKey}
use Rattle.scm_front_paint.specs.Words.{AreColumnsFor, Pair, files_with_pairs, pair_of_line, pair_on}
use Rattle.scm_front_paint.specs.WordsView.{columns_in, pair_value}
use Rattle.scm_front_paint.proofs.WordsLemmas.{more-rows, are-words, pair-is}
use Rattle.scm_front_paint.proofs.words.words_of.Goals as goal

pub loop-row-preserved : goal.loop-row-preserved
loop-row-preserved c =
    let new = c.in_ok-push.ensures.items in
    let l = c.args.session.now in
    let s = c.stretch_on-stretch.result in
    let row = c.loop-row.row in
    let place : s.top + (row - s.top) ≡ row = let low = c.stretch_on-stretch.ensures.top in omega arith in
    let line : line_on l row ≡ c.line-line.result = subst (λ (n : ℕ). line_on l n ≡ c.line-line.result) place (c.stretch_on-stretch.ensures.stretch.lines (row - s.top) c.stretch_on-stretch.ensures.row ∙ sym c.line-line.ensures) in
    let pair : option_map pair_value c.pair_of_line-pair.result ≡ pair_on l row =
    c.pair_of_line-pair.ensures
    ∙ ap (λ (files : List File). pair_of_line files c.line-line.result) c.files_with_pairs-files.ensures
    ∙ ap (λ (k : Option LineKey). pair_of_line (files_with_pairs l) k) (sym line)
    ∙ pair-is l row in
    let edge : c.width-edge.result ≡ columns_of l.kind = c.width-edge.ensures.value ∙ c.grid.ensures.width in
    let words =
    subst (λ (n : ℕ). AreColumnsFor n (option_map pair_value c.pair_of_line-pair.result) (columns_in c.in_ok-words_with.field-0)) edge
    c.in_ok-words_with.ensures.ok in
    record {
      many = ap length new ∙ length_push c.loop-row.words.items c.in_ok-words_with.field-0 ∙ ap (λ (n : ℕ). n + 1) c.loop-row.invariant.many;
      on = more-rows l c.loop-row.words.items c.push.new.self.items c.in_ok-words_with.field-0 row new c.loop-row.invariant.many
          c.loop-row.invariant.on (subst (λ (p : Option Pair). AreColumnsFor (columns_of l.kind) p (columns_in c.in_ok-words_with.field-0)) pair words);
      stretch = c.stretch_on-stretch.ensures.stretch;
      top = let low = c.stretch_on-stretch.ensures.top in omega arith;
    }

pub returns-clause-ok : goal.returns-clause-ok
returns-clause-ok c =
    let high : c.height-height.result ≡ length (scene_of c.args.session.now.kind c.args.session.now.session).frame.rows =
    c.height-height.ensures.value ∙ ap (λ (rows : List (List Cell)). length rows) c.grid-2.ensures.rows in
    are-words c.args.session.now c.loop-row.words.items c.loop-row.row c.loop-row.invariant.many (omega arith) c.loop-row.invariant.on
