use Rattle.std.proofs.Common.{◌≡◌, ◌∙◌, ◌+◌, ◌<◌, ◌≤◌, ◌++◌, ◌∷◌, take, drop, get_or, set, length, append-nil, ap, sym, arith}
use Rattle.std.proofs.lemmas.List.{drop-set-lt, take_all}
use Rattle.scm_layout.specs.declared.file_rows.FileRows.{FileRows}
use Rattle.scm_layout.specs.Refolds.{total_height}
use Rattle.scm_layout.specs.Rows.{stacked}
use Rattle.scm_layout.proofs.RowLemmas.{written}
use Rattle.scm_layout.proofs.StackLemmas.{stacked-end, stacked-more, total-more}
use Rattle.scm_layout.proofs.state_rows.restack.Goals as goal

pub loop-index-preserved : goal.loop-index-preserved
loop-index-preserved c =
    let rows = c.loop-index.rows in
    let i = c.loop-index.index in
    let next = c.loop-index.next in
    let d = c.index-rows-index.result in
    let h = c.saturating_sub-height.result in
    let y : FileRows = record (get_or rows i d) { top = next; end = next + h } in
    let rest = drop (i + 1) rows in
    let within : i < length rows = omega arith in
    let below : i < i + 1 = omega arith in
    let same : drop (i + 1) (set rows i y) ≡ rest = drop-set-lt (i + 1) rows i y below in
    let more : stacked next (drop i rows) ≡ y ∷ stacked (next + h) rest = rw c.saturating_sub-height.ensures (stacked-more next i rows d within) in
    let tall = total-more i rows d within in
    let first : next + h + total_height rest ≡ c.args.top + total_height c.args.rows.now = omega (arith, tall, c.saturating_sub-height.ensures, c.loop-index.invariant.height) in
    record {
      rows = ap (λ xs. take (i + 1) (set rows i y) ++ stacked (next + h) xs) same
          ∙ written rows i y (stacked (next + h) rest) (stacked c.args.top c.args.rows.now) within (ap (λ zs. take i rows ++ zs) (sym more) ∙ c.loop-index.invariant.rows);
      height = ap (λ xs. next + h + total_height xs) same ∙ first;
    }

pub returns : goal.returns
returns c =
    let rows = c.loop-index.rows in
    let i = c.loop-index.index in
    let all : length rows ≤ i = omega arith in
    sym (take_all i rows all) ∙ sym (append-nil (take i rows)) ∙ ap (λ zs. take i rows ++ zs) (sym (stacked-end c.loop-index.next i rows all)) ∙ c.loop-index.invariant.rows
