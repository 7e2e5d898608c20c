use Rattle.std.proofs.Common.{◌≡◌, ◌∙◌, ◌+◌, ◌*◌, ◌<◌, ◌≤◌, ◌++◌, ◌∷◌, take, drop, get_or, set, length, map, append-nil, ap, sym, subst, arith}
use Rattle.std.proofs.lemmas.List.{drop-set-lt, drop_all, take_all}
use Rattle.scm_layout.proofs.RowLemmas.{rows_room, written}
use Rattle.scm_types.specs.Limits.{max_items}
use Rattle.scm_types.proofs.LimitLemmas.{items_room}
use Rattle.scm_layout.specs.Refolds.{AreBetween}
use Rattle.scm_layout.specs.SectionStack.{moved_row}
use Rattle.scm_layout.proofs.ZipLemmas.{cut}
use Rattle.scm_layout.proofs.section_folds.move_tops.Goals as goal

pub narrow-requires : goal.narrow-requires
narrow-requires c =
    let tops = c.loop-index.tops in
    let i = c.loop-index.index in
    let within : i < length tops = omega arith in
    let parts : AreBetween c.args.from (2 * max_items) (get_or tops i 0 ∷ drop (i + 1) tops) = subst (λ xs. AreBetween c.args.from (2 * max_items) xs) (cut tops i 0 within) c.loop-index.invariant.within in
    omega (arith, rows_room, parts.0, parts.1, c.requires.to)

pub overflow_add-to : goal.overflow_add-to
overflow_add-to c =
    let tops = c.loop-index.tops in
    let i = c.loop-index.index in
    let within : i < length tops = omega arith in
    let parts : AreBetween c.args.from (2 * max_items) (get_or tops i 0 ∷ drop (i + 1) tops) = subst (λ xs. AreBetween c.args.from (2 * max_items) xs) (cut tops i 0 within) c.loop-index.invariant.within in
    omega (arith, items_room, parts.0, parts.1, c.requires.to)

pub loop-index-preserved : goal.loop-index-preserved
loop-index-preserved c =
    let from = c.args.from in
    let tops = c.loop-index.tops in
    let i = c.loop-index.index in
    let y = moved_row from c.args.to (get_or tops i 0) in
    let rest = drop (i + 1) tops in
    let left = map (moved_row from c.args.to) rest in
    let whole = take c.args.first c.args.tops.now ++ map (moved_row from c.args.to) (drop c.args.first c.args.tops.now) in
    let within : i < length tops = omega arith in
    let below : i < i + 1 = omega arith in
    let same : drop (i + 1) (set tops i y) ≡ rest = drop-set-lt (i + 1) tops i y below in
    let more : map (moved_row from c.args.to) (drop i tops) ≡ y ∷ left = ap (λ xs. map (moved_row from c.args.to) xs) (cut tops i 0 within) in
    let parts : AreBetween from (2 * max_items) (get_or tops i 0 ∷ rest) = subst (λ xs. AreBetween from (2 * max_items) xs) (cut tops i 0 within) c.loop-index.invariant.within in
    rw c.narrow.ensures record {
      rows = ap (λ xs. take (i + 1) (set tops i y) ++ map (moved_row from c.args.to) xs) same
          ∙ written tops i y left whole within (ap (λ zs. take i tops ++ zs) (sym more) ∙ c.loop-index.invariant.rows);
      within = subst (λ xs. AreBetween from (2 * max_items) xs) (sym same) parts.2;
    }

pub returns : goal.returns
returns c =
    let mv = moved_row c.args.from c.args.to in
    let tops = c.loop-index.tops in
    let i = c.loop-index.index in
    let all : length tops ≤ i = omega arith in
    sym (take_all i tops all) ∙ sym (append-nil (take i tops)) ∙ ap (λ xs. take i tops ++ map mv xs) (sym (drop_all i tops all)) ∙ c.loop-index.invariant.rows
