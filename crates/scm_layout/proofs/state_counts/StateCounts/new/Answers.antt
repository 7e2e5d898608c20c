use Rattle.std.proofs.Common.{◌≡◌, ◌∙◌, ◌+◌, ◌++◌, ◌∷◌, [], drop, get_or, map, append-nil, refl, ap, sym, arith}
use Rattle.std.proofs.lemmas.List.{drop_all}
use Rattle.std.proofs.lemmas.List.Sums.{get_or-le-sum_by}
use Rattle.scm_types.specs.Limits.{file_size}
use Rattle.scm_layout.specs.Counts.{file_counts}
use Rattle.scm_layout.proofs.ZipLemmas.{made-more}
use Rattle.scm_layout.proofs.state_counts.StateCounts.new.Goals as goal

pub new-requires : goal.new-requires
new-requires c =
    let size : file_size c.file-item.result ≡ file_size (get_or c.args.files.now c.loop-file.file-index c.file-item.result) = ap (λ f. file_size f) c.file-item.is in
    omega (arith, get_or-le-sum_by file_size c.args.files.now c.loop-file.file-index c.file-item.result c.loop-file-test.true)

pub loop-file-preserved : goal.loop-file-preserved
loop-file-preserved c =
    let files = c.args.files.now in
    let i = c.loop-file.file-index in
    let made = c.loop-file.counts.items in
    rw c.in_ok-push.ensures.items
    (ap (λ x. (made ++ x ∷ []) ++ map file_counts (drop (i + 1) files)) c.in_ok-new.ensures
    ∙ made-more file_counts made files i c.file-item.result c.loop-file-test.true c.file-item.is
    ∙ c.loop-file.invariant)

pub add_up-requires-clause-counted : goal.add_up-requires-clause-counted
add_up-requires-clause-counted c =
    let files = c.args.files.now in
    let made = c.loop-file.counts.items in
    let none : map file_counts (drop c.loop-file.file-index files) ≡ [] = rw (drop_all c.loop-file.file-index files c.loop-file-test.false) refl in
    c.from.ensures ∙ sym (append-nil made) ∙ ap (λ xs. made ++ xs) (sym none) ∙ c.loop-file.invariant
