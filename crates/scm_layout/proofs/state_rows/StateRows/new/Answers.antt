use Rattle.std.proofs.Common.{◌≡◌, ◌∙◌, ◌+◌, ◌++◌, ◌∷◌, take, drop, length, append-nil, refl, ap, sym, arith, append_assoc, []}
use Rattle.scm_types.proofs.LimitLemmas.{items_room}
use Rattle.scm_selection.proofs.ToggleLemmas.{lent_whole}
use Rattle.scm_layout.specs.Rows.{each_file_rows, stacked}
use Rattle.scm_layout.proofs.StackLemmas.{each-end, each-fit, each-more, file-within, length-stacked}
use Rattle.scm_layout.proofs.state_rows.StateRows.new.Goals as goal

pub new-requires : goal.new-requires
new-requires c = file-within c.loop-file_idx.file_idx c.args.files.now c.index-files-file_idx.result c.loop-file_idx-test.true c.index-files-file_idx.is c.requires.fits

pub loop-file_idx-preserved : goal.loop-file_idx-preserved
loop-file_idx-preserved c =
    let files = c.args.files.now in
    let ks = c.args.set.now in
    let commit = c.args.commit_idx in
    let i = c.loop-file_idx.file_idx in
    let made = c.loop-file_idx.rows.items in
    let left = each_file_rows ks commit (i + 1) (drop (i + 1) files) in
    rw c.in_ok-push.ensures.items
    (append_assoc made (c.in_ok-new.field-0 ∷ []) left
    ∙ ap (λ r. made ++ (r ∷ left)) c.in_ok-new.ensures
    ∙ ap (λ rs. made ++ rs) (sym (each-more ks commit i files c.index-files-file_idx.result c.loop-file_idx-test.true c.index-files-file_idx.is))
    ∙ c.loop-file_idx.invariant)

pub restack-requires : goal.restack-requires
restack-requires c =
    let files = c.args.files.now in
    let made = c.loop-file_idx.rows.items in
    let none = each-end c.args.set.now c.args.commit_idx c.loop-file_idx.file_idx files c.loop-file_idx-test.false in
    let all : c.as_mut_slice.result.now ≡ each_file_rows c.args.set.now c.args.commit_idx 0 files =
    c.as_mut_slice.ensures.value ∙ sym (append-nil made) ∙ ap (λ vs. made ++ vs) (sym none) ∙ c.loop-file_idx.invariant in
    rw all (omega (arith, items_room, each-fit c.args.set.now c.args.commit_idx files c.requires.fits))

pub returns : goal.returns
returns c =
    let files = c.args.files.now in
    let made = c.loop-file_idx.rows.items in
    let none = each-end c.args.set.now c.args.commit_idx c.loop-file_idx.file_idx files c.loop-file_idx-test.false in
    let all : c.as_mut_slice.result.now ≡ each_file_rows c.args.set.now c.args.commit_idx 0 files =
    c.as_mut_slice.ensures.value ∙ sym (append-nil made) ∙ ap (λ vs. made ++ vs) (sym none) ∙ c.loop-file_idx.invariant in
    let stack : c.restack.new.rows ≡ stacked c.args.top (each_file_rows c.args.set.now c.args.commit_idx 0 files) = c.restack.ensures ∙ ap (λ rs. stacked c.args.top rs) all in
    let lengths : length c.restack.new.rows ≡ length made = ap (λ rs. length rs) c.restack.ensures ∙ length-stacked c.args.top c.as_mut_slice.result.now ∙ ap (λ rs. length rs) c.as_mut_slice.ensures.value in
    let len_is : c.loop-file_idx.rows.len ≡ length made = sym c.as_mut_slice.ensures.len ∙ ap (λ rs. length rs) c.as_mut_slice.ensures.value in
    let whole : c.from.result ≡ stacked c.args.top (each_file_rows c.args.set.now c.args.commit_idx 0 files) =
    c.from.ensures ∙ ap (λ n. take n (c.restack.new.rows ++ drop (length c.restack.new.rows) made)) len_is ∙ lent_whole made c.restack.new.rows lengths ∙ stack in
    rw whole refl
