use Rattle.std.proofs.Common.{◌≡◌, ◌∙◌, ◌+◌, ◌++◌, ◌∷◌, [], drop, map, append-nil, refl, ap, sym}
use Rattle.std.proofs.lemmas.List.{drop_all}
use Rattle.scm_selection.specs.KeyFlags.{flags_of}
use Rattle.scm_selection.proofs.FindLemmas.{item-at}
use Rattle.scm_selection.proofs.KeyFlagLemmas.{made-more}
use Rattle.scm_selection.proofs.key_flags.flags_of_files.Goals as goal

pub loop-file-preserved : goal.loop-file-preserved
loop-file-preserved c =
    let files = c.args.files.now in
    let i = c.loop-file.file-index in
    let made = c.loop-file.flags.items in
    let f = flags_of c.args.is_set in
    rw c.in_ok-push.ensures.items
    (ap (λ x. (made ++ x ∷ []) ++ map f (drop (i + 1) files)) c.in_ok-flags_of_file.ensures
    ∙ made-more f made files i c.file-item.result (item-at files i c.file-item.result c.loop-file-test.true c.file-item.is)
    ∙ c.loop-file.invariant)

pub returns : goal.returns
returns c =
    let files = c.args.files.now in
    let made = c.loop-file.flags.items in
    let f = flags_of c.args.is_set in
    let none : map f (drop c.loop-file.file-index files) ≡ [] = rw (drop_all c.loop-file.file-index files c.loop-file-test.false) refl in
    let all : c.from.result ≡ map f files = c.from.ensures ∙ sym (append-nil made) ∙ ap (λ xs. made ++ xs) (sym none) ∙ c.loop-file.invariant in
    rw all refl
