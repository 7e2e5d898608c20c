use Rattle.std.proofs.Common.{◌≡◌, ◌∙◌, ℕ, zero, suc, ◌+◌, ◌<◌, ◌≤◌, ◌++◌, ◌∷◌, List, [], take, drop, length, append-nil, refl, ap, sym, arith, Some}
use Rattle.std.specs.Prelude.{slice_get}
use Rattle.std.proofs.lemmas.List.{drop-drop, drop-set-lt, drop_all, take_all}
use Rattle.scm_layout.specs.declared.file_rows.FileRows.{FileRows}
use Rattle.scm_layout.specs.SectionStack.{shapes_of}
use Rattle.scm_selection.proofs.FindLemmas.{drop-at, item-at}
use Rattle.scm_layout.proofs.RowLemmas.{written}
use Rattle.scm_layout_index.proofs.shared_rows.renew_files.Goals as goal

first-dropped : {A : Type 0} (xs : List A) (i : ℕ) → slice_get xs i ≡ slice_get (drop i xs) 0
first-dropped [] zero = refl
first-dropped [] (suc i) = refl
first-dropped (x ∷ xs) zero = refl
first-dropped (x ∷ xs) (suc i) = first-dropped xs i

pub bounds-own-index : goal.bounds-own-index
bounds-own-index c = omega (arith, c.requires.lengths)

pub renew_file-requires : goal.renew_file-requires
renew_file-requires c =
    let own = c.loop-index.own in
    let rows = c.args.rows.now in
    let i = c.loop-index.index in
    let y : FileRows = c.index-own-index.result in
    let z : FileRows = c.index-rows-index.result in
    let inside : i < length own = omega (arith, c.requires.lengths) in
    let at : slice_get c.args.own.now i ≡ Some y =
    first-dropped c.args.own.now i ∙ ap (λ xs. slice_get xs 0) (sym c.loop-index.invariant.left) ∙ sym (first-dropped own i) ∙ item-at own i y inside c.index-own-index.is in
    let by : slice_get rows i ≡ Some z = item-at rows i z c.loop-index-test.true c.index-rows-index.is in
    record {
      same = λ away. sym (ap (λ (r : FileRows). r.sections) c.index-own-index.is) ∙ c.requires.same i y z (sym c.is_named-is_changed.ensures ∙ away) at by;
      shapes = sym (ap (λ (r : FileRows). shapes_of r.sections) c.index-own-index.is) ∙ c.requires.shapes i y z at by;
    }

pub loop-index-preserved : goal.loop-index-preserved
loop-index-preserved c =
    let own = c.loop-index.own in
    let rows = c.args.rows.now in
    let i = c.loop-index.index in
    let y : FileRows = c.renew_file.new.own in
    let z : FileRows = c.index-rows-index.result in
    let within : i < length own = omega (arith, c.requires.lengths) in
    let below : i < i + 1 = omega arith in
    let by : slice_get rows i ≡ Some z = item-at rows i z c.loop-index-test.true c.index-rows-index.is in
    let more : drop i rows ≡ y ∷ drop (i + 1) rows = drop-at rows i z by ∙ ap (λ (r : FileRows). r ∷ drop (i + 1) rows) (sym c.renew_file.ensures) in
    record {
      done = written own i y (drop (i + 1) rows) rows within (ap (λ zs. take i own ++ zs) (sym more) ∙ c.loop-index.invariant.done);
      left = drop-set-lt (i + 1) own i y below ∙ sym (drop-drop 1 i own) ∙ ap (λ zs. drop 1 zs) c.loop-index.invariant.left ∙ drop-drop 1 i c.args.own.now;
    }

pub returns : goal.returns
returns c =
    let own = c.loop-index.own in
    let rows = c.args.rows.now in
    let i = c.loop-index.index in
    let all : length own ≤ i = omega (arith, c.requires.lengths) in
    sym (take_all i own all) ∙ sym (append-nil (take i own)) ∙ ap (λ zs. take i own ++ zs) (sym (drop_all i rows c.loop-index-test.false)) ∙ c.loop-index.invariant.done
