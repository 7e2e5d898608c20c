use Rattle.std.proofs.Common.{◌≡◌, ap, sym, ◌∙◌, arith, length, map}
use Rattle.scm_diff.specs.Hunks.{AreHunks}
use Rattle.scm_diff.specs.Blanks as blanks
use Rattle.scm_diff.specs.Sides as sides
use Rattle.scm_diff.proofs.BlankLemmas.{kept-count, text-found}
use Rattle.scm_diff.proofs.blanks.text_without_blank_changes.Goals as goal

pub count_other-left_out-requires : goal.count_other-left_out-requires
count_other-left_out-requires c =
    let olds = c.in_ok-old_lines.old_lines.items in
    let news = c.in_ok-new_lines.new_lines.items in
    let hs = c.in_ok-differences.differences.items in
    let found : AreHunks (map blanks.squeezed olds) (map blanks.squeezed news) hs =
    rw (sym c.as_slice.ensures.value, sym c.as_slice-2.ensures.value) c.in_ok-differences.ensures in
    let lines : c.in_ok-lines.lines.items ≡ blanks.kept_lines olds news 0 hs =
    rw (sym c.as_slice-3.ensures.value, sym c.as_slice-4.ensures.value, sym c.as_slice-5.ensures.value) c.in_ok-lines.ensures in
    let count : length c.in_ok-lines.lines.items ≡ length news = ap length lines ∙ kept-count olds news hs found in
    let one : length c.as_slice-6.result.now ≡ length c.in_ok-lines.lines.items = ap length c.as_slice-6.ensures.value in
    let other : length c.as_slice-7.result.now ≡ length news = ap length c.as_slice-7.ensures.value in
    omega arith

pub returns : goal.returns
returns c =
    let olds = c.in_ok-old_lines.old_lines.items in
    let news = c.in_ok-new_lines.new_lines.items in
    let hs = c.in_ok-differences.differences.items in
    let found : AreHunks (map blanks.squeezed olds) (map blanks.squeezed news) hs =
    rw (sym c.as_slice.ensures.value, sym c.as_slice-2.ensures.value) c.in_ok-differences.ensures in
    let lines : c.in_ok-lines.lines.items ≡ blanks.kept_lines olds news 0 hs =
    rw (sym c.as_slice-3.ensures.value, sym c.as_slice-4.ensures.value, sym c.as_slice-5.ensures.value) c.in_ok-lines.ensures in
    let text : c.in_ok-text.text ≡ sides.text_of c.in_ok-lines.lines.items = c.in_ok-text.ensures ∙ ap sides.text_of c.as_slice-8.ensures.value in
    let count : c.count_other-left_out.result ≡ blanks.count_other c.in_ok-lines.lines.items news =
    c.count_other-left_out.ensures ∙ ap (λ x. blanks.count_other x c.as_slice-7.result.now) c.as_slice-6.ensures.value
    ∙ ap (λ x. blanks.count_other c.in_ok-lines.lines.items x) c.as_slice-7.ensures.value in
    text-found c.args.old.now c.args.new.now olds news c.in_ok-lines.lines.items hs c.in_ok-text.text c.count_other-left_out.result c.in_ok-old_lines.ensures c.in_ok-new_lines.ensures found lines text count
