use Rattle.std.proofs.Common.{◌≡◌, ◌∙◌, ◌++◌, List, drop, length, take, ap, subst, sym}
use Rattle.scm_selection.proofs.ToggleLemmas.{lent_whole}
use Rattle.scm_layout.specs.declared.file_rows.FileRows.{FileRows}
use Rattle.scm_layout.specs.declared.state_rows.StateRows.{StateRows}
use Rattle.scm_layout_index.specs.RowPieces.{RowsFit}
use Rattle.scm_layout_index.proofs.FitLemmas.{state-fit}
use Rattle.scm_layout_index.proofs.shared_rows.SharedRows.renewed.Goals as goal

pub renew_files-requires : goal.renew_files-requires
renew_files-requires c =
    let files : c.as_mut_slice.result.now ≡ c.args.self.files = c.as_mut_slice.ensures.value ∙ ap (λ (r : StateRows). r.files) (c.in-Ok.ensures.ok ∙ c.self.view_is) in
    rw (files, c.as_slice.ensures) c.requires.same

pub invariant_of-result : goal.invariant_of-result
invariant_of-result c =
    let old = c.in-Ok.own.files in
    let new = c.renew_files.new.own in
    let whole : take (length old) (new ++ drop (length new) old) ≡ new = lent_whole old new (c.renew_files.auto.own ∙ ap (λ (rs : List FileRows). length rs) c.as_mut_slice.ensures.value) in
    let is : c.in_ok-rows-in-Ok.rows.value.files ≡ c.args.rows.now.files =
    ap (λ (r : StateRows). r.files) c.in_ok-rows-in-Ok.ensures.ok ∙ whole ∙ c.renew_files.ensures ∙ c.as_slice.ensures in
    subst RowsFit (sym is) (state-fit c.args.rows.now c.requires.rows)
