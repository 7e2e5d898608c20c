use Rattle.std.proofs.Common.{◌≡◌, ◌∙◌, ◌++◌, List, take, drop, length, refl, ap, arith}
use Rattle.scm_types.proofs.LimitLemmas.{items_room}
use Rattle.scm_selection.proofs.ToggleLemmas.{lent_whole}
use Rattle.scm_layout.specs.declared.file_rows.FileRows.{FileRows}
use Rattle.scm_layout.specs.Refolds.{total_height}
use Rattle.scm_layout.specs.Rows.{each_file_rows, stacked}
use Rattle.scm_layout.proofs.StackLemmas.{each-fit}
use Rattle.scm_layout.proofs.state_rows.StateRows.refold_by.Goals as goal

pub restack-requires : goal.restack-requires
restack-requires c =
    let old = c.args.self.now.files in
    let new = c.refold_files.new.rows in
    let whole : take (length old) (new ++ drop (length new) old) ≡ new = lent_whole old new (c.refold_files.auto.rows ∙ ap (λ (rs : List FileRows). length rs) c.as_mut_slice.ensures.value) in
    let second : c.as_mut_slice-2.result.now ≡ new = c.as_mut_slice-2.ensures.value ∙ whole in
    let height : total_height c.as_mut_slice-2.result.now ≡ total_height (each_file_rows c.args.unfolded.keys.now c.args.commit_idx 0 c.args.files.now) =
    ap (λ (rs : List FileRows). total_height rs) second ∙ ap (λ (rs : List FileRows). total_height rs) c.refold_files.ensures in
    omega (arith, items_room, height, each-fit c.args.unfolded.keys.now c.args.commit_idx c.args.files.now c.requires.rows.fits, c.requires.top)

pub returns : goal.returns
returns c =
    let old = c.args.self.now.files in
    let new = c.refold_files.new.rows in
    let whole : take (length old) (new ++ drop (length new) old) ≡ new = lent_whole old new (c.refold_files.auto.rows ∙ ap (λ (rs : List FileRows). length rs) c.as_mut_slice.ensures.value) in
    let second : c.as_mut_slice-2.result.now ≡ new = c.as_mut_slice-2.ensures.value ∙ whole in
    let stack : c.restack.new.rows ≡ stacked c.args.top (each_file_rows c.args.unfolded.keys.now c.args.commit_idx 0 c.args.files.now) =
    c.restack.ensures ∙ ap (λ (rs : List FileRows). stacked c.args.top rs) second ∙ ap (λ (rs : List FileRows). stacked c.args.top rs) c.refold_files.ensures in
    let again : take (length new) (c.restack.new.rows ++ drop (length c.restack.new.rows) new) ≡ c.restack.new.rows =
    lent_whole new c.restack.new.rows (c.restack.auto.rows ∙ ap (λ (rs : List FileRows). length rs) second) in
    rw (whole, again, stack) refl
