use Rattle.std.proofs.Common.{◌≡◌, ◌+◌, false, length, refl, ap, ◌∙◌, arith}
use Rattle.scm_types.proofs.LimitLemmas.{items_room}
use Rattle.scm_layout.specs.Refolds.{last_end}
use Rattle.scm_layout.specs.Rows.{sections_height}
use Rattle.scm_layout.proofs.AgreeLemmas.{last-rows}
use Rattle.scm_layout.proofs.RowLemmas.{sections-fit}
use Rattle.scm_layout.proofs.file_rows.FileRows.refold_key.Goals as goal

pub height_with-self-requires : goal.height_with-self-requires
height_with-self-requires c =
    let ks = c.args.set.now in
    let k = c.args.file_key in
    let ss = c.args.file.now.sections in
    let n = length ss in
    let height = c.last_end-height.ensures ∙ ap (λ rs. last_end 0 rs) c.refold_sections.ensures.sections ∙ last-rows ks k n 0 0 false ss in
    omega (arith, items_room, height, sections-fit ks k n ss, c.requires.rows.fits)

pub returns : goal.returns
returns c =
    let ks = c.args.set.now in
    let k = c.args.file_key in
    let ss = c.args.file.now.sections in
    let n = length ss in
    let height : c.last_end-height.result ≡ 0 + sections_height ks k n 0 false ss = c.last_end-height.ensures ∙ ap (λ rs. last_end 0 rs) c.refold_sections.ensures.sections ∙ last-rows ks k n 0 0 false ss in
    let tall : c.last_end-height.result ≡ sections_height ks k n 0 false ss = omega arith in
    rw (c.height_with-self.ensures, c.contains.ensures, tall, c.refold_sections.ensures.folded, c.refold_sections.ensures.sections) refl
