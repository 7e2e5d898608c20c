use Rattle.std.proofs.Common.{◌∙◌, ◌≤◌, ◌++◌, take, length, append-nil, ap, sym, arith}
use Rattle.std.proofs.lemmas.List.{take_all}
use Rattle.scm_layout.specs.Refolds.{is_open_above}
use Rattle.scm_layout.specs.SectionStack.{tops_of}
use Rattle.scm_layout.proofs.RowLemmas.{sections-fit, sections_height-end, sections_rows-end}
use Rattle.scm_layout.proofs.section_rows.refold_tops.Goals as goal

pub refold_range-requires-clause-room : goal.refold_range-requires-clause-room
refold_range-requires-clause-room c =
    let ss = c.args.sections.now in
    omega (arith, sections-fit c.args.unfolded.keys.now c.args.key (length ss) ss)

pub returns : goal.returns
returns c =
    let ks = c.args.unfolded.keys.now in
    let k = c.args.key in
    let ss = c.args.sections.now in
    let n = length ss in
    let new = c.refold_range.new.tops in
    let above = is_open_above ks k n ss in
    let last : n ≤ n = omega arith in
    let all : length new ≤ n = omega arith in
    record {
      tops = sym (take_all n new all) ∙ sym (append-nil (take n new)) ∙ ap (λ zs. take n new ++ tops_of zs) (sym (sections_rows-end ks k n n c.refold_range.result above ss last)) ∙ c.refold_range.ensures.rows;
      height = omega (arith, c.refold_range.ensures.height, sections_height-end ks k n n above ss last);
    }
