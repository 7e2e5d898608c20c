use Rattle.std.proofs.Common.{◌≡◌, ◌∙◌, ◌≤◌, ◌<◌, false, length, get_or, ap, sym, arith}
use Rattle.scm_types.proofs.LimitLemmas.{items_room}
use Rattle.scm_layout.specs.Refolds.{folded_after}
use Rattle.scm_layout.specs.Rows.{folded_count}
use Rattle.scm_layout.proofs.AgreeLemmas.{folds-after, folds-agree, folds-le, rows-agree}
use Rattle.scm_layout.proofs.FoldLemmas.{section-others}
use Rattle.scm_layout.proofs.file_rows.FileRows.refold_section.Goals as goal

pub folded_after-self-requires : goal.folded_after-self-requires
folded_after-self-requires c =
    omega (arith, items_room, c.requires.rows.folded, folds-le c.requires.rows.before c.args.key 0 c.args.file.now.sections, c.requires.rows.fits)

pub returns-then-index-sections-clause-folded : goal.returns-then-index-sections-clause-folded
returns-then-index-sections-clause-folded c =
    let h = c.requires.rows in
    let ks = c.args.set.now in
    let k = c.args.key in
    let j = c.args.index in
    let ss = c.args.file.now.sections in
    let s = c.index-sections-index.result in
    let within : j < length ss = omega (arith, ap (λ xs. length xs) c.as_slice-sections.ensures, c.if-index-sections.true) in
    let at : s ≡ get_or ss j s = c.index-sections-index.is ∙ ap (λ xs. get_or xs j s) c.as_slice-sections.ensures in
    c.folded_after-self.ensures
    ∙ ap (λ n. folded_after n s c.is_expanded-is_unfolded.result) h.folded
    ∙ ap (λ b. folded_after (folded_count h.before k 0 ss) s b) c.is_expanded-is_unfolded.ensures
    ∙ sym (folds-after ks h.before k j (section-others ks h.before k j h.differ) ss s within at h.differ.at)

pub returns-else-index-sections-clause-folded : goal.returns-else-index-sections-clause-folded
returns-else-index-sections-clause-folded c =
    let h = c.requires.rows in
    let ss = c.args.file.now.sections in
    let past : length ss ≤ c.args.index = omega (arith, ap (λ xs. length xs) c.as_slice-sections.ensures, c.if-index-sections.false) in
    let agree = section-others c.args.set.now h.before c.args.key c.args.index h.differ in
    h.folded ∙ sym (folds-agree c.args.set.now h.before c.args.key 0 ss (λ m low high. agree m (omega arith)))

pub returns-else-index-sections-clause-sections : goal.returns-else-index-sections-clause-sections
returns-else-index-sections-clause-sections c =
    let h = c.requires.rows in
    let ss = c.args.file.now.sections in
    let past : length ss ≤ c.args.index = omega (arith, ap (λ xs. length xs) c.as_slice-sections.ensures, c.if-index-sections.false) in
    let agree = section-others c.args.set.now h.before c.args.key c.args.index h.differ in
    h.sections ∙ sym (rows-agree c.args.set.now h.before c.args.key (length ss) 0 0 false ss (λ m low high. agree m (omega arith)))
