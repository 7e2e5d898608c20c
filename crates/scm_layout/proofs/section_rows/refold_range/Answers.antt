use Rattle.std.proofs.Common.{◌≡◌, ◌∙◌, ◌+◌, ◌<◌, ◌++◌, ◌∷◌, take, drop, get_or, length, ap, sym, arith}
use Rattle.std.proofs.lemmas.List.{drop-drop, drop-set-lt}
use Rattle.std.proofs.lemmas.List.Sums.{get_or-le-sum_by}
use Rattle.scm_types.proofs.LimitLemmas.{items_room}
use Rattle.scm_types.specs.Limits.{section_size}
use Rattle.scm_layout.specs.SectionStack.{tops_of}
use Rattle.scm_rows.specs.Context.{place}
use Rattle.scm_rows.specs.Heights.{shown_height}
use Rattle.scm_layout.specs.Rows.{is_expanded, is_first_open, is_open, sections_height, sections_rows, visible_height}
use Rattle.scm_layout.specs.Refolds.{rows_from}
use Rattle.scm_layout.proofs.MendLemmas.{above-next}
use Rattle.scm_layout.proofs.RowLemmas.{open-height, rows_room, sections_height-more, sections_rows-more, written}
use Rattle.scm_layout.proofs.ZipLemmas.{cut-at}
use Rattle.scm_layout.proofs.section_rows.refold_range.Goals as goal

pub visible_height-height-requires : goal.visible_height-height-requires
visible_height-height-requires c =
    let ss = c.args.sections.now in
    let within : c.loop-index.index < length ss = omega arith in
    let size : section_size c.index-sections-index.result ≡ section_size (get_or ss c.loop-index.index c.index-sections-index.result) = ap (λ x. section_size x) c.index-sections-index.is in
    omega (arith, get_or-le-sum_by section_size ss c.loop-index.index c.index-sections-index.result within)

pub overflow_add-next : goal.overflow_add-next
overflow_add-next c =
    let ks = c.args.unfolded.keys.now in
    let k = c.args.key in
    let ss = c.args.sections.now in
    let n = length ss in
    let i = c.loop-index.index in
    let s = c.index-sections-index.result in
    let within : i < n = omega arith in
    let this : c.loop-index.this ≡ is_open ks k i s = c.loop-index.invariant.this ∙ ap (λ xs. is_first_open ks k i xs) (cut-at ss i s within c.index-sections-index.is) in
    let is : c.visible_height-height.result ≡ visible_height ks k n i c.loop-index.before s (is_first_open ks k (i + 1) (drop (i + 1) ss)) =
    c.visible_height-height.ensures
    ∙ ap (λ b. shown_height (place n i) c.loop-index.this c.loop-index.before s b) c.is_open_at-after.ensures
    ∙ ap (λ b. shown_height (place n i) b c.loop-index.before s (is_first_open ks k (i + 1) (drop (i + 1) ss))) this
    ∙ open-height (place n i) (is_expanded ks k i) c.loop-index.before s (is_first_open ks k (i + 1) (drop (i + 1) ss)) in
    let tall = sections_height-more ks k n i c.loop-index.before ss s within c.index-sections-index.is in
    omega (arith, items_room, tall, is, c.loop-index.invariant.height, c.requires.room)

pub narrow-requires : goal.narrow-requires
narrow-requires c = omega (arith, rows_room, c.loop-index.invariant.height, c.requires.room)

pub loop-index-preserved : goal.loop-index-preserved
loop-index-preserved c =
    let ks = c.args.unfolded.keys.now in
    let k = c.args.key in
    let ss = c.args.sections.now in
    let n = length ss in
    let i = c.loop-index.index in
    let top = c.loop-index.next in
    let before = c.loop-index.before in
    let rows = c.loop-index.tops in
    let s = c.index-sections-index.result in
    let h = c.visible_height-height.result in
    let left = tops_of (sections_rows ks k n (i + 1) (top + h) c.loop-index.this (drop (i + 1) ss)) in
    let inside : i < n = omega arith in
    let this : c.loop-index.this ≡ is_open ks k i s = c.loop-index.invariant.this ∙ ap (λ xs. is_first_open ks k i xs) (cut-at ss i s inside c.index-sections-index.is) in
    let is : h ≡ visible_height ks k n i before s (is_first_open ks k (i + 1) (drop (i + 1) ss)) =
    c.visible_height-height.ensures
    ∙ ap (λ b. shown_height (place n i) c.loop-index.this before s b) c.is_open_at-after.ensures
    ∙ ap (λ b. shown_height (place n i) b before s (is_first_open ks k (i + 1) (drop (i + 1) ss))) this
    ∙ open-height (place n i) (is_expanded ks k i) before s (is_first_open ks k (i + 1) (drop (i + 1) ss)) in
    let more : tops_of (sections_rows ks k n i top before (drop i ss)) ≡ top ∷ left =
    rw (is, this) (ap (λ rs. tops_of rs) (sections_rows-more ks k n i top before ss s inside c.index-sections-index.is)) in
    let tall : sections_height ks k n i before (drop i ss) ≡ h + sections_height ks k n (i + 1) c.loop-index.this (drop (i + 1) ss) =
    rw (is, this) (sections_height-more ks k n i before ss s inside c.index-sections-index.is) in
    let within : i < length rows = omega arith in
    let below : i < i + 1 = omega arith in
    rw c.narrow.ensures record {
      rows = written rows i top left (take c.args.first c.args.tops.now ++ tops_of (rows_from ks k c.args.first c.args.top ss)) within (ap (λ zs. take i rows ++ zs) (sym more) ∙ c.loop-index.invariant.rows);
      others = drop-set-lt (i + 1) rows i top below ∙ sym (drop-drop 1 i rows) ∙ ap (λ zs. drop 1 zs) c.loop-index.invariant.others ∙ drop-drop 1 i c.args.tops.now;
      above = this ∙ above-next ks k n i ss s inside c.index-sections-index.is;
      this = c.is_open_at-after.ensures;
      height = omega arith;
    }

pub returns : goal.returns
returns c =
    let ks = c.args.unfolded.keys.now in
    let k = c.args.key in
    let ss = c.args.sections.now in
    let i = c.loop-index.index in
    let next = c.loop-index.next in
    let rows = c.loop-index.tops in
    let all : c.args.end ≡ i = omega arith in
    rw all
    record {
      rows = ap (λ b. take i rows ++ tops_of (sections_rows ks k (length ss) i next b (drop i ss))) (sym c.loop-index.invariant.above) ∙ c.loop-index.invariant.rows;
      others = c.loop-index.invariant.others;
      height = ap (λ b. next + sections_height ks k (length ss) i b (drop i ss)) (sym c.loop-index.invariant.above) ∙ c.loop-index.invariant.height;
    }
