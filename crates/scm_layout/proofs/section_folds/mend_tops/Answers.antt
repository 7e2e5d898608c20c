use Rattle.std.proofs.Common.{◌≡◌, ◌∙◌, ◌+◌, ◌-◌, ◌*◌, ◌<◌, ◌≤◌, ℕ, List, false, length, drop, get_or, min, ap, sym, subst, arith}
use Rattle.std.proofs.lemmas.List.{length-map}
use Rattle.scm_types.specs.declared.keys.FileKey.{FileKey}
use Rattle.scm_types.specs.declared.keys.SelectionKey.{SelectionKey}
use Rattle.scm_types.specs.declared.section.Section.{Section}
use Rattle.scm_types.specs.Limits.{max_items}
use Rattle.scm_types.proofs.LimitLemmas.{items_room}
use Rattle.scm_layout.specs.declared.section_rows.SectionRows.{SectionRows}
use Rattle.scm_layout.specs.Refolds.{AreBetween, AreTopsButSection, height_from}
use Rattle.scm_layout.specs.Rows.{sections_height, sections_rows}
use Rattle.scm_layout.specs.SectionStack.{first_or, tops_of}
use Rattle.scm_layout.proofs.MendLemmas.{first-from, front-height, mended, rest-between, rest-tall, row_at, tops-at, tops-drop}
use Rattle.scm_layout.proofs.RowLemmas.{length-sections_rows, sections-fit}
use Rattle.scm_layout.proofs.section_folds.mend_tops.Goals as goal

-- the row of a section is kept
first-row : (set : List SelectionKey) (k : FileKey) (ss : List Section) (tops : List ℕ) (first : ℕ) → tops ≡ tops_of (sections_rows set k (length ss) 0 0 false ss) → first < length ss
    → get_or tops first 0 ≡ row_at set k (length ss) first 0 0 false ss
first-row set k ss tops first at inside = ap (λ ts. get_or ts first 0) at ∙ tops-at set k (length ss) first 0 0 false ss 0 inside

-- and so is where a section ends
end-row : (set : List SelectionKey) (k : FileKey) (ss : List Section) (tops : List ℕ) (last end : ℕ) → tops ≡ tops_of (sections_rows set k (length ss) 0 0 false ss) → last ≡ sections_height set k (length ss) 0 false ss → 0 < end
    → first_or (drop (end - 1 + 1) tops) last ≡ row_at set k (length ss) end 0 0 false ss
end-row set k ss tops last end at tall some =
    let same : end - 1 + 1 ≡ end = omega (arith, some) in
    let whole : sections_height set k (length ss) 0 false ss ≡ 0 + sections_height set k (length ss) 0 false ss = omega arith in
    ap (λ m. first_or (drop m tops) last) same
    ∙ ap (λ ts. first_or (drop end ts) last) at
    ∙ ap (first_or (drop end (tops_of (sections_rows set k (length ss) 0 0 false ss)))) (tall ∙ whole)
    ∙ first-from set k (length ss) end 0 0 false ss

size : (tops : List ℕ) (last : ℕ) (set : List SelectionKey) (k : FileKey) (ss : List Section) (i : ℕ) → AreTopsButSection tops last set k ss i → length tops ≡ length ss
size tops last set k ss i h =
    let R = sections_rows h.before k (length ss) 0 0 false ss in
    ap (λ ts. length ts) h.at ∙ length-map R (λ (r : SectionRows). r.top) ∙ length-sections_rows h.before k (length ss) 0 0 false ss

-- the sections first..end are section i and its neighbours; `from` is where they ended
record Around (tops : List ℕ) (last : ℕ) (set before : List SelectionKey) (k : FileKey) (ss : List Section) (i first end from : ℕ) : Type 0 where
  low : first ≤ i - 1
  within : first ≤ length ss
  upto : end ≤ length ss
  past : end < length ss → i + 2 ≤ end
  begins : get_or tops first 0 ≡ row_at before k (length ss) first 0 0 false ss
  ends : from ≡ row_at before k (length ss) end 0 0 false ss
  front : get_or tops first 0 + height_from set k first ss ≡ sections_height set k (length ss) 0 false ss
  back : from + height_from set k end ss ≡ last

around : (tops : List ℕ) (last : ℕ) (set : List SelectionKey) (k : FileKey) (ss : List Section) (i first end from : ℕ) (h : AreTopsButSection tops last set k ss i) → i < length ss → first ≡ i - 1
    → end ≡ min (length ss) (i + 2) → from ≡ first_or (drop (end - 1 + 1) tops) last → Around tops last set h.before k ss i first end from
around tops last set k ss i first end from h inside begin stop at =
    let low : first ≤ i - 1 = omega (arith, begin) in
    let within : first ≤ length ss = omega (arith, begin, inside) in
    let upto : end ≤ length ss = omega (arith, stop) in
    let past : end < length ss → i + 2 ≤ end = λ more. omega (arith, stop, more) in
    let begins = first-row h.before k ss tops first h.at (omega (arith, begin, inside)) in
    let ends = at ∙ end-row h.before k ss tops last end h.at h.tall (omega (arith, stop, inside)) in
    record {
      low = low;
      within = within;
      upto = upto;
      past = past;
      begins = begins;
      ends = ends;
      front = front-height set h.before k ss i h.agree first (get_or tops first 0) low within begins;
      back = rest-tall set h.before k ss i h.agree end from upto ends past ∙ sym h.tall;
    }

pub bounds-tops-first : goal.bounds-tops-first
bounds-tops-first c = omega (arith, size _ _ _ _ _ _ c.requires.tops, c.saturating_sub-first.ensures, c.requires.index)

pub end_at-from-requires : goal.end_at-from-requires
end_at-from-requires c = omega (arith, size _ _ _ _ _ _ c.requires.tops, c.min-end.ensures, c.requires.index)

pub refold_range-to-requires-clause-lengths : goal.refold_range-to-requires-clause-lengths
refold_range-to-requires-clause-lengths c = size _ _ _ _ _ _ c.requires.tops

pub refold_range-to-requires-clause-room : goal.refold_range-to-requires-clause-room
refold_range-to-requires-clause-room c =
    let ss = c.args.sections.now in
    let a = around _ _ _ _ _ _ _ _ _ c.requires.tops c.requires.index c.saturating_sub-first.ensures c.min-end.ensures c.end_at-from.ensures in
    omega (arith, a.front, sections-fit c.args.set.now c.args.key (length ss) ss, c.requires.fits)

pub move_tops-requires-clause-first : goal.move_tops-requires-clause-first
move_tops-requires-clause-first c = omega (arith, size _ _ _ _ _ _ c.requires.tops, c.min-end.ensures, c.refold_range-to.auto.tops)

pub move_tops-requires-clause-rows : goal.move_tops-requires-clause-rows
move_tops-requires-clause-rows c =
    let h = c.requires.tops in
    let k = c.args.key in
    let ss = c.args.sections.now in
    let end = c.min-end.result in
    let from = c.end_at-from.result in
    let a = around _ _ _ _ _ _ _ _ _ h c.requires.index c.saturating_sub-first.ensures c.min-end.ensures c.end_at-from.ensures in
    let R = sections_rows h.before k (length ss) 0 0 false ss in
    let rest : drop end c.refold_range-to.new.tops ≡ tops_of (drop end R) = c.refold_range-to.ensures.others ∙ ap (λ ts. drop end ts) h.at ∙ tops-drop end R in
    subst (λ ts. AreBetween from (2 * max_items) ts) (sym rest)
    (rest-between c.args.set.now h.before k ss c.args.index h.agree end from a.upto a.ends (2 * max_items) (omega (arith, sections-fit h.before k (length ss) ss, c.requires.fits)))

pub move_tops-requires-clause-to : goal.move_tops-requires-clause-to
move_tops-requires-clause-to c =
    let ss = c.args.sections.now in
    let a = around _ _ _ _ _ _ _ _ _ c.requires.tops c.requires.index c.saturating_sub-first.ensures c.min-end.ensures c.end_at-from.ensures in
    omega (arith, c.refold_range-to.ensures.height, a.front, sections-fit c.args.set.now c.args.key (length ss) ss, c.requires.fits)

pub returns : goal.returns
returns c =
    let h = c.requires.tops in
    let a = around _ _ _ _ _ _ _ _ _ h c.requires.index c.saturating_sub-first.ensures c.min-end.ensures c.end_at-from.ensures in
    record {
      tops = mended c.args.set.now h.before c.args.key c.args.sections.now c.args.index h.agree c.args.tops.now c.refold_range-to.new.tops c.move_tops.new.tops _ _ _ _ c.refold_range-to.result h.at
          a.low a.within a.upto a.past a.begins a.ends c.refold_range-to.ensures.rows c.refold_range-to.ensures.others c.move_tops.ensures;
      last = omega (arith, a.back, c.refold_range-to.ensures.height, a.front);
    }

pub overflow_sub-result : goal.overflow_sub-result
overflow_sub-result c =
    let a = around _ _ _ _ _ _ _ _ _ c.requires.tops c.requires.index c.saturating_sub-first.ensures c.min-end.ensures c.end_at-from.ensures in
    omega (arith, a.back)

pub overflow_add-result : goal.overflow_add-result
overflow_add-result c =
    let h = c.requires.tops in
    let ss = c.args.sections.now in
    let a = around _ _ _ _ _ _ _ _ _ h c.requires.index c.saturating_sub-first.ensures c.min-end.ensures c.end_at-from.ensures in
    omega (arith, items_room, h.tall, sections-fit h.before c.args.key (length ss) ss, c.requires.fits, c.refold_range-to.ensures.height, a.front, sections-fit c.args.set.now c.args.key (length ss) ss)
