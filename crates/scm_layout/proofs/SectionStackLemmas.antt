-- Sections one below the other: what is kept of them says all of their rows.
use Rattle.std.proofs.Common.{◌≡◌, ℕ, zero, suc, ◌+◌, ◌<◌, ◌≤◌, List, [], ◌∷◌, length, drop, get_or, refl, ap, sym, arith, Some}
use Rattle.std.specs.Prelude.{slice_get}
use Rattle.std.specs.List.Sorted.{IsNonDecreasingBy}
use Rattle.scm_rows.specs.declared.section_shape.SectionShape.{SectionShape}
use Rattle.scm_rows.specs.declared.section_shape.SectionShape.TheVariants as kinds
use Rattle.scm_layout.specs.declared.section_rows.SectionRows.{SectionRows}
use Rattle.scm_layout.specs.Refolds.{last_end}
use Rattle.scm_layout.specs.Searches.{count_to}
use Rattle.scm_layout.specs.SectionStack.{first_or, rows_by, shapes_of, tops_of}

pub length-by : (tops : List ℕ) (last : ℕ) (shapes : List SectionShape) → length tops ≡ length shapes → length (rows_by tops last shapes) ≡ length tops
length-by [] last shapes e = refl
length-by (t ∷ ts) last [] e = absurd (omega (arith, e))
length-by (t ∷ ts) last (s ∷ ss) e = ap suc (length-by ts last ss (omega (arith, e)))

pub tops-back : (tops : List ℕ) (last : ℕ) (shapes : List SectionShape) → length tops ≡ length shapes → tops_of (rows_by tops last shapes) ≡ tops
tops-back [] last shapes e = refl
tops-back (t ∷ ts) last [] e = absurd (omega (arith, e))
tops-back (t ∷ ts) last (s ∷ ss) e = ap (λ xs. t ∷ xs) (tops-back ts last ss (omega (arith, e)))

pub shapes-back : (tops : List ℕ) (last : ℕ) (shapes : List SectionShape) → length tops ≡ length shapes → shapes_of (rows_by tops last shapes) ≡ shapes
shapes-back [] last [] e = refl
shapes-back [] last (s ∷ ss) e = absurd (omega (arith, e))
shapes-back (t ∷ ts) last [] e = absurd (omega (arith, e))
shapes-back (t ∷ ts) last (s ∷ ss) e = ap (λ xs. s ∷ xs) (shapes-back ts last ss (omega (arith, e)))

pub last-back : (from : ℕ) (tops : List ℕ) (last : ℕ) (shapes : List SectionShape) → length tops ≡ length shapes → 0 < length tops → last_end from (rows_by tops last shapes) ≡ last
last-back from [] last shapes e some = absurd (omega (arith, some))
last-back from (t ∷ ts) last [] e some = absurd (omega (arith, e))
last-back from (t ∷ []) last (s ∷ []) e some = refl
last-back from (t ∷ []) last (s ∷ r ∷ ss) e some = absurd (omega (arith, e))
last-back from (t ∷ u ∷ ts) last (s ∷ ss) e some = last-back u (u ∷ ts) last ss (omega (arith, e)) (omega arith)

-- the rows of one section
pub rows-at : (tops : List ℕ) (last : ℕ) (shapes : List SectionShape) (i d : ℕ) (shape : SectionShape) → length tops ≡ length shapes → i < length tops
    → slice_get (rows_by tops last shapes) i ≡ Some (record { top = get_or tops i d; end = first_or (drop (i + 1) tops) last; shape = get_or shapes i shape })
rows-at [] last shapes i d shape e within = absurd (omega (arith, within))
rows-at (t ∷ ts) last [] i d shape e within = absurd (omega (arith, e))
rows-at (t ∷ ts) last (s ∷ ss) zero d shape e within = refl
rows-at (t ∷ ts) last (s ∷ ss) (suc i) d shape e within =
    let next : suc i + 1 ≡ suc (i + 1) = omega arith in
    rw next (rows-at ts last ss i d shape (omega (arith, e)) (omega (arith, within)))

-- how many begin on a row or above
pub count-by : (row : ℕ) (tops : List ℕ) (last : ℕ) (shapes : List SectionShape) → length tops ≡ length shapes → count_to (λ (r : SectionRows). r.top) row (rows_by tops last shapes) ≡ count_to (λ (t : ℕ). t) row tops
count-by row [] last shapes e = refl
count-by row (t ∷ ts) last [] e = absurd (omega (arith, e))
count-by row (t ∷ ts) last (s ∷ ss) e = rw (count-by row ts last ss (omega (arith, e))) refl

-- the first from an index on
pub first-there : (tops : List ℕ) (n last d : ℕ) → n < length tops → get_or tops n d ≡ first_or (drop n tops) last
first-there [] n last d within = absurd (omega (arith, within))
first-there (t ∷ ts) zero last d within = refl
first-there (t ∷ ts) (suc n) last d within = first-there ts n last d (omega (arith, within))

pub first-past : (tops : List ℕ) (n last : ℕ) → length tops ≤ n → last ≡ first_or (drop n tops) last
first-past [] zero last past = refl
first-past [] (suc n) last past = refl
first-past (t ∷ ts) zero last past = absurd (omega (arith, past))
first-past (t ∷ ts) (suc n) last past = first-past ts n last (omega (arith, past))

-- what is at an index, whatever is asked for past the end
pub there : {A : Type 0} (xs : List A) (i : ℕ) (x d : A) → slice_get xs i ≡ Some x → x ≡ get_or xs i d
there [] i x d e = absurd (cc e)
there (y ∷ ys) zero x d e = let same : y ≡ x = cc e in sym same
there (y ∷ ys) (suc i) x d e = there ys i x d e

-- where they begin does not fall
get-top : (tops : List ℕ) (last : ℕ) (shapes : List SectionShape) (i : ℕ) (r : SectionRows) → length tops ≡ length shapes → i < length tops → (get_or (rows_by tops last shapes) i r).top ≡ get_or tops i r.top
get-top [] last shapes i r e within = absurd (omega (arith, within))
get-top (t ∷ ts) last [] i r e within = absurd (omega (arith, e))
get-top (t ∷ ts) last (s ∷ ss) zero r e within = refl
get-top (t ∷ ts) last (s ∷ ss) (suc i) r e within = get-top ts last ss i r (omega (arith, e)) (omega (arith, within))

pub tops-rise : (tops : List ℕ) (last : ℕ) (shapes : List SectionShape) → length tops ≡ length shapes → IsNonDecreasingBy (λ (r : SectionRows). r.top) (rows_by tops last shapes) → IsNonDecreasingBy (λ (t : ℕ). t) tops
tops-rise tops last shapes e rise i j d le within =
    let r : SectionRows = record { top = d; end = 0; shape = kinds.Changed } in
    let inside : j < length (rows_by tops last shapes) = omega (arith, within, length-by tops last shapes e) in
    let below : i < length tops = omega (arith, le, within) in
    omega (arith, rise i j r le inside, get-top tops last shapes i r e below, get-top tops last shapes j r e within)

pub last-none : (tops : List ℕ) (last : ℕ) (shapes : List SectionShape) → length tops ≡ 0 → last_end 0 (rows_by tops last shapes) ≡ 0
last-none [] last shapes e = refl
last-none (t ∷ ts) last shapes e = absurd (omega (arith, e))
