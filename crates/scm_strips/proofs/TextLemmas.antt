-- Texts side by side on a row: put one after the other, from a column that is no further than the limit, or cut behind it.
use Rattle.std.proofs.Common.{◌≡◌, ℕ, ◌+◌, ◌-◌, ◌<◌, ◌≤◌, min, true, false, List, [], ◌∷◌, ◌++◌, refl, sym, ap, ap₂, ◌∙◌, arith, ⊎_elim}
use Rattle.std.specs.Prelude.{ℤ, pos, ◌+ℤ◌, ◌-ℤ◌, ◌≤ℤ◌, int_lt, nat_lt, if◌then◌else◌, sum_by}
use Rattle.std.proofs.lemmas.Bool.{cases_lt}
use Rattle.std.proofs.lemmas.Bool.Decides.{nat_tests}
use Rattle.std.proofs.lemmas.Int.{ints}
use Rattle.std.proofs.lemmas.List.Sums.{sum_by-cons, sum_by-append}
use Rattle.scm_cells.specs.Beginnings.{IsCut}
use Rattle.scm_cells.specs.Clusters.{text_width}
use Rattle.scm_cells.specs.Row.{put, ellipsis}
use Rattle.scm_cells.proofs.PrintableLemmas.{text_width-printable}
use Rattle.scm_cells.proofs.EdgeLemmas.{put-behind, put-front, text_width-front}
use Rattle.scm_render.specs.Canvas.{Row}
use Rattle.scm_render.specs.Drawing.{texts_width}
use Rattle.scm_render.specs.Rows.{put_texts, say_texts}
use Rattle.scm_types.specs.declared.line.ChangeType.{ChangeType}
use Rattle.scm_types.specs.declared.line.ChangeType.TheVariants.{Added, Removed}
use Rattle.scm_document.specs.Texts.{sign_text}
use Rattle.scm_strips.specs.Painted.{reached}

-- ---- widths

pub width-none : texts_width [] ≡ 0
unfolding texts_width
width-none = refl

pub width-cons : (t : List ℕ) (ts : List (List ℕ)) → texts_width (t ∷ ts) ≡ text_width t + texts_width ts
unfolding texts_width
width-cons t ts = sum_by-cons text_width t ts

width-append : (ts us : List (List ℕ)) → texts_width (ts ++ us) ≡ texts_width ts + texts_width us
unfolding texts_width
width-append ts us = sum_by-append text_width ts us

width-is : (ts : List (List ℕ)) → texts_width ts ≡ sum_by text_width ts
unfolding texts_width
width-is ts = refl

pub width-sign : (change : ChangeType) → text_width (sign_text change) ≡ 2
width-sign Added = text_width-printable (sign_text Added) refl
width-sign Removed = text_width-printable (sign_text Removed) refl

-- ---- texts one after the other

pub texts-none : (row : Row) (column : ℤ) (low high : ℕ) → put_texts row column [] low high ≡ row
unfolding put_texts
texts-none row column low high = refl

pub texts-cons : (row : Row) (column : ℤ) (t : List ℕ) (ts : List (List ℕ)) (low high : ℕ)
    → put_texts row column (t ∷ ts) low high ≡ put_texts (put row column t low high) (column +ℤ pos (text_width t)) ts low high
unfolding put_texts
texts-cons row column t ts low high = refl

texts-append : (row : Row) (column : ℤ) (ts us : List (List ℕ)) (low high : ℕ)
    → put_texts row column (ts ++ us) low high ≡ put_texts (put_texts row column ts low high) (column +ℤ pos (texts_width ts)) us low high
texts-append row column [] us low high =
    let same : column ≡ column +ℤ pos (texts_width []) = omega (arith, ints, width-none) in
    ap₂ (λ r z. put_texts r z us low high) (sym (texts-none row column low high)) same
texts-append row column (t ∷ ts) us low high =
    let sum = width-cons t ts in
    let next : (column +ℤ pos (text_width t)) +ℤ pos (texts_width ts) ≡ column +ℤ pos (texts_width (t ∷ ts)) = omega (arith, ints, sum) in
    texts-cons row column t (ts ++ us) low high
    ∙ texts-append (put row column t low high) (column +ℤ pos (text_width t)) ts us low high
    ∙ ap₂ (λ r z. put_texts r z us low high) (sym (texts-cons row column t ts low high)) next

-- ---- texts behind the limit

-- texts from the high limit on leave the row
texts-behind : (row : Row) (column : ℤ) (ts : List (List ℕ)) (low high : ℕ) → pos high ≤ℤ column → put_texts row column ts low high ≡ row
texts-behind row column [] low high h = texts-none row column low high
texts-behind row column (t ∷ ts) low high h =
    texts-cons row column t ts low high
    ∙ ap (λ r. put_texts r (column +ℤ pos (text_width t)) ts low high) (put-behind row column t low high h)
    ∙ texts-behind row (column +ℤ pos (text_width t)) ts low high (omega (arith, ints, h))

-- a column behind the limit may be any other one
pub texts-held : (row : Row) (c : ℕ) (ts : List (List ℕ)) (low high : ℕ)
    → put_texts row (pos (min c (high + 1))) ts low high ≡ put_texts row (pos c) ts low high
texts-held row c ts low high =
    ⊎_elim
    (λ (past : high < c).
    texts-behind row (pos (min c (high + 1))) ts low high (omega (arith, ints, past)) ∙ sym (texts-behind row (pos c) ts low high (omega (arith, ints, past))))
    (λ (within : c ≤ high).
    let same : min c (high + 1) ≡ c = omega (arith, within) in
    ap (λ k. put_texts row (pos k) ts low high) same)
    (cases_lt high c)

pub reached-held : (high c : ℕ) (ts : List (List ℕ)) → reached high (min c (high + 1)) ts ≡ reached high c ts
reached-held high c ts = omega arith

-- a text, and texts from the column behind it on
pub texts-then : (row : Row) (c n : ℕ) (t : List ℕ) (ts : List (List ℕ)) (low high : ℕ) → n ≡ min (c + text_width t) (high + 1)
    → put_texts (put row (pos c) t low high) (pos n) ts low high ≡ put_texts row (pos c) (t ∷ ts) low high
texts-then row c n t ts low high e =
    let next : pos (c + text_width t) ≡ pos c +ℤ pos (text_width t) = omega (arith, ints) in
    ap (λ k. put_texts (put row (pos c) t low high) (pos k) ts low high) e
    ∙ texts-held (put row (pos c) t low high) (c + text_width t) ts low high
    ∙ ap (λ z. put_texts (put row (pos c) t low high) z ts low high) next
    ∙ sym (texts-cons row (pos c) t ts low high)

pub reached-then : (high c n : ℕ) (t : List ℕ) (ts : List (List ℕ)) → n ≡ min (c + text_width t) (high + 1) → reached high n ts ≡ reached high c (t ∷ ts)
reached-then high c n t ts e = omega (arith, e, width-cons t ts)

pub reached-two : (high c n m : ℕ) (t u : List ℕ) → n ≡ min (c + text_width t) (high + 1) → m ≡ min (n + text_width u) (high + 1) → m ≡ reached high c (t ∷ (u ∷ []))
reached-two high c n m t u e f = omega (arith, e, f, width-cons t (u ∷ []), width-cons u [], width-none)

pub reached-one : (high c n : ℕ) (t : List ℕ) → n ≡ min (c + text_width t) (high + 1) → n ≡ reached high c (t ∷ [])
reached-one high c n t e = omega (arith, e, width-cons t [], width-none)

pub reached-none : (high n : ℕ) → n ≤ high + 1 → reached high n [] ≡ n
reached-none high n h = omega (arith, h, width-none)

-- ---- texts that are cut

cut-narrower : (columns : ℕ) (ts us : List (List ℕ)) → IsCut columns ts us → texts_width ts ≤ texts_width us
cut-narrower columns ts us h =
    let last = text_width-front h.last h.whole h.more h.begins in
    omega (
      arith,
      last,
      ap texts_width h.cut,
      ap texts_width h.texts,
      width-append h.front (h.last ∷ []),
      width-append h.front (h.whole ∷ h.after),
      width-cons h.last [],
      width-cons h.whole h.after,
      width-none,
    )

cut-wide : (columns : ℕ) (ts us : List (List ℕ)) → IsCut columns ts us → columns < texts_width ts
cut-wide columns ts us h = omega (arith, h.wide, width-is ts)

pub texts-cut : (row : Row) (column : ℤ) (columns : ℕ) (ts us : List (List ℕ)) (low high : ℕ) → IsCut columns ts us → pos high ≤ℤ (column +ℤ pos columns)
    → put_texts row column ts low high ≡ put_texts row column us low high
texts-cut row column columns ts us low high h reaches =
    let front = put_texts row column h.front low high in
    let at = column +ℤ pos (texts_width h.front) in
    let sum = width-append h.front (h.last ∷ []) in
    let one = width-cons h.last [] in
    let wide = cut-wide columns ts us h in
    let end : pos high ≤ℤ (at +ℤ pos (text_width h.last)) = omega (arith, ints, reaches, wide, ap texts_width h.cut, sum, one, width-none) in
    let wider = text_width-front h.last h.whole h.more h.begins in
    let last : put front at h.whole low high ≡ put front at h.last low high = put-front front at h.last h.whole h.more low high h.begins end in
    let cut : put_texts row column ts low high ≡ put front at h.last low high =
    ap (λ t. put_texts row column t low high) h.cut ∙ texts-append row column h.front (h.last ∷ []) low high
    ∙ texts-cons front at h.last [] low high ∙ texts-none (put front at h.last low high) (at +ℤ pos (text_width h.last)) low high in
    let whole : put_texts row column us low high ≡ put front at h.whole low high =
    ap (λ t. put_texts row column t low high) h.texts ∙ texts-append row column h.front (h.whole ∷ h.after) low high
    ∙ texts-cons front at h.whole h.after low high
    ∙ texts-behind (put front at h.whole low high) (at +ℤ pos (text_width h.whole)) h.after low high (omega (arith, ints, end, wider)) in
    cut ∙ sym (whole ∙ last)

-- texts that are cut behind the limit go as far as the whole ones
pub reached-cut : (high c : ℕ) (ts us : List (List ℕ)) → IsCut (high - c) ts us → reached high c ts ≡ reached high c us
reached-cut high c ts us h = omega (arith, cut-wide (high - c) ts us h, cut-narrower (high - c) ts us h)

-- ---- the ellipsis

-- texts end behind the limit if the column that they reach does
pub ends-behind : (high c : ℕ) (ts : List (List ℕ)) → nat_lt high (reached high c ts) ≡ int_lt (pos high) (pos c +ℤ pos (texts_width ts))
ends-behind high c ts =
    ⊎_elim
    (λ (past : high < c + texts_width ts).
    let left : nat_lt high (reached high c ts) ≡ true = grind (arith, nat_tests, past) in
    let right : int_lt (pos high) (pos c +ℤ pos (texts_width ts)) ≡ true = grind (arith, ints, past) in
    left ∙ sym right)
    (λ (within : c + texts_width ts ≤ high).
    let left : nat_lt high (reached high c ts) ≡ false = grind (arith, nat_tests, within) in
    let right : int_lt (pos high) (pos c +ℤ pos (texts_width ts)) ≡ false = grind (arith, ints, within) in
    left ∙ sym right)
    (cases_lt high (c + texts_width ts))

-- texts with an ellipsis are texts, and an ellipsis if they end behind the limit
pub said : (row : Row) (c : ℕ) (ts : List (List ℕ)) (low high : ℕ)
    → (if nat_lt high (reached high c ts) then put (put_texts row (pos c) ts low high) (pos high -ℤ pos 1) ellipsis low high else put_texts row (pos c) ts low high)
    ≡ say_texts row (pos c) ts low high
unfolding say_texts
said row c ts low high = rw (ends-behind high c ts) refl
