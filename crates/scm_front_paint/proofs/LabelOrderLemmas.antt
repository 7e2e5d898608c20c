-- Labels that are found by halves.
use Rattle.std.proofs.Common.{◌≡◌, ◌≢◌, ℕ, ◌+◌, ◌-◌, ◌<◌, ◌≤◌, ◌&&◌, ◌||◌, Bool, true, false, nat_lt, nat_eq, List, [], ◌∷◌, ◌++◌, length, set, get_or, refl, sym, ap, ap₂, subst, ◌∙◌, arith, Option, Some, None, ⊎_elim, IsTrue}
use Rattle.std.specs.Prelude.{find, position, slice_get, if◌then◌else◌}
use Rattle.std.specs.List.{position_or_len}
use Rattle.std.specs.List.Sorted.{IsPartitionedBy, IsPartitionPoint}
use Rattle.std.proofs.lemmas.Bool.{cases_lt, lt-ltb}
use Rattle.std.proofs.lemmas.Bool.Decides.{nat_tests}
use Rattle.std.proofs.lemmas.List.{get_or_append_left, get_or_push, length_push, get_or-set_same, get_or-set_other, length-set}
use Rattle.std.proofs.lemmas.List.Folds.{find_at}
use Rattle.std.proofs.lemmas.List.Quantifiers.{position-Some}
use Rattle.std.proofs.lemmas.List.Sums.{position_or_len_is}
use Rattle.std.proofs.lemmas.Option.{get_or_from_slice_get, slice_get-get_or}
use Rattle.scm_front_paint.specs.declared.labels.Label.{Label}
use Rattle.scm_front_paint.specs.Labels.{AreOrdered, is_before, is_of, text_in, text_of}
use Rattle.scm_front_paint.proofs.LabelLemmas.{none-found}

-- ---- the order of sections

trans : (f s : ℕ) (a b : Label) → is_before b.file b.section a ≡ true → is_before f s b ≡ true → is_before f s a ≡ true
trans f s a b e g = grind (arith, nat_tests)

apart-before : (f s : ℕ) (l : Label) → is_before f s l ≡ true → is_of f s l ≡ false
apart-before f s l e = grind (arith, nat_tests)

apart-after : (f s : ℕ) (a b : Label) → is_before f s a ≡ false → is_of f s a ≡ false → is_before b.file b.section a ≡ true → is_of f s b ≡ false
apart-after f s a b e g h = grind (arith, nat_tests)

-- no label before a section stands behind one that is not
pub parted : (f s : ℕ) (labels : List Label) → AreOrdered labels → IsPartitionedBy (is_before f s) labels
parted f s labels ordered i j d le h e =
    ⊎_elim
    (λ (less : i < j). trans f s (get_or labels i d) (get_or labels j d) (ordered i j d less h) e)
    (λ (most : j ≤ i). let same : i ≡ j = omega arith in subst (λ (k : ℕ). is_before f s (get_or labels k d) ≡ true) (sym same) e)
    (cases_lt i j)

-- ---- a search by halves

module _ (f s : ℕ) (labels : List Label) (ordered : AreOrdered labels) (n : ℕ)
    (point : IsPartitionPoint (λ (l : Label). is_before f s l ≡ true) (λ (l : Label). is_before f s l ≡ false) labels n) where
  abbrev p : Label → Bool
  p = is_of f s

  -- those before the place are of earlier sections
  front-apart : (d : Label) (k : ℕ) → k < n → p (get_or labels k d) ≡ false
  front-apart d k h = apart-before f s (get_or labels k d) (point.0 k d (omega arith) h)

  pub place-found : (d : Label) → n < length labels → p (get_or labels n d) ≡ true → Some n ≡ position p labels
  place-found d h e =
      let at : position_or_len p labels ≡ n = position_or_len_is p labels n d (omega arith) (front-apart d) (λ _. e) in
      sym (ap (λ (k : ℕ). if nat_lt k (length labels) then Some k else None) at ∙ ap (λ (b : Bool). if b then Some n else None) (lt-ltb n (length labels) h))

  back-apart : (d : Label) → (n < length labels → p (get_or labels n d) ≡ false) → (k : ℕ) → k < length labels → p (get_or labels k d) ≡ false
  back-apart d other k h =
      ⊎_elim
      (front-apart d k)
      (λ (past : n ≤ k).
      ⊎_elim
      (λ (more : n < k).
      let within : n < length labels = omega arith in
      apart-after f s (get_or labels n d) (get_or labels k d) (point.1 n d (omega arith) within) (other within) (ordered n k d more h))
      (λ (same : k ≤ n). let is : k ≡ n = omega arith in subst (λ (m : ℕ). p (get_or labels m d) ≡ false) (sym is) (other (omega arith)))
      (cases_lt n k))
      (cases_lt k n)

  pub place-free : (d : Label) → (n < length labels → p (get_or labels n d) ≡ false) → None ≡ position p labels
  place-free d other =
      let at : position_or_len p labels ≡ length labels =
      position_or_len_is p labels (length labels) d (omega arith) (back-apart d other) (λ h. absurd (omega arith)) in
      let past : nat_lt (length labels) (length labels) ≡ false = grind (arith, nat_tests) in
      sym (ap (λ (k : ℕ). if nat_lt k (length labels) then Some k else None) at ∙ ap (λ (b : Bool). if b then Some (length labels) else None) past)

-- ---- the text at a place

pub text-free : (f s : ℕ) (labels : List Label) → None ≡ position (is_of f s) labels → [] ≡ text_of labels f s
text-free f s labels e = sym (ap text_in (none-found (is_of f s) labels (sym e)))

pub text-found : (f s : ℕ) (labels : List Label) (i : ℕ) (d : Label) → Some i ≡ position (is_of f s) labels → (get_or labels i d).text ≡ text_of labels f s
text-found f s labels i d e =
    let within = (position-Some (is_of f s) labels i d (sym e)).0 in
    let at : position_or_len (is_of f s) labels ≡ i = place (nat_lt (position_or_len (is_of f s) labels) (length labels)) e in
    sym (ap text_in (find_at (is_of f s) labels ∙ ap (slice_get labels) at ∙ slice_get-get_or labels i d within))
  where
    place : (b : Bool) → Some i ≡ (if b then Some (position_or_len (is_of f s) labels) else None) → position_or_len (is_of f s) labels ≡ i
    place true h = cc h
    place false h = absurd (cc h)

-- ---- labels that stay in order

-- two labels are of the same section
abbrev Same : Label → Label → Type 0
Same a b = (a.file ≡ b.file) × (a.section ≡ b.section)

same-by : (a b : Label) → is_of b.file b.section a ≡ true → Same b a
same-by a b e = (grind (arith, nat_tests), grind (arith, nat_tests))

before-same : (a b c d : Label) → Same a c → Same b d → is_before d.file d.section c ≡ true → is_before b.file b.section a ≡ true
before-same a b c d s t e = rw (s.0, s.1, t.0, t.1) e

-- one in place of another of the same section
same-at : (labels : List Label) (i m : ℕ) (label d : Label) → i < length labels → Same label (get_or labels i d) → Same (get_or (set labels i label) m d) (get_or labels m d)
same-at labels i m label d within same =
    ⊎_elim
    (λ (less : m < i). other (λ e. let f : m ≡ i = e in absurd (omega (arith, less, f))))
    (λ (rest : i ≤ m).
    ⊎_elim
    (λ (more : i < m). other (λ e. let f : m ≡ i = e in absurd (omega (arith, more, f))))
    (λ (most : m ≤ i).
    let e : m ≡ i = omega arith in
    subst (λ (k : ℕ). Same (get_or (set labels i label) k d) (get_or labels k d)) (sym e)
    (subst (λ (l : Label). Same l (get_or labels i d)) (sym (get_or-set_same labels i label d within)) same))
    (cases_lt i m))
    (cases_lt m i)
  where
    other : m ≢ i → Same (get_or (set labels i label) m d) (get_or labels m d)
    other apart = subst (λ (l : Label). Same l (get_or labels m d)) (sym (get_or-set_other labels i m label d apart)) (refl, refl)

pub ordered-set : (labels : List Label) (i : ℕ) (label : Label) → Some i ≡ position (is_of label.file label.section) labels → AreOrdered labels
    → AreOrdered (set labels i label)
ordered-set labels i label e ordered j k d less h =
    let at = position-Some (is_of label.file label.section) labels i d (sym e) in
    let long = length-set labels i label in
    let same = same-by (get_or labels i d) label at.1 in
    before-same (get_or (set labels i label) j d) (get_or (set labels i label) k d) (get_or labels j d) (get_or labels k d)
    (same-at labels i j label d at.0 same) (same-at labels i k label d at.0 same) (ordered j k d less (omega (arith, long, h)))

-- one behind the others
pub ordered-push : (labels : List Label) (last label : Label) → slice_get labels (length labels - 1) ≡ Some last → is_before label.file label.section last ≡ true → AreOrdered labels
    → AreOrdered (labels ++ label ∷ [])
ordered-push labels last label e before ordered i j d less h =
    ⊎_elim inside outside (cases_lt j (length labels))
  where
    left : (k : ℕ) → k < length labels → get_or (labels ++ label ∷ []) k d ≡ get_or labels k d
    left k within = get_or_append_left labels (label ∷ []) d k within

    inside : j < length labels → is_before (get_or (labels ++ label ∷ []) j d).file (get_or (labels ++ label ∷ []) j d).section (get_or (labels ++ label ∷ []) i d) ≡ true
    inside within = rw (left i (omega arith), left j within) (ordered i j d less within)

    final : (k : ℕ) → k < length labels → is_before label.file label.section (get_or labels k d) ≡ true
    final k within =
        let here : get_or labels (length labels - 1) d ≡ last = get_or_from_slice_get labels (length labels - 1) last d e in
        ⊎_elim
        (λ (further : k < length labels - 1).
        trans label.file label.section (get_or labels k d) last
        (subst (λ (l : Label). is_before l.file l.section (get_or labels k d) ≡ true) here (ordered k (length labels - 1) d further (omega arith))) before)
        (λ (end : length labels - 1 ≤ k).
        let same : k ≡ length labels - 1 = omega arith in
        subst (λ (m : ℕ). is_before label.file label.section (get_or labels m d) ≡ true) (sym same)
        (subst (λ (l : Label). is_before label.file label.section l ≡ true) (sym here) before))
        (cases_lt k (length labels - 1))

    outside : length labels ≤ j → is_before (get_or (labels ++ label ∷ []) j d).file (get_or (labels ++ label ∷ []) j d).section (get_or (labels ++ label ∷ []) i d) ≡ true
    outside past =
        let long = length_push labels label in
        let at : j ≡ length labels = omega (arith, long, h) in
        let pushed : get_or (labels ++ label ∷ []) j d ≡ label = get_or_push labels label d j (sym at) in
        rw (pushed, left i (omega arith)) (final i (omega arith))
