-- Labels of sections.
use Rattle.std.proofs.Common.{◌≡◌, ℕ, ◌+◌, ◌<◌, ◌≤◌, ◌&&◌, Bool, true, false, nat_lt, List, [], ◌∷◌, length, drop, get_or, refl, sym, ap, ap₂, ◌∙◌, arith, Option, Some, None}
use Rattle.std.specs.Prelude.{find, nat_eq, position, slice_get, if◌then◌else◌}
use Rattle.std.specs.List.{position_or_len}
use Rattle.std.specs.Option.{option_or}
use Rattle.std.proofs.lemmas.Bool.Decides.{nat_tests}
use Rattle.std.proofs.lemmas.List.{drop_more}
use Rattle.std.proofs.lemmas.List.Folds.{find-append, find-set, find_at, find_past}
use Rattle.std.proofs.lemmas.List.Quantifiers.{position-Some}
use Rattle.std.proofs.lemmas.Option.{slice_get_past}
use Rattle.scm_front_paint.specs.declared.labels.Label.{Label}
use Rattle.scm_front_paint.specs.Labels.{is_of, put_at, text_in, text_of, with_label}

both : (a b : Bool) → (a && b) ≡ true → (a ≡ true) × (b ≡ true)
both true true e = (refl, refl)
both true false e = absurd (cc e)
both false b e = absurd (cc e)

-- labels of the same section are alike to a search
same-section : (file section : ℕ) (label other : Label) → is_of label.file label.section other ≡ true → is_of file section other ≡ is_of file section label
same-section file section label other e =
    let t = both (nat_eq other.file label.file) (nat_eq other.section label.section) e in
    let own = t.0 in
    let its = t.1 in
    let files : other.file ≡ label.file = grind (arith, nat_tests) in
    let sections : other.section ≡ label.section = grind (arith, nat_tests) in
    ap₂ (λ (f s : ℕ). nat_eq f file && nat_eq s section) files sections

-- ---- a search

-- the next label is of another section
pub text-on : (labels : List Label) (i file section : ℕ) (d : Label) → i < length labels → is_of file section (get_or labels i d) ≡ false
    → text_of labels file section ≡ text_of (drop i labels) file section → text_of labels file section ≡ text_of (drop (i + 1) labels) file section
text-on labels i file section d h other before =
    before ∙ ap (λ (list : List Label). text_of list file section) (drop_more labels i d h)
    ∙ ap (λ (b : Bool). text_in (if b then Some (get_or labels i d) else find (is_of file section) (drop (i + 1) labels))) other

-- the next label is that of the section
pub text-here : (labels : List Label) (i file section : ℕ) (d : Label) → i < length labels → is_of file section (get_or labels i d) ≡ true
    → text_of labels file section ≡ text_of (drop i labels) file section → text_of labels file section ≡ (get_or labels i d).text
text-here labels i file section d h is before =
    before ∙ ap (λ (list : List Label). text_of list file section) (drop_more labels i d h)
    ∙ ap (λ (b : Bool). text_in (if b then Some (get_or labels i d) else find (is_of file section) (drop (i + 1) labels))) is

-- ---- a label more

pub none-found : (p : Label → Bool) (labels : List Label) → position p labels ≡ None → find p labels ≡ None
none-found p labels e = find_at p labels ∙ go (nat_lt (position_or_len p labels) (length labels)) refl e
  where
    go : (b : Bool) → nat_lt (position_or_len p labels) (length labels) ≡ b → (if b then Some (position_or_len p labels) else None) ≡ None
        → slice_get labels (position_or_len p labels) ≡ None
    go true is e0 = absurd (cc e0)
    go false is e0 = slice_get_past labels (position_or_len p labels) (let past : length labels ≤ position_or_len p labels = grind (arith, nat_tests) in past)

no-more : (o : Option Label) → option_or o None ≡ o
no-more None = refl
no-more (Some label) = refl

module _ (label : Label) (labels : List Label) (file section : ℕ) where
  abbrev p : Label → Bool
  p other = is_of file section other

  -- of another section
  away : (o : Option ℕ) → position (is_of label.file label.section) labels ≡ o → p label ≡ false → find p (put_at o label labels) ≡ find p labels
  away None e other =
      find-append p labels (label ∷ []) ∙ ap (λ (b : Bool). option_or (find p labels) (if b then Some label else None)) other ∙ no-more (find p labels)
  away (Some i) e other =
      let at = position-Some (is_of label.file label.section) labels i label e in
      find_past p labels i label label (same-section file section label (get_or labels i label) at.1 ∙ other) other

-- of its own section
here : (label : Label) (labels : List Label) (o : Option ℕ) → position (is_of label.file label.section) labels ≡ o → is_of label.file label.section label ≡ true
    → find (is_of label.file label.section) (put_at o label labels) ≡ Some label
here label labels None e own =
    let q = is_of label.file label.section in
    find-append q labels (label ∷ [])
    ∙ ap (λ (x : Option Label). option_or x (find q (label ∷ []))) (none-found q labels e)
    ∙ ap (λ (b : Bool). if b then Some label else None) own
here label labels (Some i) e own =
    let q = is_of label.file label.section in
    let at = position-Some q labels i label e in
    find-set q labels i label (first (nat_lt (position_or_len q labels) (length labels)) e) at.0 own
  where
    first : (b : Bool) → (if b then Some (position_or_len (is_of label.file label.section) labels) else None) ≡ Some i → i ≡ position_or_len (is_of label.file label.section) labels
    first true f = cc f
    first false f = absurd (cc f)

pub last-label : (label : Label) (labels : List Label) (file section : ℕ)
    → text_of (with_label label labels) file section ≡ (if is_of file section label then label.text else text_of labels file section)
last-label label labels file section = go (is_of file section label) refl
  where
    go : (b : Bool) → is_of file section label ≡ b → text_of (with_label label labels) file section ≡ (if b then label.text else text_of labels file section)
    go false e = ap text_in (away label labels file section (position (is_of label.file label.section) labels) refl e)
    go true e =
        let t = both (nat_eq label.file file) (nat_eq label.section section) e in
        let own = t.0 in
        let its = t.1 in
        let files : label.file ≡ file = grind (arith, nat_tests) in
        let sections : label.section ≡ section = grind (arith, nat_tests) in
        let is : is_of label.file label.section label ≡ true =
        ap₂ (λ (f s : ℕ). nat_eq label.file f && nat_eq label.section s) files sections ∙ e in
        ap₂ (λ (f s : ℕ). text_in (find (is_of f s) (with_label label labels))) (sym files) (sym sections)
        ∙ ap text_in (here label labels (position (is_of label.file label.section) labels) refl is)
