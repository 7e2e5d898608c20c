-- The first and the last key that passes a test, by files, sections and lines.
use Rattle.std.proofs.Common.{◌≡◌, ℕ, zero, suc, ◌+◌, ◌<◌, ◌&&◌, ◌||◌, Bool, true, false, cond, List, [], ◌∷◌, ◌++◌, length, drop, take, refl, ap, sym, ◌∙◌, append_assoc, append-nil, arith, Option, Some, None}
use Rattle.std.specs.Prelude.{find, get_or, min, slice_get, is_some, if◌then◌else◌}
use Rattle.std.specs.List.{list_any}
use Rattle.std.specs.Option.{option_or}
use Rattle.std.proofs.lemmas.Option.{slice_get-get_or}
use Rattle.std.proofs.lemmas.List.{take_all}
use Rattle.std.proofs.lemmas.List.Folds.{find-append, list_any-append}
use Rattle.scm_types.specs.declared.line.SectionChangedLine.{SectionChangedLine}
use Rattle.scm_types.specs.declared.section.Section.{Section}
use Rattle.scm_types.specs.declared.section.Section.TheVariants as sections
use Rattle.scm_types.specs.declared.file.File.{File}
use Rattle.scm_types.specs.declared.keys.SelectionKey.{SelectionKey}
use Rattle.scm_types.specs.declared.keys.SelectionKey.TheVariants as keys
use Rattle.scm_selection.specs.declared.moves.Reach.{Reach}
use Rattle.scm_selection.specs.declared.moves.Reach.TheVariants as reaches
use Rattle.scm_selection.specs.KeyLists.{file_key, line_key, line_keys, section_key, section_keys, sections_keys, files_keys}
use Rattle.scm_selection.specs.KeysAround.{is_stop, find_last, may_stop_inside}
use Rattle.scm_selection.proofs.KeyListLemmas.{line_keys-drop}

-- ---- lists cut at an index

pub drop-at : {X : Type 0} (xs : List X) (i : ℕ) (x : X) → slice_get xs i ≡ Some x → drop i xs ≡ x ∷ drop (i + 1) xs
drop-at [] i x e = absurd (cc e)
drop-at (y ∷ ys) zero x e = let same : y ≡ x = cc e in rw same refl
drop-at (y ∷ ys) (suc i) x e = let n : suc i + 1 ≡ suc (i + 1) = omega arith in rw n (drop-at ys i x e)

pub take-end : {X : Type 0} (n end : ℕ) (xs : List X) → end ≡ min n (length xs) → take end xs ≡ take n xs
take-end n end [] e = take_all end [] (omega arith) ∙ sym (take_all n [] (omega arith))
take-end zero end (x ∷ xs) e = let none : end ≡ 0 = omega (arith, e) in rw none refl
take-end (suc n) zero (x ∷ xs) e = absurd (omega (arith, e))
take-end (suc n) (suc end) (x ∷ xs) e = ap (λ ys. x ∷ ys) (take-end n end xs (omega (arith, e)))

pub item-at : {X : Type 0} (xs : List X) (i : ℕ) (x : X) → i < length xs → x ≡ get_or xs i x → slice_get xs i ≡ Some x
item-at xs i x h e = slice_get-get_or xs i x h ∙ ap Some (sym e)

-- ---- the last that passes, of two lists

or-assoc : {X : Type 0} (a b c : Option X) → option_or (option_or a b) c ≡ option_or a (option_or b c)
or-assoc None b c = refl
or-assoc (Some x) b c = refl

or-none : {X : Type 0} (a : Option X) → option_or a None ≡ a
or-none None = refl
or-none (Some x) = refl

module _ (p : SelectionKey → Bool) where
  pub find_last-append : (xs ys : List SelectionKey) → find_last p (xs ++ ys) ≡ option_or (find_last p ys) (find_last p xs)
  find_last-append [] ys = sym (or-none (find_last p ys))
  find_last-append (x ∷ xs) ys =
      ap (λ r. option_or r (if p x then Some x else None)) (find_last-append xs ys)
      ∙ or-assoc (find_last p ys) (find_last p xs) (if p x then Some x else None)

-- ---- lines

-- a move stops at all lines of a section or at none
pub lines-alike : (reach : Reach) (is_expanded : SelectionKey → Bool) (f s i j : ℕ) → is_stop reach is_expanded (line_key f s i) ≡ is_stop reach is_expanded (line_key f s j)
lines-alike reaches.Visible is_expanded f s i j = refl
lines-alike (reaches.SameKind keys.None) is_expanded f s i j = refl
lines-alike (reaches.SameKind (keys.File key)) is_expanded f s i j = refl
lines-alike (reaches.SameKind (keys.Section key)) is_expanded f s i j = refl
lines-alike (reaches.SameKind (keys.Line key)) is_expanded f s i j = refl
lines-alike (reaches.Inside keys.None) is_expanded f s i j = refl
lines-alike (reaches.Inside (keys.File key)) is_expanded f s i j = refl
lines-alike (reaches.Inside (keys.Section key)) is_expanded f s i j = refl
lines-alike (reaches.Inside (keys.Line key)) is_expanded f s i j = refl

module _ (p : SelectionKey → Bool) (f s : ℕ) (alike : (i j : ℕ) → p (line_key f s i) ≡ p (line_key f s j)) where
  none_of_lines : (first : ℕ) (lines : List SectionChangedLine) → p (line_key f s 0) ≡ false → find p (line_keys f s first lines) ≡ None
  none_of_lines first [] e = refl
  none_of_lines first (l ∷ ls) e =
      let here : p (line_key f s first) ≡ false = alike first 0 ∙ e in rw here (none_of_lines (first + 1) ls e)

  pub first_line : (from : ℕ) (lines : List SectionChangedLine) → from < length lines → find p (line_keys f s from (drop from lines)) ≡ find p (line_key f s from ∷ [])
  first_line from lines h = rw (line_keys-drop f s from from lines h) (by_test (p (line_key f s from)) (λ e. none_of_lines (from + 1) (drop (from + 1) lines) (alike 0 from ∙ e)))
    where
      by_test : (b : Bool) {rest : Option SelectionKey} → (b ≡ false → rest ≡ None) → cond b (Some (line_key f s from)) rest ≡ cond b (Some (line_key f s from)) None
      by_test true h' = refl
      by_test false h' = h' refl

-- ---- files and sections from an index on

module _ (p : SelectionKey → Bool) where
  pub find-section : (file i : ℕ) (ss : List Section) (s : Section) → slice_get ss i ≡ Some s → find p (sections_keys file i (drop i ss)) ≡ option_or (find p (section_keys file i s)) (find p (sections_keys file (i + 1) (drop (i + 1) ss)))
  find-section file i ss s e = rw (drop-at ss i s e) (find-append p (section_keys file i s) (sections_keys file (i + 1) (drop (i + 1) ss)))

  pub find-file : (i : ℕ) (fs : List File) (f : File) → slice_get fs i ≡ Some f → find p (files_keys i (drop i fs)) ≡ option_or (find p (file_key i ∷ sections_keys i 0 f.sections)) (find p (files_keys (i + 1) (drop (i + 1) fs)))
  find-file i fs f e = rw (drop-at fs i f e) (find-append p (file_key i ∷ sections_keys i 0 f.sections) (files_keys (i + 1) (drop (i + 1) fs)))

  sooner : (xs ys : List SelectionKey) (k : SelectionKey) → Some k ≡ find p xs → Some k ≡ find p (xs ++ ys)
  sooner xs ys k e = sym (find-append p xs ys ∙ ap (λ o. option_or o (find p ys)) (sym e))

  later : (xs ys : List SelectionKey) (r : Option SelectionKey) → None ≡ find p xs → r ≡ find p ys → r ≡ find p (xs ++ ys)
  later xs ys r e h = h ∙ sym (find-append p xs ys ∙ ap (λ o. option_or o (find p ys)) (sym e))

  last-sooner : (xs ys : List SelectionKey) (k : SelectionKey) → Some k ≡ find_last p ys → Some k ≡ find_last p (xs ++ ys)
  last-sooner xs ys k e = sym (find_last-append p xs ys ∙ ap (λ o. option_or o (find_last p xs)) (sym e))

  last-later : (xs ys : List SelectionKey) (r : Option SelectionKey) → None ≡ find_last p ys → r ≡ find_last p xs → r ≡ find_last p (xs ++ ys)
  last-later xs ys r e h = h ∙ sym (find_last-append p xs ys ∙ ap (λ o. option_or o (find_last p xs)) (sym e))

  pub kept : (xs ys : List SelectionKey) (r : Option SelectionKey) → is_some r ≡ true → r ≡ find p xs → r ≡ find p (xs ++ ys)
  kept xs ys None h e = absurd (cc h)
  kept xs ys (Some k) h e = sooner xs ys k e

  pub missed : (xs ys : List SelectionKey) (r s : Option SelectionKey) → is_some r ≡ false → r ≡ find p xs → s ≡ find p ys → s ≡ find p (xs ++ ys)
  missed xs ys None s h e g = later xs ys s e g
  missed xs ys (Some k) s h e g = absurd (cc h)

  pub last-kept : (xs ys : List SelectionKey) (r : Option SelectionKey) → is_some r ≡ true → r ≡ find_last p ys → r ≡ find_last p (xs ++ ys)
  last-kept xs ys None h e = absurd (cc h)
  last-kept xs ys (Some k) h e = last-sooner xs ys k e

  pub last-missed : (xs ys : List SelectionKey) (r s : Option SelectionKey) → is_some r ≡ false → r ≡ find_last p ys → s ≡ find_last p xs → s ≡ find_last p (xs ++ ys)
  last-missed xs ys None s h e g = last-later xs ys s e g
  last-missed xs ys (Some k) s h e g = absurd (cc h)

  or-found : (a b : Option SelectionKey) → is_some a ≡ true → a ≡ option_or a b
  or-found None b e = absurd (cc e)
  or-found (Some x) b e = refl

  or-missed : (a b : Option SelectionKey) → is_some a ≡ false → b ≡ option_or a b
  or-missed None b e = refl
  or-missed (Some x) b e = absurd (cc e)

  pub section-found : (file i : ℕ) (ss : List Section) (s : Section) → slice_get ss i ≡ Some s → is_some (find p (section_keys file i s)) ≡ true → find p (section_keys file i s) ≡ find p (sections_keys file i (drop i ss))
  section-found file i ss s e t = or-found _ _ t ∙ sym (find-section file i ss s e)

  pub section-missed : (file i : ℕ) (ss : List Section) (s : Section) → slice_get ss i ≡ Some s → is_some (find p (section_keys file i s)) ≡ false → find p (sections_keys file (i + 1) (drop (i + 1) ss)) ≡ find p (sections_keys file i (drop i ss))
  section-missed file i ss s e t = or-missed _ _ t ∙ sym (find-section file i ss s e)

  pub file-found : (i : ℕ) (fs : List File) (f : File) → slice_get fs i ≡ Some f → is_some (find p (file_key i ∷ sections_keys i 0 f.sections)) ≡ true → find p (file_key i ∷ sections_keys i 0 f.sections) ≡ find p (files_keys i (drop i fs))
  file-found i fs f e t = or-found _ _ t ∙ sym (find-file i fs f e)

  pub file-missed : (i : ℕ) (fs : List File) (f : File) → slice_get fs i ≡ Some f → is_some (find p (file_key i ∷ sections_keys i 0 f.sections)) ≡ false → find p (files_keys (i + 1) (drop (i + 1) fs)) ≡ find p (files_keys i (drop i fs))
  file-missed i fs f e t = or-missed _ _ t ∙ sym (find-file i fs f e)

-- ---- up to an index

pub sections-take : (file first i n : ℕ) (ss : List Section) (s : Section) → first + i ≡ n → slice_get ss i ≡ Some s → sections_keys file first (take (i + 1) ss) ≡ sections_keys file first (take i ss) ++ section_keys file n s
sections-take file first i n [] s m e = absurd (cc e)
sections-take file first zero n (t ∷ ts) s m e =
    let same : t ≡ s = cc e in
    let here : first ≡ n = omega (arith, m) in
    rw same (append-nil (section_keys file first s) ∙ ap (λ m. section_keys file m s) here)
sections-take file first (suc i) n (t ∷ ts) s m e =
    let j : suc i + 1 ≡ suc (i + 1) = omega arith in
    rw j (ap (λ ks. section_keys file first t ++ ks) (sections-take file (first + 1) i n ts s (omega (arith, m)) e) ∙ sym (append_assoc (section_keys file first t) _ _))

pub files-take : (first i n : ℕ) (fs : List File) (f : File) → first + i ≡ n → slice_get fs i ≡ Some f → files_keys first (take (i + 1) fs) ≡ files_keys first (take i fs) ++ (file_key n ∷ sections_keys n 0 f.sections)
files-take first i n [] f m e = absurd (cc e)
files-take first zero n (t ∷ ts) f m e =
    let same : t ≡ f = cc e in
    let here : first ≡ n = omega (arith, m) in
    rw same (append-nil (file_key first ∷ sections_keys first 0 f.sections) ∙ ap (λ m. file_key m ∷ sections_keys m 0 f.sections) here)
files-take first (suc i) n (t ∷ ts) f m e =
    let j : suc i + 1 ≡ suc (i + 1) = omega arith in
    rw j (ap (λ ks. (file_key first ∷ sections_keys first 0 t.sections) ++ ks) (files-take (first + 1) i n ts f (omega (arith, m)) e) ∙ sym (append_assoc (file_key first ∷ sections_keys first 0 t.sections) _ _))

pub lines-take : (file section first i n : ℕ) (ls : List SectionChangedLine) → first + i ≡ n → i < length ls → line_keys file section first (take (i + 1) ls) ≡ line_keys file section first (take i ls) ++ line_key file section n ∷ []
lines-take file section first i n [] m h = absurd (omega arith)
lines-take file section first zero n (t ∷ ts) m h =
    let here : first ≡ n = omega (arith, m) in rw here refl
lines-take file section first (suc i) n (t ∷ ts) m h =
    let j : suc i + 1 ≡ suc (i + 1) = omega arith in
    rw j (ap (λ ks. line_key file section first ∷ ks) (lines-take file section (first + 1) i n ts (omega (arith, m)) (omega arith)))

module _ (p : SelectionKey → Bool) where
  pub section-last-found : (file i : ℕ) (ss : List Section) (s : Section) → slice_get ss i ≡ Some s → is_some (find_last p (section_keys file i s)) ≡ true → find_last p (section_keys file i s) ≡ find_last p (sections_keys file 0 (take (i + 1) ss))
  section-last-found file i ss s e t =
      or-found p _ _ t ∙ sym (ap (find_last p) (sections-take file 0 i i ss s (omega arith) e) ∙ find_last-append p (sections_keys file 0 (take i ss)) (section_keys file i s))

  pub section-last-missed : (file i : ℕ) (ss : List Section) (s : Section) → slice_get ss i ≡ Some s → is_some (find_last p (section_keys file i s)) ≡ false → find_last p (sections_keys file 0 (take i ss)) ≡ find_last p (sections_keys file 0 (take (i + 1) ss))
  section-last-missed file i ss s e t =
      or-missed p _ _ t ∙ sym (ap (find_last p) (sections-take file 0 i i ss s (omega arith) e) ∙ find_last-append p (sections_keys file 0 (take i ss)) (section_keys file i s))

  pub file-last-found : (i : ℕ) (fs : List File) (f : File) → slice_get fs i ≡ Some f → is_some (find_last p (file_key i ∷ sections_keys i 0 f.sections)) ≡ true → find_last p (file_key i ∷ sections_keys i 0 f.sections) ≡ find_last p (files_keys 0 (take (i + 1) fs))
  file-last-found i fs f e t =
      or-found p _ _ t ∙ sym (ap (find_last p) (files-take 0 i i fs f (omega arith) e) ∙ find_last-append p (files_keys 0 (take i fs)) (file_key i ∷ sections_keys i 0 f.sections))

  pub file-last-missed : (i : ℕ) (fs : List File) (f : File) → slice_get fs i ≡ Some f → is_some (find_last p (file_key i ∷ sections_keys i 0 f.sections)) ≡ false → find_last p (files_keys 0 (take i fs)) ≡ find_last p (files_keys 0 (take (i + 1) fs))
  file-last-missed i fs f e t =
      or-missed p _ _ t ∙ sym (ap (find_last p) (files-take 0 i i fs f (omega arith) e) ∙ find_last-append p (files_keys 0 (take i fs)) (file_key i ∷ sections_keys i 0 f.sections))

-- the last line before an index, if a move stops at all lines or at none
module _ (p : SelectionKey → Bool) (f s : ℕ) (alike : (i j : ℕ) → p (line_key f s i) ≡ p (line_key f s j)) where
  last_none : (first : ℕ) (lines : List SectionChangedLine) → p (line_key f s 0) ≡ false → find_last p (line_keys f s first lines) ≡ None
  last_none first [] e = refl
  last_none first (l ∷ ls) e =
      let here : p (line_key f s first) ≡ false = alike first 0 ∙ e in rw (here, last_none (first + 1) ls e) refl

  by_last : (b : Bool) (k : SelectionKey) (rest : Option SelectionKey) → (b ≡ false → rest ≡ None) → option_or (option_or None (if b then Some k else None)) rest ≡ cond b (Some k) None
  by_last true k rest h = refl
  by_last false k rest h = h refl

  pub last_line : (i : ℕ) (lines : List SectionChangedLine) → i < length lines → find_last p (line_keys f s 0 (take (i + 1) lines)) ≡ find p (line_key f s i ∷ [])
  last_line i lines h =
      ap (find_last p) (lines-take f s 0 i i lines (omega arith) h)
      ∙ find_last-append p (line_keys f s 0 (take i lines)) (line_key f s i ∷ [])
      ∙ by_last (p (line_key f s i)) (line_key f s i) _ (λ e. last_none 0 (take i lines) (alike 0 i ∙ e))

-- ---- files in which no key is a stop

and-false : (b : Bool) → (b && false) ≡ false
and-false true = refl
and-false false = refl

or-left : (a b : Bool) → (a || b) ≡ false → a ≡ false
or-left true b e = e
or-left false b e = refl

or-right : (a b : Bool) → (a || b) ≡ false → b ≡ false
or-right true b e = absurd (cc e)
or-right false b e = e

section-passed : (reach : Reach) (is_expanded : SelectionKey → Bool) (file section : ℕ) → may_stop_inside reach is_expanded file ≡ false → is_stop reach is_expanded (section_key file section) ≡ false
section-passed reaches.Visible is_expanded file section h = h
section-passed (reaches.SameKind keys.None) is_expanded file section h = and-false (is_expanded (file_key file))
section-passed (reaches.SameKind (keys.File key)) is_expanded file section h = and-false (is_expanded (file_key file))
section-passed (reaches.SameKind (keys.Section key)) is_expanded file section h = rw h refl
section-passed (reaches.SameKind (keys.Line key)) is_expanded file section h = and-false (is_expanded (file_key file))
section-passed (reaches.Inside keys.None) is_expanded file section h = refl
section-passed (reaches.Inside (keys.File key)) is_expanded file section h = absurd (cc h)
section-passed (reaches.Inside (keys.Section key)) is_expanded file section h = refl
section-passed (reaches.Inside (keys.Line key)) is_expanded file section h = refl

line-passed : (reach : Reach) (is_expanded : SelectionKey → Bool) (file section line : ℕ) → may_stop_inside reach is_expanded file ≡ false → is_stop reach is_expanded (line_key file section line) ≡ false
line-passed reaches.Visible is_expanded file section line h = rw h refl
line-passed (reaches.SameKind keys.None) is_expanded file section line h = and-false (is_expanded (file_key file) && is_expanded (section_key file section))
line-passed (reaches.SameKind (keys.File key)) is_expanded file section line h = and-false (is_expanded (file_key file) && is_expanded (section_key file section))
line-passed (reaches.SameKind (keys.Section key)) is_expanded file section line h = and-false (is_expanded (file_key file) && is_expanded (section_key file section))
line-passed (reaches.SameKind (keys.Line key)) is_expanded file section line h = rw h refl
line-passed (reaches.Inside keys.None) is_expanded file section line h = refl
line-passed (reaches.Inside (keys.File key)) is_expanded file section line h = refl
line-passed (reaches.Inside (keys.Section key)) is_expanded file section line h = absurd (cc h)
line-passed (reaches.Inside (keys.Line key)) is_expanded file section line h = refl

-- where no key passes, none is found
module _ (p : SelectionKey → Bool) where
  first-none : (ks : List SelectionKey) → list_any p ks ≡ false → find p ks ≡ None
  first-none [] e = refl
  first-none (k ∷ ks) e = rw (or-left (p k) (list_any p ks) e) (first-none ks (or-right (p k) (list_any p ks) e))

  last-none : (ks : List SelectionKey) → list_any p ks ≡ false → find_last p ks ≡ None
  last-none [] e = refl
  last-none (k ∷ ks) e = rw (or-left (p k) (list_any p ks) e, last-none ks (or-right (p k) (list_any p ks) e)) refl

module _ (p : SelectionKey → Bool) (file : ℕ) (section : (s : ℕ) → p (section_key file s) ≡ false) (line : (s l : ℕ) → p (line_key file s l) ≡ false) where
  no-line : (s first : ℕ) (lines : List SectionChangedLine) → list_any p (line_keys file s first lines) ≡ false
  no-line s first [] = refl
  no-line s first (l ∷ ls) = rw (line s first) (no-line s (first + 1) ls)

  no-key : (i : ℕ) (s : Section) → list_any p (section_keys file i s) ≡ false
  no-key i (sections.Unchanged lines) = refl
  no-key i (sections.Changed lines) = rw (section i) (no-line i 0 lines)
  no-key i (sections.FileMode is_checked mode) = rw (section i) refl
  no-key i (sections.Binary is_checked old new) = rw (section i) refl

  no-keys : (i : ℕ) (ss : List Section) → list_any p (sections_keys file i ss) ≡ false
  no-keys i [] = refl
  no-keys i (s ∷ ss) =
      list_any-append p (section_keys file i s) (sections_keys file (i + 1) ss)
      ∙ ap (λ b. b || list_any p (sections_keys file (i + 1) ss)) (no-key i s)
      ∙ no-keys (i + 1) ss

module _ (reach : Reach) (is_expanded : SelectionKey → Bool) (file i : ℕ) (ss : List Section) (h : may_stop_inside reach is_expanded file ≡ false) where
  no-stop : list_any (is_stop reach is_expanded) (sections_keys file i ss) ≡ false
  no-stop =
      no-keys (is_stop reach is_expanded) file (λ s. section-passed reach is_expanded file s h) (λ s l. line-passed reach is_expanded file s l h) i ss

  pub no-first-stop : find (is_stop reach is_expanded) (sections_keys file i ss) ≡ None
  no-first-stop = first-none (is_stop reach is_expanded) (sections_keys file i ss) no-stop

  pub no-last-stop : find_last (is_stop reach is_expanded) (sections_keys file i ss) ≡ None
  no-last-stop = last-none (is_stop reach is_expanded) (sections_keys file i ss) no-stop
