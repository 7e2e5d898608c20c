-- The keys of a state, cut at a key: those before it and those after it.
use Rattle.std.proofs.Common.{◌≡◌, ℕ, zero, suc, ◌+◌, ◌<◌, ◌≤◌, Bool, true, false, ◌&&◌, List, [], ◌∷◌, ◌++◌, length, drop, take, refl, ap, sym, ◌∙◌, append_assoc, append-nil, arith, nat_eq, nat_lt, Option, Some, None}
use Rattle.std.specs.Prelude.{slice_get}
use Rattle.std.proofs.lemmas.Bool.Decides.{nat_tests}
use Rattle.scm_types.specs.declared.line.SectionChangedLine.{SectionChangedLine}
use Rattle.scm_types.specs.declared.section.Section.{Section}
use Rattle.scm_types.specs.declared.section.Section.TheVariants.{Unchanged, Changed, FileMode, Binary}
use Rattle.scm_types.specs.declared.file.File.{File}
use Rattle.scm_types.specs.declared.keys.SelectionKey.{SelectionKey}
use Rattle.std.proofs.lemmas.Option.{slice_get_within}
use Rattle.std.proofs.lemmas.Bool.Decides.{Decides-eqb}
use Rattle.scm_types.specs.Marks.{is_editable_section}
use Rattle.scm_types.specs.declared.keys.FileKey.{FileKey}
use Rattle.scm_types.specs.declared.keys.SectionKey.{SectionKey}
use Rattle.scm_types.specs.declared.keys.LineKey.{LineKey}
use Rattle.scm_types.specs.declared.keys.SelectionKey.TheVariants as keys
use Rattle.scm_selection.specs.KeySet.{is_key}
use Rattle.scm_selection.specs.KeysAround.{lines_of, is_key_of, keys_before, keys_after}
use Rattle.scm_selection.specs.KeyLists.{file_key, section_key, line_key, line_keys, section_keys, sections_keys, files_keys}

-- the keys before and after the first key that passes a test
abbrev pub parted_on : Bool → SelectionKey → List SelectionKey → Option (List SelectionKey × List SelectionKey) → Option (List SelectionKey × List SelectionKey)
parted_on true k ks rest = Some ([], ks)
parted_on false k ks None = None
parted_on false k ks (Some parts) = Some (k ∷ parts.0, parts.1)

abbrev pub parted : (SelectionKey → Bool) → List SelectionKey → Option (List SelectionKey × List SelectionKey)
parted q [] = None
parted q (k ∷ ks) = parted_on (q k) k ks (parted q ks)

abbrev pub joined : List SelectionKey → List SelectionKey → Option (List SelectionKey × List SelectionKey) → Option (List SelectionKey × List SelectionKey) → Option (List SelectionKey × List SelectionKey)
joined xs ys None None = None
joined xs ys None (Some parts) = Some (xs ++ parts.0, parts.1)
joined xs ys (Some parts) rest = Some (parts.0, parts.1 ++ ys)

abbrev pub within : List SelectionKey → List SelectionKey → Option (List SelectionKey × List SelectionKey) → Option (List SelectionKey × List SelectionKey)
within xs ys None = None
within xs ys (Some parts) = Some (xs ++ parts.0, parts.1 ++ ys)

-- no key of the section, or of the file, passes
abbrev pub SectionAway : (SelectionKey → Bool) → ℕ → ℕ → Type 0
SectionAway q f s = (q (section_key f s) ≡ false) × ((i : ℕ) → q (line_key f s i) ≡ false)

abbrev pub FileAway : (SelectionKey → Bool) → ℕ → Type 0
FileAway q f = (q (file_key f) ≡ false) × ((s : ℕ) → SectionAway q f s)

module _ (q : SelectionKey → Bool) where
  append_step : (b : Bool) (x : SelectionKey) (xs ys : List SelectionKey) (r s t : Option (List SelectionKey × List SelectionKey)) → t ≡ joined xs ys r s → parted_on b x (xs ++ ys) t ≡ joined (x ∷ xs) ys (parted_on b x xs r) s
  append_step true x xs ys r s t e = refl
  append_step false x xs ys None None t e = rw e refl
  append_step false x xs ys None (Some p) t e = rw e refl
  append_step false x xs ys (Some p) s t e = rw e refl

  only : (ys : List SelectionKey) (s : Option (List SelectionKey × List SelectionKey)) → s ≡ joined [] ys None s
  only ys None = refl
  only ys (Some p) = refl

  pub parted-append : (xs ys : List SelectionKey) → parted q (xs ++ ys) ≡ joined xs ys (parted q xs) (parted q ys)
  parted-append [] ys = only ys (parted q ys)
  parted-append (x ∷ xs) ys = append_step (q x) x xs ys (parted q xs) (parted q ys) (parted q (xs ++ ys)) (parted-append xs ys)

  pub both_none : (xs ys : List SelectionKey) → parted q xs ≡ None → parted q ys ≡ None → parted q (xs ++ ys) ≡ None
  both_none xs ys a b = parted-append xs ys ∙ rw (a, b) refl

  around : (ys zs : List SelectionKey) (xs : List SelectionKey) (p : Option (List SelectionKey × List SelectionKey)) → joined xs (ys ++ zs) None (joined ys zs p None) ≡ within xs zs p
  around ys zs xs None = refl
  around ys zs xs (Some p) = refl

  -- only the middle part passes
  pub parted-middle : (xs ys zs : List SelectionKey) → parted q xs ≡ None → parted q zs ≡ None → parted q (xs ++ (ys ++ zs)) ≡ within xs zs (parted q ys)
  parted-middle xs ys zs a b =
      parted-append xs (ys ++ zs)
      ∙ ap (λ r. joined xs (ys ++ zs) r (parted q (ys ++ zs))) a
      ∙ ap (λ r. joined xs (ys ++ zs) None r) (parted-append ys zs ∙ ap (λ r. joined ys zs (parted q ys) r) b)
      ∙ around ys zs xs (parted q ys)

  pub lines-away : (f s first : ℕ) (ls : List SectionChangedLine) → ((i : ℕ) → first ≤ i → i < first + length ls → q (line_key f s i) ≡ false) → parted q (line_keys f s first ls) ≡ None
  lines-away f s first [] h = refl
  lines-away f s first (l ∷ ls) h =
      let here : q (line_key f s first) ≡ false = h first (omega arith) (omega arith) in
      let more = lines-away f s (first + 1) ls (λ i lo hi. h i (omega (arith, lo)) (omega (arith, hi))) in
      rw (here, more) refl

  pub section-away : (f s : ℕ) (section : Section) → SectionAway q f s → parted q (section_keys f s section) ≡ None
  section-away f s (Unchanged lines) h = refl
  section-away f s (Changed lines) h = rw (h.0, lines-away f s 0 lines (λ i lo hi. h.1 i)) refl
  section-away f s (FileMode is_checked mode) h = rw h.0 refl
  section-away f s (Binary is_checked old new) h = rw h.0 refl

  pub sections-away : (f first : ℕ) (ss : List Section) → ((j : ℕ) → first ≤ j → j < first + length ss → SectionAway q f j) → parted q (sections_keys f first ss) ≡ None
  sections-away f first [] h = refl
  sections-away f first (s ∷ ss) h =
      both_none (section_keys f first s) (sections_keys f (first + 1) ss)
      (section-away f first s (h first (omega arith) (omega arith)))
      (sections-away f (first + 1) ss (λ j lo hi. h j (omega (arith, lo)) (omega (arith, hi))))

  pub own-away : (f : ℕ) (ss : List Section) → FileAway q f → parted q (file_key f ∷ sections_keys f 0 ss) ≡ None
  own-away f ss h = rw (h.0, sections-away f 0 ss (λ j lo hi. h.1 j)) refl

  pub files-away : (first : ℕ) (fs : List File) → ((j : ℕ) → first ≤ j → j < first + length fs → FileAway q j) → parted q (files_keys first fs) ≡ None
  files-away first [] h = refl
  files-away first (f ∷ fs) h =
      both_none (file_key first ∷ sections_keys first 0 f.sections) (files_keys (first + 1) fs)
      (own-away first f.sections (h first (omega arith) (omega arith)))
      (files-away (first + 1) fs (λ j lo hi. h j (omega (arith, lo)) (omega (arith, hi))))

files-cut : (first i n : ℕ) (xs : List File) (x : File) → first + i ≡ n → slice_get xs i ≡ Some x → files_keys first xs ≡ files_keys first (take i xs) ++ ((file_key n ∷ sections_keys n 0 x.sections) ++ files_keys (n + 1) (drop (i + 1) xs))
files-cut first i n [] x m e = absurd (cc e)
files-cut first zero n (t ∷ ts) x m e =
    let same : t ≡ x = cc e in
    let here : first ≡ n = omega (arith, m) in
    rw same (ap (λ k. (file_key k ∷ sections_keys k 0 x.sections) ++ files_keys (k + 1) ts) here)
files-cut first (suc i) n (t ∷ ts) x m e =
    let j : suc i + 1 ≡ suc (i + 1) = omega arith in
    rw j (ap (λ ks. (file_key first ∷ sections_keys first 0 t.sections) ++ ks) (files-cut (first + 1) i n ts x (omega (arith, m)) e) ∙ sym (append_assoc (file_key first ∷ sections_keys first 0 t.sections) (files_keys (first + 1) (take i ts)) _))

sections-cut : (f : ℕ) (first i n : ℕ) (xs : List Section) (x : Section) → first + i ≡ n → slice_get xs i ≡ Some x → sections_keys f first xs ≡ sections_keys f first (take i xs) ++ (section_keys f n x ++ sections_keys f (n + 1) (drop (i + 1) xs))
sections-cut f first i n [] x m e = absurd (cc e)
sections-cut f first zero n (t ∷ ts) x m e =
    let same : t ≡ x = cc e in
    let here : first ≡ n = omega (arith, m) in
    rw same (ap (λ k. section_keys f k x ++ sections_keys f (k + 1) ts) here)
sections-cut f first (suc i) n (t ∷ ts) x m e =
    let j : suc i + 1 ≡ suc (i + 1) = omega arith in
    rw j (ap (λ ks. section_keys f first t ++ ks) (sections-cut f (first + 1) i n ts x (omega (arith, m)) e) ∙ sym (append_assoc (section_keys f first t) (sections_keys f (first + 1) (take i ts)) _))

lines-cut : (f s : ℕ) (first i n : ℕ) (xs : List SectionChangedLine) (x : SectionChangedLine) → first + i ≡ n → slice_get xs i ≡ Some x → line_keys f s first xs ≡ line_keys f s first (take i xs) ++ ((line_key f s n ∷ []) ++ line_keys f s (n + 1) (drop (i + 1) xs))
lines-cut f s first i n [] x m e = absurd (cc e)
lines-cut f s first zero n (t ∷ ts) x m e =
    let here : first ≡ n = omega (arith, m) in
    ap (λ k. (line_key f s k ∷ []) ++ line_keys f s (k + 1) ts) here
lines-cut f s first (suc i) n (t ∷ ts) x m e =
    let j : suc i + 1 ≡ suc (i + 1) = omega arith in
    rw j (ap (λ ks. (line_key f s first ∷ []) ++ ks) (lines-cut f s (first + 1) i n ts x (omega (arith, m)) e) ∙ sym (append_assoc (line_key f s first ∷ []) (line_keys f s (first + 1) (take i ts)) _))

take-short : {X : Type 0} (n : ℕ) (xs : List X) → length (take n xs) ≤ n
take-short zero [] = omega arith
take-short zero (x ∷ xs) = omega arith
take-short (suc n) [] = omega arith
take-short (suc n) (x ∷ xs) = let h = take-short n xs in omega (arith, h)

not-below : (m n : ℕ) → n < m → nat_eq m n ≡ false
not-below m n h = grind (arith, nat_tests)

pub not-above : (m n : ℕ) → m < n → nat_eq m n ≡ false
not-above m n h = grind (arith, nat_tests)

module _ (q : SelectionKey → Bool) where
  pub at-file : (fs : List File) (f : ℕ) (file : File) → slice_get fs f ≡ Some file → ((j : ℕ) → nat_eq f j ≡ false → FileAway q j) → parted q (files_keys 0 fs) ≡ within (files_keys 0 (take f fs)) (files_keys (f + 1) (drop (f + 1) fs)) (parted q (file_key f ∷ sections_keys f 0 file.sections))
  at-file fs f file e away =
      ap (parted q) (files-cut 0 f f fs file (omega arith) e)
      ∙ parted-middle q (files_keys 0 (take f fs)) (file_key f ∷ sections_keys f 0 file.sections) (files_keys (f + 1) (drop (f + 1) fs))
      (files-away q 0 (take f fs) (λ j lo hi. away j (not-below f j (let h = take-short f fs in omega (arith, h, hi)))))
      (files-away q (f + 1) (drop (f + 1) fs) (λ j lo hi. away j (not-above f j (omega (arith, lo)))))

  pub at-section : (f s : ℕ) (ss : List Section) (section : Section) → slice_get ss s ≡ Some section → ((j : ℕ) → nat_eq s j ≡ false → SectionAway q f j) → parted q (sections_keys f 0 ss) ≡ within (sections_keys f 0 (take s ss)) (sections_keys f (s + 1) (drop (s + 1) ss)) (parted q (section_keys f s section))
  at-section f s ss section e away =
      ap (parted q) (sections-cut f 0 s s ss section (omega arith) e)
      ∙ parted-middle q (sections_keys f 0 (take s ss)) (section_keys f s section) (sections_keys f (s + 1) (drop (s + 1) ss))
      (sections-away q f 0 (take s ss) (λ j lo hi. away j (not-below s j (let h = take-short s ss in omega (arith, h, hi)))))
      (sections-away q f (s + 1) (drop (s + 1) ss) (λ j lo hi. away j (not-above s j (omega (arith, lo)))))

  pub at-line : (f s i : ℕ) (ls : List SectionChangedLine) (line : SectionChangedLine) → slice_get ls i ≡ Some line → ((j : ℕ) → nat_eq i j ≡ false → q (line_key f s j) ≡ false) → parted q (line_keys f s 0 ls) ≡ within (line_keys f s 0 (take i ls)) (line_keys f s (i + 1) (drop (i + 1) ls)) (parted q (line_key f s i ∷ []))
  at-line f s i ls line e away =
      ap (parted q) (lines-cut f s 0 i i ls line (omega arith) e)
      ∙ parted-middle q (line_keys f s 0 (take i ls)) (line_key f s i ∷ []) (line_keys f s (i + 1) (drop (i + 1) ls))
      (lines-away q f s 0 (take i ls) (λ j lo hi. away j (not-below i j (let h = take-short i ls in omega (arith, h, hi)))))
      (lines-away q f s (i + 1) (drop (i + 1) ls) (λ j lo hi. away j (not-above i j (omega (arith, lo)))))

-- ---- the keys of files, cut at a key

abbrev pub if_there : Bool → List SelectionKey → List SelectionKey → Option (List SelectionKey × List SelectionKey)
if_there true before after = Some (before, after)
if_there false before after = None

pub eq-self : (n : ℕ) → nat_eq n n ≡ true
eq-self n = (Decides-eqb n n).1 refl

past : {X : Type 0} (xs : List X) (i j : ℕ) → slice_get xs i ≡ None → j < length xs → nat_eq i j ≡ false
past [] i j e h = absurd (omega arith)
past (x ∷ xs) zero j e h = absurd (cc e)
past (x ∷ xs) (suc i) zero e h = grind (arith, nat_tests)
past (x ∷ xs) (suc i) (suc j) e h =
    let more = past xs i j e (omega arith) in grind (arith, nat_tests)

not-within : {X : Type 0} (xs : List X) (i : ℕ) → slice_get xs i ≡ None → nat_lt i (length xs) ≡ false
not-within [] i e = grind (arith, nat_tests)
not-within (x ∷ xs) zero e = absurd (cc e)
not-within (x ∷ xs) (suc i) e = let more = not-within xs i e in grind (arith, nat_tests)

is-within : {X : Type 0} (xs : List X) (i : ℕ) (x : X) → slice_get xs i ≡ Some x → nat_lt i (length xs) ≡ true
is-within xs i x e = let h = slice_get_within xs i x e in grind (arith, nat_tests)

none_away : (fs : List File) (j : ℕ) → FileAway (is_key keys.None) j
none_away fs j = (refl, λ s. (refl, λ i. refl))

pub file-other : (k : FileKey) (j : ℕ) → (nat_eq k.commit_idx 0 && nat_eq k.file_idx j) ≡ false → FileAway (is_key (keys.File k)) j
file-other k j e = (go (nat_eq k.commit_idx 0) (nat_eq k.file_idx j) e, λ s. (refl, λ i. refl))
  where
    go : (a b : Bool) → (a && b) ≡ false → (a && (b && true)) ≡ false
    go true true e = absurd (cc e)
    go true false e = refl
    go false b e = refl

pub section-other : (k : SectionKey) (j : ℕ) → (nat_eq k.commit_idx 0 && nat_eq k.file_idx j) ≡ false → FileAway (is_key (keys.Section k)) j
section-other k j e = (refl, λ s. (go (nat_eq k.commit_idx 0) (nat_eq k.file_idx j) _ e, λ i. refl))
  where
    go : (a b c : Bool) → (a && b) ≡ false → (a && (b && c)) ≡ false
    go true true c e = absurd (cc e)
    go true false c e = refl
    go false b c e = refl

pub line-other : (k : LineKey) (j : ℕ) → (nat_eq k.commit_idx 0 && nat_eq k.file_idx j) ≡ false → FileAway (is_key (keys.Line k)) j
line-other k j e = (refl, λ s. (refl, λ i. go (nat_eq k.commit_idx 0) (nat_eq k.file_idx j) _ e))
  where
    go : (a b c : Bool) → (a && b) ≡ false → (a && (b && c)) ≡ false
    go true true c e = absurd (cc e)
    go true false c e = refl
    go false b c e = refl

file-parts : (fs : List File) (k : FileKey) → parted (is_key (keys.File k)) (files_keys 0 fs) ≡ if_there (is_key_of fs (keys.File k)) (keys_before fs (keys.File k)) (keys_after fs (keys.File k))
file-parts fs k = by_commit (nat_eq k.commit_idx 0) refl
  where
    by_place : (r : Option File) → slice_get fs k.file_idx ≡ r → nat_eq k.commit_idx 0 ≡ true → parted (is_key (keys.File k)) (files_keys 0 fs) ≡ if_there (is_key_of fs (keys.File k)) (keys_before fs (keys.File k)) (keys_after fs (keys.File k))
    by_place None e c =
        rw (c, not-within fs k.file_idx e) (files-away (is_key (keys.File k)) 0 fs (λ j lo hi. file-other k j (rw c (past fs k.file_idx j e (omega (arith, hi))))))
    by_place (Some file) e c =
        at-file (is_key (keys.File k)) fs k.file_idx file e (λ j ne. file-other k j (rw (c, ne) refl))
        ∙ rw (c, eq-self k.file_idx, is-within fs k.file_idx file e, e, append-nil (files_keys 0 (take k.file_idx fs))) refl

    by_commit : (b : Bool) → nat_eq k.commit_idx 0 ≡ b → parted (is_key (keys.File k)) (files_keys 0 fs) ≡ if_there (is_key_of fs (keys.File k)) (keys_before fs (keys.File k)) (keys_after fs (keys.File k))
    by_commit true c = by_place (slice_get fs k.file_idx) refl c
    by_commit false c = rw c (files-away (is_key (keys.File k)) 0 fs (λ j lo hi. file-other k j (rw c refl)))

nothing-below : (i : ℕ) → nat_lt i 0 ≡ false
nothing-below i = grind (arith, nat_tests)

own-section : (q : SelectionKey → Bool) (f s : ℕ) (section : Section) → q (section_key f s) ≡ true → parted q (section_keys f s section) ≡ if_there (is_editable_section section) [] (line_keys f s 0 (lines_of section))
own-section q f s (Unchanged lines) e = refl
own-section q f s (Changed lines) e = rw e refl
own-section q f s (FileMode is_checked mode) e = rw e refl
own-section q f s (Binary is_checked old new) e = rw e refl

section-shape : (b : Bool) (pre post pre2 post2 lk ks : List SelectionKey) (fk : SelectionKey) → within pre post (parted_on false fk ks (within pre2 post2 (if_there b [] lk))) ≡ if_there b (pre ++ (fk ∷ pre2)) (lk ++ (post2 ++ post))
section-shape false pre post pre2 post2 lk ks fk = refl
section-shape true pre post pre2 post2 lk ks fk = rw (append-nil pre2, append_assoc lk post2 post) refl

section-parts : (fs : List File) (k : SectionKey) → parted (is_key (keys.Section k)) (files_keys 0 fs) ≡ if_there (is_key_of fs (keys.Section k)) (keys_before fs (keys.Section k)) (keys_after fs (keys.Section k))
section-parts fs k = by_commit (nat_eq k.commit_idx 0) refl
  where
    by_section : (file : File) → slice_get fs k.file_idx ≡ Some file → nat_eq k.commit_idx 0 ≡ true → (r : Option Section) → slice_get file.sections k.section_idx ≡ r → parted (is_key (keys.Section k)) (files_keys 0 fs) ≡ if_there (is_key_of fs (keys.Section k)) (keys_before fs (keys.Section k)) (keys_after fs (keys.Section k))
    by_section file e c None e2 =
        at-file (is_key (keys.Section k)) fs k.file_idx file e (λ j ne. section-other k j (rw (c, ne) refl))
        ∙ rw (e, e2, sections-away (is_key (keys.Section k)) k.file_idx 0 file.sections (λ j lo hi. (rw (c, eq-self k.file_idx, past file.sections k.section_idx j e2 (omega (arith, hi))) refl, λ i. refl)), c) refl
    by_section file e c (Some section) e2 =
        at-file (is_key (keys.Section k)) fs k.file_idx file e (λ j ne. section-other k j (rw (c, ne) refl))
        ∙ ap (λ r. within (files_keys 0 (take k.file_idx fs)) (files_keys (k.file_idx + 1) (drop (k.file_idx + 1) fs)) (parted_on false (file_key k.file_idx) (sections_keys k.file_idx 0 file.sections) r))
        (at-section (is_key (keys.Section k)) k.file_idx k.section_idx file.sections section e2 (λ j ne. (rw (c, eq-self k.file_idx, ne) refl, λ i. refl))
        ∙ ap (within (sections_keys k.file_idx 0 (take k.section_idx file.sections)) (sections_keys k.file_idx (k.section_idx + 1) (drop (k.section_idx + 1) file.sections)))
        (own-section (is_key (keys.Section k)) k.file_idx k.section_idx section (rw (c, eq-self k.file_idx, eq-self k.section_idx) refl)))
        ∙ section-shape (is_editable_section section) (files_keys 0 (take k.file_idx fs)) (files_keys (k.file_idx + 1) (drop (k.file_idx + 1) fs)) (sections_keys k.file_idx 0 (take k.section_idx file.sections)) (sections_keys k.file_idx (k.section_idx + 1) (drop (k.section_idx + 1) file.sections)) (line_keys k.file_idx k.section_idx 0 (lines_of section)) (sections_keys k.file_idx 0 file.sections) (file_key k.file_idx)
        ∙ rw (c, e, e2) refl

    by_file : (r : Option File) → slice_get fs k.file_idx ≡ r → nat_eq k.commit_idx 0 ≡ true → parted (is_key (keys.Section k)) (files_keys 0 fs) ≡ if_there (is_key_of fs (keys.Section k)) (keys_before fs (keys.Section k)) (keys_after fs (keys.Section k))
    by_file None e c =
        rw (c, e) (files-away (is_key (keys.Section k)) 0 fs (λ j lo hi. section-other k j (rw c (past fs k.file_idx j e (omega (arith, hi))))))
    by_file (Some file) e c = by_section file e c (slice_get file.sections k.section_idx) refl

    by_commit : (b : Bool) → nat_eq k.commit_idx 0 ≡ b → parted (is_key (keys.Section k)) (files_keys 0 fs) ≡ if_there (is_key_of fs (keys.Section k)) (keys_before fs (keys.Section k)) (keys_after fs (keys.Section k))
    by_commit true c = by_file (slice_get fs k.file_idx) refl c
    by_commit false c = rw c (files-away (is_key (keys.Section k)) 0 fs (λ j lo hi. section-other k j (rw c refl)))

lines-parts : (q : SelectionKey → Bool) (f s i : ℕ) (lines : List SectionChangedLine) → q (line_key f s i) ≡ true → ((j : ℕ) → nat_eq i j ≡ false → q (line_key f s j) ≡ false) → (r : Option SectionChangedLine) → slice_get lines i ≡ r → parted q (line_keys f s 0 lines) ≡ if_there (nat_lt i (length lines)) (line_keys f s 0 (take i lines)) (line_keys f s (i + 1) (drop (i + 1) lines))
lines-parts q f s i lines t away None e = rw (not-within lines i e) (lines-away q f s 0 lines (λ j lo hi. away j (past lines i j e (omega (arith, hi)))))
lines-parts q f s i lines t away (Some line) e =
    at-line q f s i lines line e away ∙ rw (t, is-within lines i line e, append-nil (line_keys f s 0 (take i lines))) refl

under : (b : Bool) (k : SelectionKey) (ks before after : List SelectionKey) → parted_on false k ks (if_there b before after) ≡ if_there b (k ∷ before) after
under true k ks before after = refl
under false k ks before after = refl

own-lines : (q : SelectionKey → Bool) (f s i : ℕ) (section : Section) → q (section_key f s) ≡ false → q (line_key f s i) ≡ true → ((j : ℕ) → nat_eq i j ≡ false → q (line_key f s j) ≡ false) → parted q (section_keys f s section) ≡ if_there (nat_lt i (length (lines_of section))) (section_key f s ∷ line_keys f s 0 (take i (lines_of section))) (line_keys f s (i + 1) (drop (i + 1) (lines_of section)))
own-lines q f s i (Unchanged lines) n t away = rw (nothing-below i) refl
own-lines q f s i (Changed lines) n t away =
    rw n (ap (parted_on false (section_key f s) (line_keys f s 0 lines)) (lines-parts q f s i lines t away (slice_get lines i) refl) ∙ under (nat_lt i (length lines)) (section_key f s) (line_keys f s 0 lines) _ _)
own-lines q f s i (FileMode is_checked mode) n t away = rw (nothing-below i, n) refl
own-lines q f s i (Binary is_checked old new) n t away = rw (nothing-below i, n) refl

line-shape : (b : Bool) (pre post pre2 post2 lpre lpost ks : List SelectionKey) (fk sk : SelectionKey) → within pre post (parted_on false fk ks (within pre2 post2 (if_there b (sk ∷ lpre) lpost))) ≡ if_there b ((pre ++ (fk ∷ pre2)) ++ (sk ∷ lpre)) (lpost ++ (post2 ++ post))
line-shape false pre post pre2 post2 lpre lpost ks fk sk = refl
line-shape true pre post pre2 post2 lpre lpost ks fk sk = rw (append_assoc lpost post2 post, append_assoc pre (fk ∷ pre2) (sk ∷ lpre)) refl

line-parts : (fs : List File) (k : LineKey) → parted (is_key (keys.Line k)) (files_keys 0 fs) ≡ if_there (is_key_of fs (keys.Line k)) (keys_before fs (keys.Line k)) (keys_after fs (keys.Line k))
line-parts fs k = by_commit (nat_eq k.commit_idx 0) refl
  where
    by_section : (file : File) → slice_get fs k.file_idx ≡ Some file → nat_eq k.commit_idx 0 ≡ true → (r : Option Section) → slice_get file.sections k.section_idx ≡ r → parted (is_key (keys.Line k)) (files_keys 0 fs) ≡ if_there (is_key_of fs (keys.Line k)) (keys_before fs (keys.Line k)) (keys_after fs (keys.Line k))
    by_section file e c None e2 =
        at-file (is_key (keys.Line k)) fs k.file_idx file e (λ j ne. line-other k j (rw (c, ne) refl))
        ∙ rw (e, e2, sections-away (is_key (keys.Line k)) k.file_idx 0 file.sections (λ j lo hi. (refl, λ i. rw (c, eq-self k.file_idx, past file.sections k.section_idx j e2 (omega (arith, hi))) refl)), c, nothing-below k.line_idx) refl
    by_section file e c (Some section) e2 =
        at-file (is_key (keys.Line k)) fs k.file_idx file e (λ j ne. line-other k j (rw (c, ne) refl))
        ∙ ap (λ r. within (files_keys 0 (take k.file_idx fs)) (files_keys (k.file_idx + 1) (drop (k.file_idx + 1) fs)) (parted_on false (file_key k.file_idx) (sections_keys k.file_idx 0 file.sections) r))
        (at-section (is_key (keys.Line k)) k.file_idx k.section_idx file.sections section e2 (λ j ne. (refl, λ i. rw (c, eq-self k.file_idx, ne) refl))
        ∙ ap (within (sections_keys k.file_idx 0 (take k.section_idx file.sections)) (sections_keys k.file_idx (k.section_idx + 1) (drop (k.section_idx + 1) file.sections)))
        (own-lines (is_key (keys.Line k)) k.file_idx k.section_idx k.line_idx section refl (rw (c, eq-self k.file_idx, eq-self k.section_idx, eq-self k.line_idx) refl) (λ j ne. rw (c, eq-self k.file_idx, eq-self k.section_idx, ne) refl)))
        ∙ line-shape (nat_lt k.line_idx (length (lines_of section))) (files_keys 0 (take k.file_idx fs)) (files_keys (k.file_idx + 1) (drop (k.file_idx + 1) fs)) (sections_keys k.file_idx 0 (take k.section_idx file.sections)) (sections_keys k.file_idx (k.section_idx + 1) (drop (k.section_idx + 1) file.sections)) (line_keys k.file_idx k.section_idx 0 (take k.line_idx (lines_of section))) (line_keys k.file_idx k.section_idx (k.line_idx + 1) (drop (k.line_idx + 1) (lines_of section))) (sections_keys k.file_idx 0 file.sections) (file_key k.file_idx) (section_key k.file_idx k.section_idx)
        ∙ rw (c, e, e2) refl

    by_file : (r : Option File) → slice_get fs k.file_idx ≡ r → nat_eq k.commit_idx 0 ≡ true → parted (is_key (keys.Line k)) (files_keys 0 fs) ≡ if_there (is_key_of fs (keys.Line k)) (keys_before fs (keys.Line k)) (keys_after fs (keys.Line k))
    by_file None e c =
        rw (c, e, nothing-below k.line_idx) (files-away (is_key (keys.Line k)) 0 fs (λ j lo hi. line-other k j (rw c (past fs k.file_idx j e (omega (arith, hi))))))
    by_file (Some file) e c = by_section file e c (slice_get file.sections k.section_idx) refl

    by_commit : (b : Bool) → nat_eq k.commit_idx 0 ≡ b → parted (is_key (keys.Line k)) (files_keys 0 fs) ≡ if_there (is_key_of fs (keys.Line k)) (keys_before fs (keys.Line k)) (keys_after fs (keys.Line k))
    by_commit true c = by_file (slice_get fs k.file_idx) refl c
    by_commit false c = rw c (files-away (is_key (keys.Line k)) 0 fs (λ j lo hi. line-other k j (rw c refl)))

-- the keys before a key and those after it, if it is one of the files' keys
pub parts : (fs : List File) (key : SelectionKey) → parted (is_key key) (files_keys 0 fs) ≡ if_there (is_key_of fs key) (keys_before fs key) (keys_after fs key)
parts fs keys.None = files-away (is_key keys.None) 0 fs (λ j lo hi. none_away fs j)
parts fs (keys.File k) = file-parts fs k
parts fs (keys.Section k) = section-parts fs k
parts fs (keys.Line k) = line-parts fs k
