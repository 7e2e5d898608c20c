-- Labels in two lists, and the label with the heading above a section.
use Rattle.std.proofs.Common.{◌≡◌, ℕ, zero, suc, ◌+◌, ◌-◌, ◌<◌, ◌≤◌, ◌&&◌, ◌||◌, ◌⊎◌, inl, inr, Bool, true, false, nat_lt, nat_eq, List, [], ◌∷◌, ◌++◌, length, set, refl, sym, ap, ◌∙◌, arith, ⊎_elim, append_assoc, append-nil, Option, Some, None}
use Rattle.std.specs.Prelude.{◌==◌, not, count_by, find, is_some, position, slice_get, take, if◌then◌else◌}
use Rattle.std.specs.List.{flat_map, position_or_len}
use Rattle.std.specs.Option.{option_and_then, option_or, option_to_list}
use Rattle.std.proofs.lemmas.Bool.{cases_lt}
use Rattle.std.proofs.lemmas.Bool.Decides.{nat_tests}
use Rattle.std.proofs.lemmas.List.{get_or_append_left, length-append, set-append_left, set-append_right}
use Rattle.std.proofs.lemmas.List.Folds.{find-append, find_at}
use Rattle.std.proofs.lemmas.List.Quantifiers.{position-Some}
use Rattle.std.proofs.lemmas.List.Sums.{position_or_len_is, sum_by-cons}
use Rattle.std.proofs.lemmas.Option.{slice_get-get_or}
use Rattle.scm_types.specs.Marks.{is_editable_section}
use Rattle.scm_types.specs.declared.file.File.{File}
use Rattle.scm_types.specs.declared.section.Section.{Section}
use Rattle.scm_front_paint.specs.declared.labels.Label.{Label}
use Rattle.scm_front_paint.specs.Headings.{AreNamed, AreSomeNamed, GainsSome, heading_label, heading_text, is_changed, label_for, label_in, labels_below, labels_from, labels_in, last_heading, number_below, old_lines}
use Rattle.scm_front_paint.specs.Labels.{is_of, put_at, text_in, text_of, with_label}
use Rattle.scm_front_paint.proofs.HeadingLemmas.{heading-append}
use Rattle.scm_front_paint.proofs.LabelLemmas.{none-found}

-- ---- a label that one of two lists has

no-label : Label
no-label = record { file = 0; section = 0; text = [] }

pub found : (p : Label → Bool) (labels : List Label) → is_some (position p labels) ≡ true → is_some (find p labels) ≡ true
found p labels e = ap (λ (o : Option Label). is_some o) (find_at p labels) ∙ go (nat_lt (position_or_len p labels) (length labels)) refl e
  where
    go : (b : Bool) → nat_lt (position_or_len p labels) (length labels) ≡ b → is_some (if b then Some (position_or_len p labels) else None) ≡ true
        → is_some (slice_get labels (position_or_len p labels)) ≡ true
    go true is f =
        let within : position_or_len p labels < length labels = grind (arith, nat_tests) in
        ap (λ (o : Option Label). is_some o) (slice_get-get_or labels (position_or_len p labels) no-label within)
    go false is f = absurd (cc f)

missing : (o : Option ℕ) → is_some o ≡ false → o ≡ None
missing None e = refl
missing (Some i) e = absurd (cc e)

first-of : (o q : Option Label) → is_some o ≡ true → option_or o q ≡ o
first-of None q e = absurd (cc e)
first-of (Some label) q e = refl

pub text-first : (a b : List Label) (file section : ℕ) → is_some (position (is_of file section) a) ≡ true → text_of a file section ≡ text_of (a ++ b) file section
text-first a b file section e =
    let p = is_of file section in
    ap text_in (sym (find-append p a b ∙ first-of (find p a) (find p b) (found p a e)))

pub text-second : (a b : List Label) (file section : ℕ) → is_some (position (is_of file section) a) ≡ false → text_of b file section ≡ text_of (a ++ b) file section
text-second a b file section e =
    let p = is_of file section in
    ap text_in (sym (find-append p a b ∙ ap (λ (o : Option Label). option_or o (find p b)) (none-found p a (missing (position p a) e))))

-- ---- a label that is put into one of two lists

-- one that the first list has
at-first : (p : Label → Bool) (a b : List Label) (i : ℕ) → position p a ≡ Some i → position p (a ++ b) ≡ Some i
at-first p a b i e =
    let at = position-Some p a i no-label e in
    let within = at.0 in
    let long = length-append a b in
    let place : position_or_len p (a ++ b) ≡ i =
    position_or_len_is p (a ++ b) i no-label (omega (arith, long, within))
    (λ k h. ap p (get_or_append_left a b no-label k (omega (arith, within, h))) ∙ at.2 k h)
    (λ _. ap p (get_or_append_left a b no-label i within) ∙ at.1) in
    let inside : nat_lt i (length (a ++ b)) ≡ true = let less : i < length (a ++ b) = omega (arith, long, within) in grind (arith, nat_tests) in
    ap (λ (k : ℕ). if nat_lt k (length (a ++ b)) then Some k else None) place ∙ ap (λ (t : Bool). if t then Some i else None) inside

pub put-first : (label : Label) (a b : List Label) → (is_some (position (is_of label.file label.section) a) || (length b == 0)) ≡ true
    → with_label label a ++ b ≡ with_label label (a ++ b)
put-first label a b e = go (position (is_of label.file label.section) a) refl e
  where
    nothing : (list : List Label) → position (is_of label.file label.section) a ≡ None → (length list == 0) ≡ true → put_at None label a ++ list ≡ with_label label (a ++ list)
    nothing [] is f = append-nil (a ++ label ∷ []) ∙ sym (ap (λ (ls : List Label). with_label label ls) (append-nil a) ∙ ap (λ (o : Option ℕ). put_at o label a) is)
    nothing (other ∷ more) is f = let none : length (other ∷ more) ≡ 0 = grind (arith, nat_tests) in absurd (omega (arith, none))

    go : (o : Option ℕ) → position (is_of label.file label.section) a ≡ o → (is_some o || (length b == 0)) ≡ true → put_at o label a ++ b ≡ with_label label (a ++ b)
    go None is f = nothing b is f
    go (Some i) is f =
        sym (ap (λ (o : Option ℕ). put_at o label (a ++ b)) (at-first (is_of label.file label.section) a b i is) ∙ set-append_left a b i label (position-Some (is_of label.file label.section) a i no-label is).0)

past : (p : Label → Bool) (a b : List Label) → find p a ≡ None → position_or_len p (a ++ b) ≡ length a + position_or_len p b
past p [] b e = let same : position_or_len p b ≡ 0 + position_or_len p b = omega arith in same
past p (label ∷ a) b e = go (p label) (λ f. past p a b f) e
  where
    go : (t : Bool) → (find p a ≡ None → position_or_len p (a ++ b) ≡ length a + position_or_len p b) → (if t then Some label else find p a) ≡ None
        → (if not t then 1 + position_or_len p (a ++ b) else 0) ≡ suc (length a) + position_or_len p b
    go true before-this f = absurd (cc f)
    go false before-this f = let before = before-this f in let is : 1 + position_or_len p (a ++ b) ≡ suc (length a) + position_or_len p b = omega (arith, before) in is

shifted : (k n m : ℕ) → nat_lt (k + n) (k + m) ≡ nat_lt n m
shifted k n m = ⊎_elim (λ (less : n < m). grind (arith, nat_tests)) (λ (rest : m ≤ n). grind (arith, nat_tests)) (cases_lt n m)

at-second : (p : Label → Bool) (a b : List Label) → find p a ≡ None
    → position p (a ++ b) ≡ (if nat_lt (position_or_len p b) (length b) then Some (length a + position_or_len p b) else None)
at-second p a b e =
    ap (λ (k : ℕ). if nat_lt k (length (a ++ b)) then Some k else None) (past p a b e)
    ∙ ap (λ (n : ℕ). if nat_lt (length a + position_or_len p b) n then Some (length a + position_or_len p b) else None) (length-append a b)
    ∙ ap (λ (t : Bool). if t then Some (length a + position_or_len p b) else None) (shifted (length a) (position_or_len p b) (length b))

neither : (t u : Bool) → (t || u) ≡ false → t ≡ false
neither true u e = absurd (cc e)
neither false u e = refl

pub put-second : (label : Label) (a b : List Label) → (is_some (position (is_of label.file label.section) a) || (length b == 0)) ≡ false
    → a ++ with_label label b ≡ with_label label (a ++ b)
put-second label a b e = go (nat_lt (position_or_len (is_of label.file label.section) b) (length b)) ∙ ap (λ (o : Option ℕ). put_at o label (a ++ b)) (sym (at-second (is_of label.file label.section) a b free))
  where
    free : find (is_of label.file label.section) a ≡ None
    free = none-found (is_of label.file label.section) a (missing (position (is_of label.file label.section) a) (neither (is_some (position (is_of label.file label.section) a)) (length b == 0) e))

    go : (t : Bool) → a ++ put_at (if t then Some (position_or_len (is_of label.file label.section) b) else None) label b ≡ put_at (if t then Some (length a + position_or_len (is_of label.file label.section) b) else None) label (a ++ b)
    go true =
        let n = position_or_len (is_of label.file label.section) b in
        let at : n ≡ length a + n - length a = omega arith in
        ap (λ (k : ℕ). a ++ set b k label) at ∙ sym (set-append_right a b (length a) (length a + n) label refl (omega arith))
    go false = sym (append_assoc a b (label ∷ []))

-- ---- the label with the heading above a section

own-label : (b : Bool) (file section : ℕ) (label : Label) → is_of file section label ≡ true
    → find (is_of file section) (option_to_list (if b then Some label else None)) ≡ (if b then Some label else None)
own-label true file section label is = ap (λ (t : Bool). if t then Some label else None) is
own-label false file section label is = refl

other-label : (b : Bool) (file section : ℕ) (label : Label) → is_of file section label ≡ false
    → find (is_of file section) (option_to_list (if b then Some label else None)) ≡ None
other-label true file section label is = ap (λ (t : Bool). if t then Some label else None) is
other-label false file section label is = refl

-- the label of section `index`, where another one is looked for
other-section : (file index number total f s : ℕ) (above : List ℕ) (section : Section) → (nat_eq file f && nat_eq index s) ≡ false
    → find (is_of f s) (option_to_list (heading_label file index number total above section)) ≡ None
other-section file index number total f s above section is =
    other-label (is_changed section && not (length above == 0)) f s (record { file = file; section = index; text = heading_text number total above }) is

abbrev pub Lacks : ℕ → ℕ → List Label → Type 0
Lacks f s labels = find (is_of f s) labels ≡ None

lacks-both : (f s : ℕ) (a b : List Label) → Lacks f s a → Lacks f s b → Lacks f s (a ++ b)
lacks-both f s a b d e = find-append (is_of f s) a b ∙ ap (λ (o : Option Label). option_or o (find (is_of f s) b)) d ∙ e

-- another file
elsewhere : (file total index number f s : ℕ) (above : List ℕ) (sections : List Section) → nat_eq file f ≡ false → Lacks f s (labels_below file total index number above sections)
unfolding labels_below
elsewhere file total index number f s above [] is = refl
elsewhere file total index number f s above (section ∷ more) is =
    lacks-both f s _ _
    (other-section file index (number + 1) total f s above section (ap (λ (t : Bool). t && nat_eq index s) is))
    (elsewhere file total (index + 1) (number_below number section) f s (last_heading above (old_lines section)) more is)

-- an earlier section
earlier : (file total index number f s : ℕ) (above : List ℕ) (sections : List Section) → s < index → Lacks f s (labels_below file total index number above sections)
unfolding labels_below
earlier file total index number f s above [] h = refl
earlier file total index number f s above (section ∷ more) h =
    lacks-both f s _ _
    (other-section file index (number + 1) total f s above section (apart file f index s h))
    (earlier file total (index + 1) (number_below number section) f s (last_heading above (old_lines section)) more (omega (arith, h)))
  where
    apart : (file f index s : ℕ) → s < index → (nat_eq file f && nat_eq index s) ≡ false
    apart file f index s h = grind (arith, nat_tests)

same-place : (file s : ℕ) → (nat_eq file file && nat_eq s s) ≡ true
same-place file s = grind (arith, nat_tests)

apart-place : (file index s : ℕ) → index < s → (nat_eq file file && nat_eq index s) ≡ false
apart-place file index s h = grind (arith, nat_tests)

only-first : (o : Option Label) → option_or o None ≡ o
only-first None = refl
only-first (Some label) = refl

number-on : (b : Bool) (number count : ℕ) → (if b then number + 1 else number) + count ≡ number + ((if b then 1 else 0) + count)
number-on true number count = let is : number + 1 + count ≡ number + (1 + count) = omega arith in is
number-on false number count = let is : number + count ≡ number + (0 + count) = omega arith in is

-- section `s`, which is the one at place `k` of the last ones
pub at-section : (file total index number s k n : ℕ) (above : List ℕ) (sections : List Section) → s ≡ index + k
    → n ≡ number + count_by is_editable_section (take k sections) + 1
    → find (is_of file s) (labels_below file total index number above sections)
    ≡ option_and_then (heading_label file s n total (last_heading above (flat_map old_lines (take k sections)))) (slice_get sections k)
unfolding labels_below
at-section file total index number s k n above [] is many = refl
at-section file total index number s zero n above (section ∷ more) is many =
    let here : index ≡ s = omega (arith, is) in
    let numbered : number + 1 ≡ n = omega (arith, many) in
    let o = is_changed section && not (length above == 0) in
    find-append (is_of file s) (option_to_list (heading_label file index (number + 1) total above section)) (labels_below file total (index + 1) (number_below number section) (last_heading above (old_lines section)) more)
    ∙ ap (λ (q : Option Label). option_or (find (is_of file s) (option_to_list (heading_label file index (number + 1) total above section))) q)
    (earlier file total (index + 1) (number_below number section) file s (last_heading above (old_lines section)) more (omega (arith, here)))
    ∙ only-first (find (is_of file s) (option_to_list (heading_label file index (number + 1) total above section)))
    ∙ ap (λ (i : ℕ). find (is_of file s) (option_to_list (heading_label file i (number + 1) total above section))) here
    ∙ ap (λ (m : ℕ). find (is_of file s) (option_to_list (heading_label file s m total above section))) numbered
    ∙ own-label o file s (record { file = file; section = s; text = heading_text n total above }) (same-place file s)
at-section file total index number s (suc k) n above (section ∷ more) is many =
    let less : index < s = omega (arith, is) in
    let counted =
    number-on (is_editable_section section) number (count_by is_editable_section (take k more))
    ∙ ap (λ (m : ℕ). number + m) (sym (sum_by-cons (λ (s : Section). if is_editable_section s then 1 else 0) section (take k more))) in
    find-append (is_of file s) (option_to_list (heading_label file index (number + 1) total above section)) (labels_below file total (index + 1) (number_below number section) (last_heading above (old_lines section)) more)
    ∙ ap (λ (q : Option Label). option_or q (find (is_of file s) (labels_below file total (index + 1) (number_below number section) (last_heading above (old_lines section)) more)))
    (other-section file index (number + 1) total file s above section (apart-place file index s less))
    ∙ at-section file total (index + 1) (number_below number section) s k n (last_heading above (old_lines section)) more (omega (arith, is))
    (many ∙ sym (ap (λ (m : ℕ). m + 1) counted))
    ∙ ap (λ (heading : List ℕ). option_and_then (heading_label file s n total heading) (slice_get more k))
    (sym (heading-append above (old_lines section) (flat_map old_lines (take k more))))

-- the label of a section among those of its file
in-file : (file s : ℕ) (sections : List Section) → find (is_of file s) (labels_in file sections) ≡ label_in file sections s
in-file file s sections =
    at-section file (count_by is_editable_section sections) 0 0 s s (count_by is_editable_section (take s sections) + 1) [] sections
    (let is : s ≡ 0 + s = omega arith in is)
    (let many : count_by is_editable_section (take s sections) + 1 ≡ 0 + count_by is_editable_section (take s sections) + 1 = omega arith in many)

-- an earlier file
before-files : (first f s : ℕ) (files : List File) → f < first → Lacks f s (labels_from first files)
unfolding labels_from
before-files first f s [] h = refl
before-files first f s (file ∷ more) h =
    lacks-both f s _ _
    (elsewhere first (count_by is_editable_section file.sections) 0 0 f s [] file.sections (let other : nat_eq first f ≡ false = grind (arith, nat_tests) in other))
    (before-files (first + 1) f s more (omega (arith, h)))

-- file `f`, which is the one at place `k` of the last ones
at-file : (first f s k : ℕ) (files : List File) → f ≡ first + k
    → find (is_of f s) (labels_from first files) ≡ option_and_then (λ (file : File). label_in f file.sections s) (slice_get files k)
unfolding labels_from
at-file first f s k [] is = refl
at-file first f s zero (file ∷ more) is =
    let here : first ≡ f = omega (arith, is) in
    find-append (is_of f s) (labels_in first file.sections) (labels_from (first + 1) more)
    ∙ ap (λ (o : Option Label). option_or (find (is_of f s) (labels_in first file.sections)) o) (before-files (first + 1) f s more (omega (arith, here)))
    ∙ only-first (find (is_of f s) (labels_in first file.sections))
    ∙ ap (λ (n : ℕ). find (is_of f s) (labels_in n file.sections)) here
    ∙ in-file f s file.sections
at-file first f s (suc k) (file ∷ more) is =
    let less : first < f = omega (arith, is) in
    find-append (is_of f s) (labels_in first file.sections) (labels_from (first + 1) more)
    ∙ ap (λ (o : Option Label). option_or o (find (is_of f s) (labels_from (first + 1) more)))
    (elsewhere first (count_by is_editable_section file.sections) 0 0 f s [] file.sections (let other : nat_eq first f ≡ false = grind (arith, nat_tests) in other))
    ∙ at-file (first + 1) f s k more (omega (arith, is))

pub all-headings : (files : List File) (f s : ℕ) → find (is_of f s) (labels_from 0 files) ≡ label_for files f s
all-headings files f s = at-file 0 f s f files (let is : f ≡ 0 + f = omega arith in is)

-- ---- sections that are named

found-all : (a b c : List Label) (f s : ℕ) → find (is_of f s) (a ++ (b ++ c)) ≡ option_or (find (is_of f s) (a ++ b)) (find (is_of f s) c)
found-all a b c f s = ap (λ (ls : List Label). find (is_of f s) ls) (sym (append_assoc a b c)) ∙ find-append (is_of f s) (a ++ b) c

pub are-named : (files : List File) (a b new : List Label) → new ≡ b ++ labels_from 0 files → AreNamed files (a ++ b) (a ++ new)
are-named files a b new e = λ file section.
    ap (λ (ls : List Label). text_of (a ++ ls) file section) e
    ∙ ap text_in (found-all a b (labels_from 0 files) file section
    ∙ ap (λ (o : Option Label). option_or (find (is_of file section) (a ++ b)) o) (all-headings files file section))

-- a part of the labels
some-of : (q old part rest : Option Label) → q ≡ option_or part rest
    → (text_in (option_or old part) ≡ text_in (option_or old q)) ⊎ (text_in (option_or old part) ≡ text_in old)
some-of q None None rest e = inr refl
some-of q None (Some label) rest e = inl (sym (ap text_in e))
some-of q (Some own) part rest e = inl refl

pub are-some-named : (files : List File) (a b new : List Label) → GainsSome (labels_from 0 files) b new → AreSomeNamed files (a ++ b) (a ++ new)
are-some-named files a b new g = λ file section.
    let p = is_of file section in
    let part = g.1.0 in
    let now : find p (a ++ new) ≡ option_or (find p (a ++ b)) (find p part) =
    ap (λ (ls : List Label). find p (a ++ ls)) g.1.2 ∙ found-all a b part file section in
    let all : label_for files file section ≡ option_or (find p part) (find p g.0) =
    sym (all-headings files file section) ∙ ap (λ (ls : List Label). find p ls) g.1.1 ∙ find-append p part g.0 in
    rw now (some-of (label_for files file section) (find p (a ++ b)) (find p part) (find p g.0) all)
