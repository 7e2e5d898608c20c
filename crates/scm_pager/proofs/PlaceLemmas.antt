-- A line that a side has stands on it behind the lines that the side has before it.
use Rattle.std.proofs.Common.{◌≡◌, ℕ, zero, suc, ◌+◌, ◌<◌, ◌≤◌, Bool, true, false, List, [], ◌∷◌, ◌++◌, length, map, filter, take, slice_get, Some, None, option_map, if◌then◌else◌, refl, ap, sym, ◌∙◌, arith}
use Rattle.std.proofs.lemmas.List.{length-append}
use Rattle.std.proofs.lemmas.Option.{slice_get-map, slice_get_within}
use Rattle.std.specs.List.{flat_map, list_any}
use Rattle.scm_types.specs.declared.file.File.{File}
use Rattle.scm_types.specs.declared.line.SectionChangedLine.{SectionChangedLine}
use Rattle.scm_types.specs.declared.section.Section.{Section}
use Rattle.scm_types.specs.declared.section.Section.TheVariants as section
use Rattle.scm_types.specs.Split.{is_binary, takes}
use Rattle.scm_pager.specs.Counts.{count_after, counted}
use Rattle.scm_pager.specs.Places.{line_at}
use Rattle.scm_pager.specs.Sides.{changed_line, last_mark, lines_of, shown_lines}
use Rattle.scm_pager.specs.Windows.{capped}
use Rattle.scm_pager.proofs.SectionLemmas.{or-left, or-right, tail-whole}

-- ---- lists

behind : {A : Type 0} (xs ys : List A) (n : ℕ) → slice_get (xs ++ ys) (length xs + n) ≡ slice_get ys n
behind [] ys n =
    let none : 0 + n ≡ n = omega arith in
    ap (slice_get ys) none
behind (x ∷ xs) ys n =
    let next : suc (length xs) + n ≡ suc (length xs + n) = omega arith in
    ap (slice_get (x ∷ (xs ++ ys))) next ∙ behind xs ys n

before : {A : Type 0} (xs ys : List A) (n : ℕ) (v : A) → slice_get xs n ≡ Some v → slice_get (xs ++ ys) n ≡ Some v
before [] ys n v e = cc
before (x ∷ xs) ys zero v e = e
before (x ∷ xs) ys (suc n) v e = before xs ys n v e

-- an element of the piece of the element at index `i` stands behind the pieces before it
in-piece : {A B : Type 0} (f : A → List B) (xs : List A) (i j : ℕ) (x : A) (v : B) → slice_get xs i ≡ Some x → slice_get (f x) j ≡ Some v
    → slice_get (flat_map f xs) (length (flat_map f (take i xs)) + j) ≡ Some v
in-piece f [] i j x v e h = cc
in-piece f (y ∷ xs) zero j x v e h =
    let same : y ≡ x = cc in
    let none : 0 + j ≡ j = omega arith in
    ap (slice_get (f y ++ flat_map f xs)) none ∙ before (f y) (flat_map f xs) j v (ap (λ z. slice_get (f z) j) same ∙ h)
in-piece f (y ∷ xs) (suc i) j x v e h =
    let long : length (f y ++ flat_map f (take i xs)) + j ≡ length (f y) + (length (flat_map f (take i xs)) + j) =
    ap (λ n. n + j) (length-append (f y) (flat_map f (take i xs))) ∙ omega arith in
    ap (slice_get (f y ++ flat_map f xs)) long ∙ behind (f y) (flat_map f xs) (length (flat_map f (take i xs)) + j) ∙ in-piece f xs i j x v e h

-- an element that passes a test stands behind those before it that do
kept : {A : Type 0} (p : A → Bool) (xs : List A) (i : ℕ) (v : A) → slice_get xs i ≡ Some v → p v ≡ true → slice_get (filter p xs) (length (filter p (take i xs))) ≡ Some v
kept p [] i v e h = cc
kept p (x ∷ xs) zero v e h =
    let same : x ≡ v = cc in
    let passes : p x ≡ true = ap p same ∙ h in
    rw passes e
kept p (x ∷ xs) (suc i) v e h = pick (p x) (kept p xs i v e h)
  where
    pick : (b : Bool) → slice_get (filter p xs) (length (filter p (take i xs))) ≡ Some v
        → slice_get (if b then x ∷ filter p xs else filter p xs) (length (if b then x ∷ filter p (take i xs) else filter p (take i xs))) ≡ Some v
    pick true h = h
    pick false h = h

-- ---- files without binary contents

no-mark : (ss : List Section) → list_any is_binary ss ≡ false → last_mark None ss ≡ None
no-mark [] e = refl
no-mark (section.Unchanged lines ∷ ss) e = no-mark ss e
no-mark (section.Changed lines ∷ ss) e = no-mark ss e
no-mark (section.FileMode is_checked mode ∷ ss) e = no-mark ss e
no-mark (section.Binary is_checked old new ∷ ss) e = cc

any-take : (ss : List Section) (i : ℕ) → list_any is_binary ss ≡ false → list_any is_binary (take i ss) ≡ false
any-take [] zero e = refl
any-take [] (suc i) e = refl
any-take (s ∷ ss) zero e = refl
any-take (s ∷ ss) (suc i) e = rw (or-left (is_binary s) (list_any is_binary ss) e) (any-take ss i (or-right (is_binary s) (list_any is_binary ss) e))

sides-are : (selected : Bool) (file : File) → list_any is_binary file.sections ≡ false → shown_lines selected file ≡ flat_map (lines_of selected) file.sections
sides-are selected file e = rw (no-mark file.sections e, tail-whole file.sections e) refl

counts-are : (selected : Bool) (n : ℕ) (ss : List Section) → list_any is_binary ss ≡ false → counted selected (capped n) ss ≡ capped (n + length (flat_map (lines_of selected) ss))
counts-are selected n [] e = omega arith
counts-are selected n (s ∷ ss) e =
    let here : is_binary s ≡ false = or-left (is_binary s) (list_any is_binary ss) e in
    let one : count_after selected (capped n) s ≡ capped (n + length (lines_of selected s)) = rw here (omega arith) in
    let long : n + length (lines_of selected s) + length (flat_map (lines_of selected) ss) ≡ n + length (lines_of selected s ++ flat_map (lines_of selected) ss) =
    omega (arith, length-append (lines_of selected s) (flat_map (lines_of selected) ss)) in
    ap (λ m. counted selected m ss) one
    ∙ counts-are selected (n + length (lines_of selected s)) ss (or-right (is_binary s) (list_any is_binary ss) e)
    ∙ ap capped long

-- ---- a line

-- a changed line that a side has is the line of the side where it is looked for, if the side has no more lines than the code counts
pub line-found : (selected : Bool) (file : File) (index line : ℕ) (lines : List SectionChangedLine) (l : SectionChangedLine)
    → list_any is_binary file.sections ≡ false → length (shown_lines selected file) ≤ 18446744073709551615
    → slice_get file.sections index ≡ Some (section.Changed lines) → slice_get lines line ≡ Some l → takes selected l ≡ true
    → slice_get (shown_lines selected file) (line_at selected file index line) ≡ Some (changed_line l)
line-found selected file index line lines l whole short at here has =
    let above = length (flat_map (lines_of selected) (take index file.sections)) in
    let within = length (filter (takes selected) (take line lines)) in
    let side : shown_lines selected file ≡ flat_map (lines_of selected) file.sections = sides-are selected file whole in
    let inner : slice_get (map changed_line (filter (takes selected) lines)) within ≡ Some (changed_line l) =
    slice_get-map changed_line (filter (takes selected) lines) within ∙ ap (option_map changed_line) (kept (takes selected) lines line l here has) in
    let found : slice_get (flat_map (lines_of selected) file.sections) (above + within) ≡ Some (changed_line l) =
    in-piece (lines_of selected) file.sections index within (section.Changed lines) (changed_line l) at inner in
    let low : above + within < length (flat_map (lines_of selected) file.sections) = slice_get_within (flat_map (lines_of selected) file.sections) (above + within) (changed_line l) found in
    let none : 0 + above ≡ above = omega arith in
    let counted_above : counted selected 0 (take index file.sections) ≡ capped above =
    counts-are selected 0 (take index file.sections) (any-take file.sections index whole) ∙ ap capped none in
    let bound : length (flat_map (lines_of selected) file.sections) ≤ 18446744073709551615 = rw (sym side) short in
    let place : line_at selected file index line ≡ above + within = rw (at, counted_above) (omega (arith, low, bound)) in
    rw (side, place) found
