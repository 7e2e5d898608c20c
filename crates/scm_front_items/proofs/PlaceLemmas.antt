-- The marks of a state by file, section and item, and what writing runs over them leaves.
use Rattle.std.proofs.Common.{◌≡◌, ◌≢◌, ℕ, zero, suc, ◌+◌, ◌<◌, ◌≤◌, Bool, true, false, cond, List, [], ◌∷◌, map, fold, set, length, refl, sym, ap, ◌∙◌, subst, Option, Some, None, ◌⊎◌, inl, inr, arith}
use Rattle.std.specs.Prelude.{not, slice_get, option_map}
use Rattle.std.specs.List.{list_all}
use Rattle.std.proofs.lemmas.Bool.{and_parts, cases_eq}
use Rattle.std.proofs.lemmas.List.{length-map, length-set}
use Rattle.std.proofs.lemmas.Option.{slice_get-map}
use Rattle.scm_types.specs.declared.file.File.{File}
use Rattle.scm_types.specs.declared.section.Section.{Section}
use Rattle.scm_types.specs.Edits.{modify}
use Rattle.scm_types.specs.Marks.{section_marks}
use Rattle.scm_types.proofs.EditLemmas.{map-modify-same, slice_get-modify, slice_get-modify-other}
use Rattle.scm_selection.specs.KeysAround.{sections_at, sections_in}
use Rattle.scm_front_items.specs.declared.runs.Run.{Run}
use Rattle.scm_front_items.specs.Runs.{marks_of_file, marks_of_files, overwritten, with_run, marks_with}
use Rattle.scm_front_items.specs.Steps.{marks_in, marks_at, agree, is_as_run, changed_runs, changed_step}
use Rattle.scm_front_items.specs.Targets.{is_as, passes_if_there}

abbrev pub Marks : Type 0
Marks = List (List (List Bool))

-- the list, if there is one
abbrev pub list_in : {X : Type 0} → Option (List X) → List X
list_in None = []
list_in (Some xs) = xs

-- the marks of a section
abbrev pub inner : Marks → ℕ → ℕ → List Bool
inner m f s = list_in (slice_get (list_in (slice_get m f)) s)

-- the mark of an item
abbrev pub mark_at : Marks → ℕ → ℕ → ℕ → Option Bool
mark_at m f s i = slice_get (inner m f s) i

in-file : (o : Option File) → list_in (option_map marks_of_file o) ≡ map section_marks (sections_in o)
in-file None = refl
in-file (Some file) = refl

in-section : (o : Option Section) → list_in (option_map section_marks o) ≡ marks_in o
in-section None = refl
in-section (Some s) = refl

-- those of files
pub inner-files : (files : List File) (f s : ℕ) → inner (marks_of_files files) f s ≡ marks_at files f s
inner-files files f s =
    ap (λ (o : Option (List (List Bool))). list_in (slice_get (list_in o) s)) (slice_get-map marks_of_file files f)
    ∙ ap (λ (list : List (List Bool)). list_in (slice_get list s)) (in-file (slice_get files f))
    ∙ ap (λ (o : Option (List Bool)). list_in o) (slice_get-map section_marks (sections_at files f) s)
    ∙ in-section (slice_get (sections_at files f) s)

-- ---- marks that are equal place by place

ext-items : (a b : List Bool) → ((i : ℕ) → slice_get a i ≡ slice_get b i) → a ≡ b
ext-items [] [] h = refl
ext-items [] (y ∷ ys) h = let e : None ≡ Some y = h 0 in absurd (cc e)
ext-items (x ∷ xs) [] h = let e : Some x ≡ None = h 0 in absurd (cc e)
ext-items (x ∷ xs) (y ∷ ys) h =
    let e : Some x ≡ Some y = h 0 in
    let same : x ≡ y = cc e in
    rw (same, ext-items xs ys (λ i. h (suc i))) refl

ext-sections : (a b : List (List Bool)) → length a ≡ length b
    → ((s i : ℕ) → slice_get (list_in (slice_get a s)) i ≡ slice_get (list_in (slice_get b s)) i) → a ≡ b
ext-sections [] [] e h = refl
ext-sections [] (y ∷ ys) e h = absurd (omega (arith, e))
ext-sections (x ∷ xs) [] e h = absurd (omega (arith, e))
ext-sections (x ∷ xs) (y ∷ ys) e h = rw (ext-items x y (λ i. h 0 i), ext-sections xs ys (omega (arith, e)) (λ s i. h (suc s) i)) refl

-- the number of sections of each file
abbrev counts : Marks → List ℕ
counts m = map (λ (file : List (List Bool)). length file) m

ext-files : (a b : Marks) → counts a ≡ counts b → ((f s i : ℕ) → mark_at a f s i ≡ mark_at b f s i) → a ≡ b
ext-files [] [] e h = refl
ext-files [] (y ∷ ys) e h = absurd (cc e)
ext-files (x ∷ xs) [] e h = absurd (cc e)
ext-files (x ∷ xs) (y ∷ ys) e h =
    let first : length x ≡ length y = cc e in
    let rest : counts xs ≡ counts ys = cc e in
    rw (ext-sections x y first (λ s i. h 0 s i), ext-files xs ys rest (λ f s i. h (suc f) s i)) refl

-- ---- the shape of marks

abbrev sizes : List (List Bool) → List ℕ
sizes file = map (λ (s : List Bool). length s) file

-- the number of items, by file and section
abbrev pub shape : Marks → List (List ℕ)
shape m = map sizes m

counts-shape : (m : Marks) → counts m ≡ map (λ (file : List ℕ). length file) (shape m)
counts-shape [] = refl
counts-shape (x ∷ xs) = rw (sym (length-map x (λ (s : List Bool). length s)), counts-shape xs) refl

same-counts : (a b : Marks) → shape a ≡ shape b → counts a ≡ counts b
same-counts a b e = counts-shape a ∙ ap (λ (list : List (List ℕ)). map (λ (file : List ℕ). length file) list) e ∙ sym (counts-shape b)

abbrev number_in : Option ℕ → ℕ
number_in None = 0
number_in (Some n) = n

sizes-in : (o : Option (List (List Bool))) → list_in (option_map sizes o) ≡ sizes (list_in o)
sizes-in None = refl
sizes-in (Some file) = refl

size-in : (o : Option (List Bool)) → number_in (option_map (λ (s : List Bool). length s) o) ≡ length (list_in o)
size-in None = refl
size-in (Some s) = refl

length-inner : (m : Marks) (f s : ℕ) → number_in (slice_get (list_in (slice_get (shape m) f)) s) ≡ length (inner m f s)
length-inner m f s =
    ap (λ (o : Option (List ℕ)). number_in (slice_get (list_in o) s)) (slice_get-map sizes m f)
    ∙ ap (λ (list : List ℕ). number_in (slice_get list s)) (sizes-in (slice_get m f))
    ∙ ap number_in (slice_get-map (λ (s : List Bool). length s) (list_in (slice_get m f)) s)
    ∙ size-in (slice_get (list_in (slice_get m f)) s)

pub same-length : (a b : Marks) → shape a ≡ shape b → (f s : ℕ) → length (inner a f s) ≡ length (inner b f s)
same-length a b e f s =
    sym (length-inner a f s) ∙ ap (λ (list : List (List ℕ)). number_in (slice_get (list_in (slice_get list f)) s)) e ∙ length-inner b f s

length-overwritten : (first : ℕ) (marks old : List Bool) → length (overwritten first marks old) ≡ length old
length-overwritten first [] old = refl
length-overwritten first (m ∷ ms) old = length-overwritten (first + 1) ms (set old first m) ∙ length-set old first m

-- a run keeps it
pub shape-with_run : (m : Marks) (r : Run) → shape (with_run m r) ≡ shape m
shape-with_run m r =
    map-modify-same sizes (λ (list : List (List Bool)). modify (overwritten r.first r.marks) list r.section) m r.file
    (λ file. map-modify-same (λ (s : List Bool). length s) (overwritten r.first r.marks) file r.section (λ old. length-overwritten r.first r.marks old))

-- ---- one run

overwritten-none : (first : ℕ) (marks : List Bool) → overwritten first marks [] ≡ []
overwritten-none first [] = refl
overwritten-none first (m ∷ ms) = overwritten-none (first + 1) ms

module _ (first : ℕ) (marks : List Bool) where
  over-section : (o : Option (List Bool)) → list_in (option_map (overwritten first marks) o) ≡ overwritten first marks (list_in o)
  over-section None = sym (overwritten-none first marks)
  over-section (Some s) = refl

  over-file : (section : ℕ) (o : Option (List (List Bool)))
      → list_in (option_map (λ (list : List (List Bool)). modify (overwritten first marks) list section) o) ≡ modify (overwritten first marks) (list_in o) section
  over-file section None = refl
  over-file section (Some file) = refl

-- the section of the run
pub inner-run : (m : Marks) (r : Run) → inner (with_run m r) r.file r.section ≡ overwritten r.first r.marks (inner m r.file r.section)
inner-run m r =
    let write = overwritten r.first r.marks in
    ap (λ (o : Option (List (List Bool))). list_in (slice_get (list_in o) r.section))
    (slice_get-modify (λ (list : List (List Bool)). modify write list r.section) m r.file)
    ∙ ap (λ (list : List (List Bool)). list_in (slice_get list r.section)) (over-file r.first r.marks r.section (slice_get m r.file))
    ∙ ap (λ (o : Option (List Bool)). list_in o) (slice_get-modify write (list_in (slice_get m r.file)) r.section)
    ∙ over-section r.first r.marks (slice_get (list_in (slice_get m r.file)) r.section)

-- other sections
pub inner-other-file : (m : Marks) (r : Run) (f s : ℕ) → r.file ≢ f → inner (with_run m r) f s ≡ inner m f s
inner-other-file m r f s ne =
    ap (λ (o : Option (List (List Bool))). list_in (slice_get (list_in o) s))
    (slice_get-modify-other (λ (list : List (List Bool)). modify (overwritten r.first r.marks) list r.section) m r.file f ne)

pub inner-other-section : (m : Marks) (r : Run) (s : ℕ) → r.section ≢ s → inner (with_run m r) r.file s ≡ inner m r.file s
inner-other-section m r s ne =
    let write = overwritten r.first r.marks in
    ap (λ (o : Option (List (List Bool))). list_in (slice_get (list_in o) s))
    (slice_get-modify (λ (list : List (List Bool)). modify write list r.section) m r.file)
    ∙ ap (λ (list : List (List Bool)). list_in (slice_get list s)) (over-file r.first r.marks r.section (slice_get m r.file))
    ∙ ap (λ (o : Option (List Bool)). list_in o) (slice_get-modify-other write (list_in (slice_get m r.file)) r.section s ne)

-- ---- marks that are written over a list, if the wanted list has them

mark-is : (m w : Bool) → is_as m w ≡ true → w ≡ m
mark-is true true e = refl
mark-is true false e = cc
mark-is false true e = cc
mark-is false false e = refl

hits : (m : Bool) (first : ℕ) (old wanted : List Bool) → length old ≡ length wanted → passes_if_there (is_as m) (slice_get wanted first) ≡ true
    → slice_get (set old first m) first ≡ slice_get wanted first
hits m first [] [] e p = refl
hits m first [] (w ∷ ws) e p = absurd (omega (arith, e))
hits m first (o ∷ os) [] e p = absurd (omega (arith, e))
hits m zero (o ∷ os) (w ∷ ws) e p = ap (λ (b : Bool). Some b) (sym (mark-is m w p))
hits m (suc first) (o ∷ os) (w ∷ ws) e p = hits m first os ws (omega (arith, e)) p

misses : (m : Bool) (first i : ℕ) (old wanted : List Bool) → length old ≡ length wanted → passes_if_there (is_as m) (slice_get wanted first) ≡ true
    → slice_get old i ≡ slice_get wanted i → slice_get (set old first m) i ≡ slice_get wanted i
misses m first i [] [] e p h = refl
misses m first i [] (w ∷ ws) e p h = absurd (omega (arith, e))
misses m first i (o ∷ os) [] e p h = absurd (omega (arith, e))
misses m zero zero (o ∷ os) (w ∷ ws) e p h = ap (λ (b : Bool). Some b) (sym (mark-is m w p))
misses m zero (suc i) (o ∷ os) (w ∷ ws) e p h = h
misses m (suc first) zero (o ∷ os) (w ∷ ws) e p h = h
misses m (suc first) (suc i) (o ∷ os) (w ∷ ws) e p h = misses m first i os ws (omega (arith, e)) p h

-- what is as wanted stays so
keeps : (first : ℕ) (marks old wanted : List Bool) (i : ℕ) → length old ≡ length wanted → agree first marks wanted ≡ true
    → slice_get old i ≡ slice_get wanted i → slice_get (overwritten first marks old) i ≡ slice_get wanted i
keeps first [] old wanted i e a h = h
keeps first (m ∷ ms) old wanted i e a h =
    let parts = and_parts (passes_if_there (is_as m) (slice_get wanted first)) (agree (first + 1) ms wanted) a in
    keeps (first + 1) ms (set old first m) wanted i (length-set old first m ∙ e) parts.1 (misses m first i old wanted e parts.0 h)

-- and what is written over is as wanted
writes : (first : ℕ) (marks old wanted : List Bool) (i : ℕ) → length old ≡ length wanted → agree first marks wanted ≡ true
    → first ≤ i → i < first + length marks → slice_get (overwritten first marks old) i ≡ slice_get wanted i
writes first [] old wanted i e a from to = absurd (omega (arith, from, to))
writes first (m ∷ ms) old wanted i e a from to =
    let parts = and_parts (passes_if_there (is_as m) (slice_get wanted first)) (agree (first + 1) ms wanted) a in
    let same = length-set old first m ∙ e in
    elim (cases_eq first i) [
      | inl at ↦ keeps (first + 1) ms (set old first m) wanted i same parts.1
          (subst (λ (k : ℕ). slice_get (set old first m) k ≡ slice_get wanted k) at (hits m first old wanted e parts.0))
      | inr ne ↦ writes (first + 1) ms (set old first m) wanted i same parts.1 (omega (arith, ne, from)) (omega (arith, to))
    ]

-- two lists that have the same marks at these places
both : (first : ℕ) (marks a b : List Bool) (i : ℕ) → length a ≡ length b → agree first marks a ≡ true → agree first marks b ≡ true
    → first ≤ i → i < first + length marks → slice_get a i ≡ slice_get b i
both first marks a b i e x y from to = sym (writes first marks a a i refl x from to) ∙ writes first marks a b i e y from to

-- ---- the places of runs

-- the run has the item
pub record Covers (r : Run) (f s i : ℕ) : Type 0 where
  pub file : r.file ≡ f
  pub section : r.section ≡ s
  pub from : r.first ≤ i
  pub to : i < r.first + length r.marks

-- one of the runs has it
abbrev pub Among : List Run → ℕ → ℕ → ℕ → Type 0
Among [] f s i = ⊥
Among (r ∷ rs) f s i = Covers r f s i ⊎ Among rs f s i

-- what is to be written at an item is in one of the runs, or the mark is as wanted
pub data Held (runs : List Run) (wanted m : Marks) (f s i : ℕ) : Type 0 where
  covered : Among runs f s i → Held runs wanted m f s i
  same : mark_at m f s i ≡ mark_at wanted f s i → Held runs wanted m f s i

-- whether the run has marks of `wanted`
abbrev pub is_of : Marks → Run → Bool
is_of wanted r = agree r.first r.marks (inner wanted r.file r.section)

module _ (wanted m : Marks) (r : Run) (e : shape m ≡ shape wanted) (a : is_of wanted r ≡ true) where
  write-covered : (f s i : ℕ) → Covers r f s i → mark_at (with_run m r) f s i ≡ mark_at wanted f s i
  write-covered f s i c =
      subst (λ (x : ℕ). mark_at (with_run m r) x s i ≡ mark_at wanted x s i) c.file
      (subst (λ (y : ℕ). mark_at (with_run m r) r.file y i ≡ mark_at wanted r.file y i) c.section
      (ap (λ (list : List Bool). slice_get list i) (inner-run m r)
      ∙ writes r.first r.marks (inner m r.file r.section) (inner wanted r.file r.section) i (same-length m wanted e r.file r.section) a c.from c.to))

  write-here : (i : ℕ) → mark_at m r.file r.section i ≡ mark_at wanted r.file r.section i
      → mark_at (with_run m r) r.file r.section i ≡ mark_at wanted r.file r.section i
  write-here i h =
      ap (λ (list : List Bool). slice_get list i) (inner-run m r)
      ∙ keeps r.first r.marks (inner m r.file r.section) (inner wanted r.file r.section) i (same-length m wanted e r.file r.section) a h

  write-in-file : (s i : ℕ) → mark_at m r.file s i ≡ mark_at wanted r.file s i → mark_at (with_run m r) r.file s i ≡ mark_at wanted r.file s i
  write-in-file s i h = elim (cases_eq r.section s) [
    | inl at ↦
        subst (λ (y : ℕ). mark_at (with_run m r) r.file y i ≡ mark_at wanted r.file y i) at
        (write-here i (subst (λ (y : ℕ). mark_at m r.file y i ≡ mark_at wanted r.file y i) (sym at) h))
    | inr ne ↦ ap (λ (list : List Bool). slice_get list i) (inner-other-section m r s ne) ∙ h
  ]

  write-same : (f s i : ℕ) → mark_at m f s i ≡ mark_at wanted f s i → mark_at (with_run m r) f s i ≡ mark_at wanted f s i
  write-same f s i h = elim (cases_eq r.file f) [
    | inl at ↦
        subst (λ (x : ℕ). mark_at (with_run m r) x s i ≡ mark_at wanted x s i) at
        (write-in-file s i (subst (λ (x : ℕ). mark_at m x s i ≡ mark_at wanted x s i) (sym at) h))
    | inr ne ↦ ap (λ (list : List Bool). slice_get list i) (inner-other-file m r f s ne) ∙ h
  ]

  written : (rs : List Run) (f s i : ℕ) → Held (r ∷ rs) wanted m f s i → Held rs wanted (with_run m r) f s i
  written rs f s i (covered (inl c)) = same (write-covered f s i c)
  written rs f s i (covered (inr a)) = covered a
  written rs f s i (same h) = same (write-same f s i h)

nothing-left : (wanted m : Marks) (f s i : ℕ) → Held [] wanted m f s i → mark_at m f s i ≡ mark_at wanted f s i
nothing-left wanted m f s i (covered a) = absurd a
nothing-left wanted m f s i (same h) = h

-- runs of the wanted marks make them of others, if these differ only where the runs are
pub restores : (runs : List Run) (wanted m : Marks) → shape m ≡ shape wanted → list_all (is_of wanted) runs ≡ true
    → ((f s i : ℕ) → Held runs wanted m f s i) → fold with_run m runs ≡ wanted
restores [] wanted m e a h = ext-files m wanted (same-counts m wanted e) (λ f s i. nothing-left wanted m f s i (h f s i))
restores (r ∷ rs) wanted m e a h =
    let parts = and_parts (is_of wanted r) (list_all (is_of wanted) rs) a in
    restores rs wanted (with_run m r) (shape-with_run m r ∙ e) parts.1 (λ f s i. written wanted m r e parts.0 rs f s i (h f s i))

-- ---- runs that changed

module _ (files after : List File) (e : shape (marks_of_files after) ≡ shape (marks_of_files files)) where
  abbrev before_marks : Marks
  before_marks = marks_of_files files

  abbrev after_marks : Marks
  after_marks = marks_of_files after

  -- a run that has the marks of both says that they are the same
  unchanged : (r : Run) (f s i : ℕ) → is_as_run files r ≡ true → is_as_run after r ≡ true → Covers r f s i → mark_at after_marks f s i ≡ mark_at before_marks f s i
  unchanged r f s i x y c =
      let lengths = same-length after_marks before_marks e r.file r.section in
      let of-after : agree r.first r.marks (inner after_marks r.file r.section) ≡ true = ap (agree r.first r.marks) (inner-files after r.file r.section) ∙ y in
      let of-before : agree r.first r.marks (inner before_marks r.file r.section) ≡ true = ap (agree r.first r.marks) (inner-files files r.file r.section) ∙ x in
      subst (λ (a : ℕ). mark_at after_marks a s i ≡ mark_at before_marks a s i) c.file
      (subst (λ (b : ℕ). mark_at after_marks r.file b i ≡ mark_at before_marks r.file b i) c.section
      (both r.first r.marks (inner after_marks r.file r.section) (inner before_marks r.file r.section) i lengths of-after of-before c.from c.to))

  either-more : (b : Bool) (r : Run) (rs : List Run) (f s i : ℕ) → Held rs before_marks after_marks f s i → Held (cond (not b) (r ∷ rs) rs) before_marks after_marks f s i
  either-more true r rs f s i h = h
  either-more false r rs f s i (covered a) = covered (inr a)
  either-more false r rs f s i (same h) = same h

  either-first : (b : Bool) (r : Run) (rs : List Run) (f s i : ℕ) → is_as_run after r ≡ b → is_as_run files r ≡ true → Covers r f s i
      → Held (cond (not b) (r ∷ rs) rs) before_marks after_marks f s i
  either-first true r rs f s i is own c = same (unchanged r f s i own is c)
  either-first false r rs f s i is own c = covered (inl c)

  still-covered : (runs : List Run) (f s i : ℕ) → list_all (is_as_run files) runs ≡ true → Among runs f s i → Held (changed_runs after runs) before_marks after_marks f s i
  still-covered [] f s i own a = absurd a
  still-covered (r ∷ rs) f s i own (inl c) =
      either-first (is_as_run after r) r (changed_runs after rs) f s i refl (and_parts (is_as_run files r) (list_all (is_as_run files) rs) own).0 c
  still-covered (r ∷ rs) f s i own (inr a) =
      either-more (is_as_run after r) r (changed_runs after rs) f s i (still-covered rs f s i (and_parts (is_as_run files r) (list_all (is_as_run files) rs) own).1 a)

  still-held : (runs : List Run) (f s i : ℕ) → list_all (is_as_run files) runs ≡ true → Held runs before_marks after_marks f s i
      → Held (changed_runs after runs) before_marks after_marks f s i
  still-held runs f s i own (covered a) = still-covered runs f s i own a
  still-held runs f s i own (same h) = same h

  either-own : (b : Bool) (r : Run) (rs : List Run) → is_as_run files r ≡ true → list_all (is_of before_marks) rs ≡ true → list_all (is_of before_marks) (cond b (r ∷ rs) rs) ≡ true
  either-own true r rs own h = rw (ap (agree r.first r.marks) (inner-files files r.file r.section) ∙ own) h
  either-own false r rs own h = h

  own-changed : (runs : List Run) → list_all (is_as_run files) runs ≡ true → list_all (is_of before_marks) (changed_runs after runs) ≡ true
  own-changed [] own = refl
  own-changed (r ∷ rs) own =
      let parts = and_parts (is_as_run files r) (list_all (is_as_run files) rs) own in
      either-own (not (is_as_run after r)) r (changed_runs after rs) parts.0 (own-changed rs parts.1)

  -- the step of runs of the files before an action leads from the marks after it to those before it
  pub step-restores : (runs : List Run) → list_all (is_as_run files) runs ≡ true → ((f s i : ℕ) → Held runs before_marks after_marks f s i)
      → marks_with (changed_step after runs) after_marks ≡ before_marks
  step-restores runs own h =
      restores (changed_runs after runs) before_marks after_marks e (own-changed runs own) (λ f s i. still-held runs f s i own (h f s i))
