-- A step that is written over marks can be taken back: the same items have their marks from before in another step.
use Rattle.std.proofs.Common.{◌≡◌, ◌≢◌, ℕ, zero, suc, ◌+◌, ◌-◌, ◌<◌, ◌≤◌, min, Bool, true, false, ◌&&◌, List, [], ◌∷◌, fold, set, length, take, drop, refl, sym, ap, ◌∙◌, subst, ◌⊎◌, inl, inr, arith}
use Rattle.std.specs.Prelude.{nat_le, nat_lt, slice_get}
use Rattle.std.specs.List.{list_all}
use Rattle.std.proofs.lemmas.Bool.{and_parts, cases_eq, false≢true}
use Rattle.std.proofs.lemmas.Bool.Decides.{nat_tests}
use Rattle.std.proofs.lemmas.List.{length-drop, length-take}
use Rattle.std.proofs.lemmas.Option.{slice_get_cases, slice_get_past}
use Rattle.scm_types.specs.declared.file.File.{File}
use Rattle.scm_front_items.specs.declared.runs.Run.{Run}
use Rattle.scm_front_items.specs.declared.runs.Step.{Step}
use Rattle.scm_front_items.specs.Runs.{marks_of_files, marks_with, overwritten, with_run}
use Rattle.scm_front_items.specs.Steps.{agree, marks_at, run_now, runs_now}
use Rattle.scm_front_items.proofs.PlaceLemmas.{Among, Covers, Held, Marks, covered, inner, inner-files, inner-other-file, inner-other-section, inner-run, is_of, mark_at, restores, same, same-length, shape, shape-with_run}
use Rattle.scm_front_items.proofs.RunPlaceLemmas.{agree-shift, is-itself}

-- ---- a stretch of marks has the marks that it was taken from

beginning : (n : ℕ) (all : List Bool) → agree 0 (take n all) all ≡ true
beginning zero all = refl
beginning (suc n) [] = refl
beginning (suc n) (x ∷ xs) = rw (is-itself x) (agree-shift x 0 (take n xs) xs ∙ beginning n xs)

stretch : (first n : ℕ) (all : List Bool) → agree first (take n (drop first all)) all ≡ true
stretch zero n all = beginning n all
stretch (suc first) zero [] = refl
stretch (suc first) (suc n) [] = refl
stretch (suc first) n (x ∷ xs) = agree-shift x first (take n (drop first xs)) xs ∙ stretch first n xs

now-own : (files : List File) (rs : List Run) → list_all (is_of (marks_of_files files)) (runs_now files rs) ≡ true
now-own files [] = refl
now-own files (r ∷ rs) =
    rw (ap (λ (all : List Bool). agree r.first (take (length r.marks) (drop r.first (marks_at files r.file r.section))) all) (inner-files files r.file r.section)
    ∙ stretch r.first (length r.marks) (marks_at files r.file r.section)) (now-own files rs)

-- ---- what is written lies in a run

set-other : (xs : List Bool) (i j : ℕ) (b : Bool) → i ≢ j → slice_get (set xs i b) j ≡ slice_get xs j
set-other [] i j b ne = refl
set-other (x ∷ xs) zero zero b ne = absurd (ne refl)
set-other (x ∷ xs) zero (suc j) b ne = refl
set-other (x ∷ xs) (suc i) zero b ne = refl
set-other (x ∷ xs) (suc i) (suc j) b ne = set-other xs i j b (λ e. ne (ap suc e))

abbrev is_inside : ℕ → ℕ → ℕ → Bool
is_inside first n i = nat_le first i && nat_lt i (first + n)

outside-differs : (first n i : ℕ) → is_inside first (suc n) i ≡ false → first ≢ i
outside-differs first n i out is = false≢true (sym out ∙ ap (λ (k : ℕ). is_inside first (suc n) k) (sym is) ∙ at-first)
  where
    at-first : is_inside first (suc n) first ≡ true
    at-first = grind (arith, nat_tests)

outside-next : (first n i : ℕ) → is_inside first (suc n) i ≡ false → is_inside (first + 1) n i ≡ false
outside-next first n i out = grind (arith, nat_tests, out)

away : (first : ℕ) (marks old : List Bool) (i : ℕ) → is_inside first (length marks) i ≡ false → slice_get (overwritten first marks old) i ≡ slice_get old i
away first [] old i out = refl
away first (m ∷ ms) old i out =
    away (first + 1) ms (set old first m) i (outside-next first (length ms) i out) ∙ set-other old first i m (outside-differs first (length ms) i out)

module _ (m : Marks) (r : Run) (i : ℕ) where
  by-item : (b : Bool) → is_inside r.first (length r.marks) i ≡ b
      → Covers r r.file r.section i ⊎ (mark_at (with_run m r) r.file r.section i ≡ mark_at m r.file r.section i)
  by-item true e =
      let parts = and_parts (nat_le r.first i) (nat_lt i (r.first + length r.marks)) e in
      inl (record { file = refl; section = refl; from = grind (arith, nat_tests, parts.0); to = grind (arith, nat_tests, parts.1) })
  by-item false e = inr (ap (λ (list : List Bool). slice_get list i) (inner-run m r) ∙ away r.first r.marks (inner m r.file r.section) i e)

  by-section : (s : ℕ) → Covers r r.file s i ⊎ (mark_at (with_run m r) r.file s i ≡ mark_at m r.file s i)
  by-section s = elim (cases_eq r.section s) [
    | inl is ↦
        subst (λ (x : ℕ). Covers r r.file x i ⊎ (mark_at (with_run m r) r.file x i ≡ mark_at m r.file x i)) is
        (by-item (is_inside r.first (length r.marks) i) refl)
    | inr ne ↦ inr (ap (λ (list : List Bool). slice_get list i) (inner-other-section m r s ne))
  ]

  by-file : (f s : ℕ) → Covers r f s i ⊎ (mark_at (with_run m r) f s i ≡ mark_at m f s i)
  by-file f s = elim (cases_eq r.file f) [
    | inl is ↦ subst (λ (x : ℕ). Covers r x s i ⊎ (mark_at (with_run m r) x s i ≡ mark_at m x s i)) is (by-section s)
    | inr ne ↦ inr (ap (λ (list : List Bool). slice_get list i) (inner-other-file m r f s ne))
  ]

one-more : (r : Run) (rs : List Run) (m : Marks) (f s i : ℕ) → Covers r f s i ⊎ (mark_at (with_run m r) f s i ≡ mark_at m f s i)
    → Among rs f s i ⊎ (mark_at (fold with_run (with_run m r) rs) f s i ≡ mark_at (with_run m r) f s i)
    → Among (r ∷ rs) f s i ⊎ (mark_at (fold with_run (with_run m r) rs) f s i ≡ mark_at m f s i)
one-more r rs m f s i (inl c) rest = inl (inl c)
one-more r rs m f s i (inr e) (inl a) = inl (inr a)
one-more r rs m f s i (inr e) (inr g) = inr (g ∙ e)

written : (rs : List Run) (m : Marks) (f s i : ℕ) → Among rs f s i ⊎ (mark_at (fold with_run m rs) f s i ≡ mark_at m f s i)
written [] m f s i = inr refl
written (r ∷ rs) m f s i = one-more r rs m f s i (by-file m r i f s) (written rs (with_run m r) f s i)

shape-fold : (rs : List Run) (m : Marks) → shape (fold with_run m rs) ≡ shape m
shape-fold [] m = refl
shape-fold (r ∷ rs) m = shape-fold rs (with_run m r) ∙ shape-with_run m r

-- ---- the runs of these items

module _ (files : List File) (i : ℕ) where
  covers-now : (r : Run) (f s : ℕ) → Covers r f s i → i < length (marks_at files f s) → Covers (run_now files r) f s i
  covers-now r f s c h =
      let all = marks_at files r.file r.section in
      let within : i < length all =
      subst (λ (y : ℕ). i < length (marks_at files r.file y)) (sym c.section) (subst (λ (x : ℕ). i < length (marks_at files x s)) (sym c.file) h) in
      let taken : length (take (length r.marks) (drop r.first all)) ≡ min (length r.marks) (length all - r.first) =
      length-take (length r.marks) (drop r.first all) ∙ ap (λ (n : ℕ). min (length r.marks) n) (length-drop r.first all) in
      record { file = c.file; section = c.section; from = c.from; to = omega (arith, c.from, c.to, within, taken) }

  among-now : (rs : List Run) (f s : ℕ) → Among rs f s i → i < length (marks_at files f s) → Among (runs_now files rs) f s i
  among-now [] f s a h = absurd a
  among-now (r ∷ rs) f s (inl c) h = inl (covers-now r f s c h)
  among-now (r ∷ rs) f s (inr a) h = inr (among-now rs f s a h)

module _ (files : List File) (rs : List Run) where
  abbrev before : Marks
  before = marks_of_files files

  abbrev after : Marks
  after = fold with_run before rs

  held-there : (f s i : ℕ) → i < length (marks_at files f s) → Among rs f s i ⊎ (mark_at after f s i ≡ mark_at before f s i) → Held (runs_now files rs) before after f s i
  held-there f s i h (inl a) = covered (among-now files i rs f s a h)
  held-there f s i h (inr e) = same e

  held-now : (f s i : ℕ) → Held (runs_now files rs) before after f s i
  held-now f s i = elim (slice_get_cases (inner before f s) i).1 [
    | inl is ↦ held-there f s i (subst (λ (list : List Bool). i < length list) (inner-files files f s) is.1) (written rs before f s i)
    | inr past ↦
        same (slice_get_past (inner after f s) i (subst (λ (n : ℕ). n ≤ i) (sym (same-length after before (shape-fold rs before) f s)) past.0) ∙ sym past.1)
  ]

  pub taken-back : fold with_run after (runs_now files rs) ≡ before
  taken-back = restores (runs_now files rs) before after (shape-fold rs before) (now-own files rs) held-now

pub back-restores : (files : List File) (step : Step) → marks_with (record step { runs = runs_now files step.runs }) (marks_with step (marks_of_files files)) ≡ marks_of_files files
back-restores files step = taken-back files step.runs
