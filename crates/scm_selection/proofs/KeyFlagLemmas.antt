-- Sets that keep some keys as flags: what they contain, and what the change of a flag changes.
use Rattle.std.proofs.Common.{◌≡◌, ℕ, zero, suc, ◌+◌, ◌<◌, ◌≤◌, Bool, true, false, cond, not, ◌&&◌, ◌||◌, List, [], ◌∷◌, ◌++◌, map, take, drop, length, get_or, refl, ap, ap₂, sym, ◌∙◌, arith, nat_eq, nat_lt, Option, Some, None}
use Rattle.std.specs.Prelude.{filter, fold, slice_get, option_map, is_some}
use Rattle.std.specs.List.{list_any}
use Rattle.std.specs.declared.cmp.Ordering.{Ordering}
use Rattle.std.specs.declared.cmp.Ordering.TheVariants.{Less, Equal, Greater}
use Rattle.std.specs.Ordering.{match_ordering}
use Rattle.std.proofs.lemmas.Bool.Decides.{nat_tests, Decides-eqb}
use Rattle.std.proofs.lemmas.List.Elements.{filter-append}
use Rattle.std.proofs.lemmas.List.Folds.{list_any-append}
use Rattle.scm_types.specs.declared.keys.FileKey.{FileKey}
use Rattle.scm_types.specs.declared.keys.SectionKey.{SectionKey}
use Rattle.scm_types.specs.declared.keys.SelectionKey.{SelectionKey}
use Rattle.scm_types.specs.declared.keys.SelectionKey.TheVariants as keys
use Rattle.scm_types.specs.declared.line.SectionChangedLine.{SectionChangedLine}
use Rattle.scm_types.specs.declared.section.Section.{Section}
use Rattle.scm_types.specs.declared.section.Section.TheVariants.{Unchanged, Changed, FileMode, Binary}
use Rattle.scm_types.specs.declared.file.File.{File}
use Rattle.scm_types.specs.Edits.{modify}
use Rattle.scm_types.specs.Marks.{is_editable_section}
use Rattle.scm_types.proofs.EditLemmas.{slice_get-modify, slice_get-modify-other}
use Rattle.scm_selection.specs.declared.key_flags.FileFlags.{FileFlags}
use Rattle.scm_selection.specs.KeyLists.{file_key, section_key, line_key, line_keys, section_keys, sections_keys, files_keys}
use Rattle.scm_selection.specs.KeySet.{is_key, has_key, key_cmp, with_key, without_key, key_set, is_same_set}
use Rattle.scm_selection.specs.KeyFlags.{flagged_sections, flagged_in, flagged_keys, has_each, is_set_in, is_file_flagged, is_section_flagged, is_flagged, has_section_flag, has_flag, with_own_flag, with_section_flag, with_flag, flags_of}
use Rattle.scm_selection.proofs.PartLemmas.{eq-self, not-above}
use Rattle.scm_selection.proofs.RelationLemmas.{and-left, and-right, key-same}
use Rattle.scm_selection.proofs.FindLemmas.{drop-at}
use Rattle.scm_selection.proofs.KeyOrderLemmas.{Ascends, equal-is-same, key-self, key-turned, same-list, same-self, same-set, set-ascends, set-has, with-any, with-ascends, without-any, without-ascends}

-- ---- tests of numbers

eq-is : (m n : ℕ) → m ≡ n → nat_eq m n ≡ true
eq-is m n e = rw e (eq-self n)

not-below : (m n : ℕ) → n < m → nat_eq m n ≡ false
not-below m n h = grind (arith, nat_tests)

-- an index is within a list if the list has an element there
lt-some : {X : Type 0} (xs : List X) (i : ℕ) → nat_lt i (length xs) ≡ is_some (slice_get xs i)
lt-some [] i = grind (arith, nat_tests)
lt-some (x ∷ xs) zero = first (length xs)
  where
    first : (n : ℕ) → nat_lt zero (suc n) ≡ true
    first n = grind (arith, nat_tests)
lt-some (x ∷ xs) (suc i) = later i (length xs) ∙ lt-some xs i
  where
    later : (m n : ℕ) → nat_lt (suc m) (suc n) ≡ nat_lt m n
    later m n = grind (arith, nat_tests)

last-false : (a b c : Bool) → b ≡ false → (a && (b && c)) ≡ false
last-false true b c e = ap (λ x. x && c) e
last-false false b c e = refl

or-false : (b : Bool) → (b || false) ≡ b
or-false true = refl
or-false false = refl

and-true : (b : Bool) → (b && true) ≡ b
and-true true = refl
and-true false = refl

-- ---- the keys whose flag is set

module _ (q : SelectionKey → Bool) where
  -- no section from an index on passes
  sections-none : (file first : ℕ) (flags : List Bool) → ((j : ℕ) → first ≤ j → q (section_key file j) ≡ false) → list_any q (flagged_sections file first flags) ≡ false
  sections-none file first [] away = refl
  sections-none file first (flag ∷ flags) away =
      go flag (away first (omega arith)) (sections-none file (first + 1) flags (λ j h. away j (omega (arith, h))))
    where
      go : (b : Bool) → q (section_key file first) ≡ false → list_any q (flagged_sections file (first + 1) flags) ≡ false
          → list_any q (cond b (section_key file first ∷ flagged_sections file (first + 1) flags) (flagged_sections file (first + 1) flags)) ≡ false
      go true e more = ap₂ (λ (x y : Bool). x || y) e more
      go false e more = more

  -- section m alone passes
  sections-at : (file first i m : ℕ) (flags : List Bool) → first + i ≡ m → ((j : ℕ) → q (section_key file j) ≡ nat_eq m j) → list_any q (flagged_sections file first flags) ≡ is_set_in (slice_get flags i)
  sections-at file first i m [] e at = refl
  sections-at file first zero m (flag ∷ flags) e at =
      go flag (at first ∙ eq-is m first (omega (arith, e))) (sections-none file (first + 1) flags (λ j h. at j ∙ not-above m j (omega (arith, e, h))))
    where
      go : (b : Bool) → q (section_key file first) ≡ true → list_any q (flagged_sections file (first + 1) flags) ≡ false
          → list_any q (cond b (section_key file first ∷ flagged_sections file (first + 1) flags) (flagged_sections file (first + 1) flags)) ≡ b
      go true h more = ap (λ x. x || list_any q (flagged_sections file (first + 1) flags)) h
      go false h more = more
  sections-at file first (suc i) m (flag ∷ flags) e at =
      go flag (at first ∙ not-below m first (omega (arith, e))) ∙ sections-at file (first + 1) i m flags (omega (arith, e)) at
    where
      go : (b : Bool) → q (section_key file first) ≡ false
          → list_any q (cond b (section_key file first ∷ flagged_sections file (first + 1) flags) (flagged_sections file (first + 1) flags)) ≡ list_any q (flagged_sections file (first + 1) flags)
      go true h = ap (λ x. x || list_any q (flagged_sections file (first + 1) flags)) h
      go false h = refl

  -- no key of file j passes
  abbrev Away : ℕ → Type 0
  Away j = (q (file_key j) ≡ false) × ((s : ℕ) → q (section_key j s) ≡ false)

  file-none : (file : ℕ) (flags : FileFlags) → Away file → list_any q (flagged_in file flags) ≡ false
  file-none file flags away = go flags.is_set (sections-none file 0 flags.sections (λ j h. away.1 j))
    where
      go : (b : Bool) → list_any q (flagged_sections file 0 flags.sections) ≡ false → list_any q (cond b (file_key file ∷ flagged_sections file 0 flags.sections) (flagged_sections file 0 flags.sections)) ≡ false
      go true more = ap₂ (λ (x y : Bool). x || y) away.0 more
      go false more = more

  files-none : (first : ℕ) (fs : List FileFlags) → ((j : ℕ) → first ≤ j → Away j) → list_any q (flagged_keys first fs) ≡ false
  files-none first [] away = refl
  files-none first (f ∷ fs) away =
      list_any-append q (flagged_in first f) (flagged_keys (first + 1) fs)
      ∙ ap₂ (λ (x y : Bool). x || y) (file-none first f (away first (omega arith))) (files-none (first + 1) fs (λ j h. away j (omega (arith, h))))

  abbrev any_in : ℕ → Option FileFlags → Bool
  any_in m None = false
  any_in m (Some f) = list_any q (flagged_in m f)

  -- keys of file m alone pass
  files-at : (first i m : ℕ) (fs : List FileFlags) → first + i ≡ m → ((j : ℕ) → nat_eq m j ≡ false → Away j) → list_any q (flagged_keys first fs) ≡ any_in m (slice_get fs i)
  files-at first i m [] e away = refl
  files-at first zero m (f ∷ fs) e away =
      let here : first ≡ m = omega (arith, e) in
      list_any-append q (flagged_in first f) (flagged_keys (first + 1) fs)
      ∙ ap (λ b. list_any q (flagged_in first f) || b) (files-none (first + 1) fs (λ j h. away j (not-above m j (omega (arith, e, h)))))
      ∙ or-false (list_any q (flagged_in first f))
      ∙ ap (λ n. list_any q (flagged_in n f)) here
  files-at first (suc i) m (f ∷ fs) e away =
      list_any-append q (flagged_in first f) (flagged_keys (first + 1) fs)
      ∙ ap₂ (λ (x y : Bool). x || y) (file-none first f (away first (not-below m first (omega (arith, e))))) (files-at (first + 1) i m fs (omega (arith, e)) away)

-- the keys of a file alone have its own key if its own flag is set
own-file : (k : FileKey) → nat_eq k.commit_idx 0 ≡ true → (r : Option FileFlags) → any_in (is_key (keys.File k)) k.file_idx r ≡ is_file_flagged r
own-file k e None = refl
own-file k e (Some f) = go f.is_set
  where
    here : is_key (keys.File k) (file_key k.file_idx) ≡ true
    here = ap₂ (λ (x y : Bool). x && (y && true)) e (eq-self k.file_idx)

    go : (b : Bool) → list_any (is_key (keys.File k)) (cond b (file_key k.file_idx ∷ flagged_sections k.file_idx 0 f.sections) (flagged_sections k.file_idx 0 f.sections)) ≡ b
    go true = ap (λ x. x || list_any (is_key (keys.File k)) (flagged_sections k.file_idx 0 f.sections)) here
    go false = sections-none (is_key (keys.File k)) k.file_idx 0 f.sections (λ j h. refl)

-- and the key of a section if that of the section is
own-section : (k : SectionKey) → nat_eq k.commit_idx 0 ≡ true → (r : Option FileFlags) → any_in (is_key (keys.Section k)) k.file_idx r ≡ is_section_flagged k.section_idx r
own-section k e None = refl
own-section k e (Some f) = go f.is_set ∙ sections-at (is_key (keys.Section k)) k.file_idx 0 k.section_idx k.section_idx f.sections (omega arith) at
  where
    at : (j : ℕ) → is_key (keys.Section k) (section_key k.file_idx j) ≡ nat_eq k.section_idx j
    at j = ap₂ (λ (x y : Bool). x && (y && (nat_eq k.section_idx j && true))) e (eq-self k.file_idx) ∙ and-true (nat_eq k.section_idx j)

    go : (b : Bool) → list_any (is_key (keys.Section k)) (cond b (file_key k.file_idx ∷ flagged_sections k.file_idx 0 f.sections) (flagged_sections k.file_idx 0 f.sections))
        ≡ list_any (is_key (keys.Section k)) (flagged_sections k.file_idx 0 f.sections)
    go true = refl
    go false = refl

-- a key is among those whose flag is set if its flag is
pub flagged-is : (flags : List FileFlags) (key : SelectionKey) → has_key (flagged_keys 0 flags) key ≡ is_flagged flags key
flagged-is flags keys.None = files-none (is_key keys.None) 0 flags (λ j h. (refl, λ s. refl))
flagged-is flags (keys.Line k) = files-none (is_key (keys.Line k)) 0 flags (λ j h. (refl, λ s. refl))
flagged-is flags (keys.File k) = by_commit (nat_eq k.commit_idx 0) refl
  where
    by_commit : (c : Bool) → nat_eq k.commit_idx 0 ≡ c → list_any (is_key (keys.File k)) (flagged_keys 0 flags) ≡ (c && is_file_flagged (slice_get flags k.file_idx))
    by_commit false e = files-none (is_key (keys.File k)) 0 flags (λ j h. (ap (λ x. x && (nat_eq k.file_idx j && true)) e, λ s. refl))
    by_commit true e =
        files-at (is_key (keys.File k)) 0 k.file_idx k.file_idx flags (omega arith) (λ j h. (last-false (nat_eq k.commit_idx 0) (nat_eq k.file_idx j) true h, λ s. refl))
        ∙ own-file k e (slice_get flags k.file_idx)
flagged-is flags (keys.Section k) = by_commit (nat_eq k.commit_idx 0) refl
  where
    by_commit : (c : Bool) → nat_eq k.commit_idx 0 ≡ c → list_any (is_key (keys.Section k)) (flagged_keys 0 flags) ≡ (c && is_section_flagged k.section_idx (slice_get flags k.file_idx))
    by_commit false e = files-none (is_key (keys.Section k)) 0 flags (λ j h. (refl, λ s. ap (λ x. x && (nat_eq k.file_idx j && (nat_eq k.section_idx s && true))) e))
    by_commit true e =
        files-at (is_key (keys.Section k)) 0 k.file_idx k.file_idx flags (omega arith) (λ j h. (refl, λ s. last-false (nat_eq k.commit_idx 0) (nat_eq k.file_idx j) (nat_eq k.section_idx s && true) h))
        ∙ own-section k e (slice_get flags k.file_idx)

-- ---- a flag that is set or cleared

got-changed : {A : Type 0} (f : A → A) (xs : List A) (i j : ℕ) → slice_get (modify f xs i) j ≡ cond (nat_eq j i) (option_map f (slice_get xs j)) (slice_get xs j)
got-changed f xs i j = go (nat_eq j i) refl
  where
    go : (b : Bool) → nat_eq j i ≡ b → slice_get (modify f xs i) j ≡ cond b (option_map f (slice_get xs j)) (slice_get xs j)
    go true e =
        let same : j ≡ i = (Decides-eqb j i).0 e in
        ap (slice_get (modify f xs i)) same ∙ slice_get-modify f xs i ∙ ap (λ n. option_map f (slice_get xs n)) (sym same)
    go false e = slice_get-modify-other f xs i j (λ same. absurd (cc (e, eq-is j i (sym same))))

-- a key that is not the one of a flag
other-key : (h b x : Bool) → x ≡ cond (h && false) b x
other-key true b x = refl
other-key false b x = refl

own-put : (b d e h : Bool) (r : Option FileFlags) → (e ≡ true → h ≡ is_some r)
    → (d && is_file_flagged (cond e (option_map (with_own_flag b) r) r)) ≡ cond (h && (d && (e && true))) b (d && is_file_flagged r)
own-put b false e h r there = other-key h b false
own-put b true false h r there = other-key h b (is_file_flagged r)
own-put b true true true (Some f) there = refl
own-put b true true false (Some f) there = let wrong = there refl in absurd (cc wrong)
own-put b true true true None there = let wrong = there refl in absurd (cc wrong)
own-put b true true false None there = refl

one-put : (b e h : Bool) (r : Option Bool) → (e ≡ true → h ≡ is_some r) → is_set_in (cond e (option_map (λ _. b) r) r) ≡ cond (h && (e && true)) b (is_set_in r)
one-put b false h r there = other-key h b (is_set_in r)
one-put b true true (Some f) there = refl
one-put b true false (Some f) there = let wrong = there refl in absurd (cc wrong)
one-put b true true None there = let wrong = there refl in absurd (cc wrong)
one-put b true false None there = refl

section-put : (b d e h : Bool) (n o : ℕ) (r : Option FileFlags) → (e ≡ true → h ≡ has_section_flag n r)
    → (d && is_section_flagged o (cond e (option_map (with_section_flag b n) r) r)) ≡ cond (h && (d && (e && (nat_eq o n && true)))) b (d && is_section_flagged o r)
section-put b false e h n o r there = other-key h b false
section-put b true false h n o r there = other-key h b (is_section_flagged o r)
section-put b true true true n o None there = let wrong = there refl in absurd (cc wrong)
section-put b true true false n o None there = refl
section-put b true true h n o (Some f) there =
    ap is_set_in (got-changed (λ _. b) f.sections n o)
    ∙ one-put b (nat_eq o n) h (slice_get f.sections o) (λ same. there refl ∙ lt-some f.sections n ∙ ap (λ i. is_some (slice_get f.sections i)) (sym ((Decides-eqb o n).0 same)))

own-keeps : (b d e : Bool) (o : ℕ) (r : Option FileFlags) → (d && is_section_flagged o (cond e (option_map (with_own_flag b) r) r)) ≡ (d && is_section_flagged o r)
own-keeps b d false o r = refl
own-keeps b d true o None = refl
own-keeps b d true o (Some f) = refl

section-keeps : (b d e : Bool) (n : ℕ) (r : Option FileFlags) → (d && is_file_flagged (cond e (option_map (with_section_flag b n) r) r)) ≡ (d && is_file_flagged r)
section-keeps b d false n r = refl
section-keeps b d true n None = refl
section-keeps b d true n (Some f) = refl

-- the flag of each key, after that of one was put
pub flag-put : (b : Bool) (flags : List FileFlags) (key other : SelectionKey) → is_flagged (with_flag b flags key) other ≡ cond (has_flag flags key && is_key other key) b (is_flagged flags other)
flag-put b flags keys.None other = refl
flag-put b flags (keys.Line k) other = refl
flag-put b flags (keys.File k) keys.None = other-key (has_flag flags (keys.File k)) b false
flag-put b flags (keys.File k) (keys.Line o) = other-key (has_flag flags (keys.File k)) b false
flag-put b flags (keys.File k) (keys.File o) = go (nat_eq k.commit_idx 0) refl
  where
    go : (c : Bool) → nat_eq k.commit_idx 0 ≡ c
        → (nat_eq o.commit_idx 0 && is_file_flagged (slice_get (cond c (modify (with_own_flag b) flags k.file_idx) flags) o.file_idx))
        ≡ cond ((c && nat_lt k.file_idx (length flags)) && (nat_eq o.commit_idx k.commit_idx && (nat_eq o.file_idx k.file_idx && true))) b (nat_eq o.commit_idx 0 && is_file_flagged (slice_get flags o.file_idx))
    go false e = refl
    go true e =
        ap (λ r. nat_eq o.commit_idx 0 && is_file_flagged r) (got-changed (with_own_flag b) flags k.file_idx o.file_idx)
        ∙ own-put b (nat_eq o.commit_idx 0) (nat_eq o.file_idx k.file_idx) (nat_lt k.file_idx (length flags)) (slice_get flags o.file_idx)
        (λ same. lt-some flags k.file_idx ∙ ap (λ i. is_some (slice_get flags i)) (sym ((Decides-eqb o.file_idx k.file_idx).0 same)))
        ∙ ap (λ n. cond (nat_lt k.file_idx (length flags) && (nat_eq o.commit_idx n && (nat_eq o.file_idx k.file_idx && true))) b (nat_eq o.commit_idx 0 && is_file_flagged (slice_get flags o.file_idx))) (sym ((Decides-eqb k.commit_idx 0).0 e))
flag-put b flags (keys.File k) (keys.Section o) = go (nat_eq k.commit_idx 0)
  where
    go : (c : Bool)
        → (nat_eq o.commit_idx 0 && is_section_flagged o.section_idx (slice_get (cond c (modify (with_own_flag b) flags k.file_idx) flags) o.file_idx))
        ≡ cond ((c && nat_lt k.file_idx (length flags)) && false) b (nat_eq o.commit_idx 0 && is_section_flagged o.section_idx (slice_get flags o.file_idx))
    go false = refl
    go true =
        ap (λ r. nat_eq o.commit_idx 0 && is_section_flagged o.section_idx r) (got-changed (with_own_flag b) flags k.file_idx o.file_idx)
        ∙ own-keeps b (nat_eq o.commit_idx 0) (nat_eq o.file_idx k.file_idx) o.section_idx (slice_get flags o.file_idx)
        ∙ other-key (nat_lt k.file_idx (length flags)) b (nat_eq o.commit_idx 0 && is_section_flagged o.section_idx (slice_get flags o.file_idx))
flag-put b flags (keys.Section k) keys.None = other-key (has_flag flags (keys.Section k)) b false
flag-put b flags (keys.Section k) (keys.Line o) = other-key (has_flag flags (keys.Section k)) b false
flag-put b flags (keys.Section k) (keys.File o) = go (nat_eq k.commit_idx 0)
  where
    go : (c : Bool)
        → (nat_eq o.commit_idx 0 && is_file_flagged (slice_get (cond c (modify (with_section_flag b k.section_idx) flags k.file_idx) flags) o.file_idx))
        ≡ cond ((c && has_section_flag k.section_idx (slice_get flags k.file_idx)) && false) b (nat_eq o.commit_idx 0 && is_file_flagged (slice_get flags o.file_idx))
    go false = refl
    go true =
        ap (λ r. nat_eq o.commit_idx 0 && is_file_flagged r) (got-changed (with_section_flag b k.section_idx) flags k.file_idx o.file_idx)
        ∙ section-keeps b (nat_eq o.commit_idx 0) (nat_eq o.file_idx k.file_idx) k.section_idx (slice_get flags o.file_idx)
        ∙ other-key (has_section_flag k.section_idx (slice_get flags k.file_idx)) b (nat_eq o.commit_idx 0 && is_file_flagged (slice_get flags o.file_idx))
flag-put b flags (keys.Section k) (keys.Section o) = go (nat_eq k.commit_idx 0) refl
  where
    go : (c : Bool) → nat_eq k.commit_idx 0 ≡ c
        → (nat_eq o.commit_idx 0 && is_section_flagged o.section_idx (slice_get (cond c (modify (with_section_flag b k.section_idx) flags k.file_idx) flags) o.file_idx))
        ≡ cond ((c && has_section_flag k.section_idx (slice_get flags k.file_idx)) && (nat_eq o.commit_idx k.commit_idx && (nat_eq o.file_idx k.file_idx && (nat_eq o.section_idx k.section_idx && true)))) b
        (nat_eq o.commit_idx 0 && is_section_flagged o.section_idx (slice_get flags o.file_idx))
    go false e = refl
    go true e =
        ap (λ r. nat_eq o.commit_idx 0 && is_section_flagged o.section_idx r) (got-changed (with_section_flag b k.section_idx) flags k.file_idx o.file_idx)
        ∙ section-put b (nat_eq o.commit_idx 0) (nat_eq o.file_idx k.file_idx) (has_section_flag k.section_idx (slice_get flags k.file_idx)) k.section_idx o.section_idx (slice_get flags o.file_idx)
        (λ same. ap (λ i. has_section_flag k.section_idx (slice_get flags i)) (sym ((Decides-eqb o.file_idx k.file_idx).0 same)))
        ∙ ap (λ n. cond (has_section_flag k.section_idx (slice_get flags k.file_idx) && (nat_eq o.commit_idx n && (nat_eq o.file_idx k.file_idx && (nat_eq o.section_idx k.section_idx && true)))) b
        (nat_eq o.commit_idx 0 && is_section_flagged o.section_idx (slice_get flags o.file_idx))) (sym ((Decides-eqb k.commit_idx 0).0 e))

-- a key without a flag has none that is set
pub no-flag : (flags : List FileFlags) (key : SelectionKey) → has_flag flags key ≡ false → is_flagged flags key ≡ false
no-flag flags keys.None e = refl
no-flag flags (keys.Line k) e = refl
no-flag flags (keys.File k) e = go (nat_eq k.commit_idx 0) (slice_get flags k.file_idx) (ap (λ x. nat_eq k.commit_idx 0 && x) (sym (lt-some flags k.file_idx)) ∙ e)
  where
    go : (c : Bool) (r : Option FileFlags) → (c && is_some r) ≡ false → (c && is_file_flagged r) ≡ false
    go false r h = refl
    go true None h = refl
    go true (Some f) h = absurd (cc h)
no-flag flags (keys.Section k) e = go (nat_eq k.commit_idx 0) (slice_get flags k.file_idx) e
  where
    one : (r : Option Bool) → is_some r ≡ false → is_set_in r ≡ false
    one None h = refl
    one (Some x) h = absurd (cc h)

    go : (c : Bool) (r : Option FileFlags) → (c && has_section_flag k.section_idx r) ≡ false → (c && is_section_flagged k.section_idx r) ≡ false
    go false r h = refl
    go true None h = refl
    go true (Some f) h = one (slice_get f.sections k.section_idx) (sym (lt-some f.sections k.section_idx) ∙ h)

-- ---- a set of flags and other keys

pub kept-has : (others : List SelectionKey) (flags : List FileFlags) (key : SelectionKey) → has_key (key_set (others ++ flagged_keys 0 flags)) key ≡ (has_key others key || is_flagged flags key)
kept-has others flags key =
    set-has (others ++ flagged_keys 0 flags) key
    ∙ list_any-append (is_key key) others (flagged_keys 0 flags)
    ∙ ap (λ b. has_key others key || b) (flagged-is flags key)

-- a key with a flag is added
pub flag-added : (others : List SelectionKey) (flags : List FileFlags) (key : SelectionKey) → has_flag flags key ≡ true
    → key_set (others ++ flagged_keys 0 (with_flag true flags key)) ≡ with_key (key_set (others ++ flagged_keys 0 flags)) key
flag-added others flags key there =
    same-set (key_set (others ++ flagged_keys 0 (with_flag true flags key))) (with_key (key_set (others ++ flagged_keys 0 flags)) key)
    (set-ascends (others ++ flagged_keys 0 (with_flag true flags key))) (with-ascends (key_set (others ++ flagged_keys 0 flags)) key (set-ascends (others ++ flagged_keys 0 flags)))
    (λ k. kept-has others (with_flag true flags key) k
    ∙ ap (λ b. has_key others k || b) (flag-put true flags key k ∙ ap (λ h. cond (h && is_key k key) true (is_flagged flags k)) there)
    ∙ added (has_key others k) (is_key k key) (is_flagged flags k)
    ∙ ap (λ b. is_key k key || b) (sym (kept-has others flags k))
    ∙ sym (with-any (key_set (others ++ flagged_keys 0 flags)) key k))
  where
    added : (a e f : Bool) → (a || cond e true f) ≡ (e || (a || f))
    added true true f = refl
    added true false f = refl
    added false true f = refl
    added false false f = refl

-- another key is added
pub other-added : (others : List SelectionKey) (flags : List FileFlags) (key : SelectionKey) → key_set (with_key others key ++ flagged_keys 0 flags) ≡ with_key (key_set (others ++ flagged_keys 0 flags)) key
other-added others flags key =
    same-set (key_set (with_key others key ++ flagged_keys 0 flags)) (with_key (key_set (others ++ flagged_keys 0 flags)) key)
    (set-ascends (with_key others key ++ flagged_keys 0 flags)) (with-ascends (key_set (others ++ flagged_keys 0 flags)) key (set-ascends (others ++ flagged_keys 0 flags)))
    (λ k. kept-has (with_key others key) flags k
    ∙ ap (λ b. b || is_flagged flags k) (with-any others key k)
    ∙ apart (is_key k key) (has_key others k) (is_flagged flags k)
    ∙ ap (λ b. is_key k key || b) (sym (kept-has others flags k))
    ∙ sym (with-any (key_set (others ++ flagged_keys 0 flags)) key k))
  where
    apart : (a b c : Bool) → ((a || b) || c) ≡ (a || (b || c))
    apart true b c = refl
    apart false b c = refl

-- a key is removed from both: `rest` has the other keys
pub key-removed : (others rest : List SelectionKey) (flags : List FileFlags) (key : SelectionKey) → ((k : SelectionKey) → has_key rest k ≡ cond (is_key key k) false (has_key others k))
    → key_set (rest ++ flagged_keys 0 (with_flag false flags key)) ≡ without_key (key_set (others ++ flagged_keys 0 flags)) key
key-removed others rest flags key left =
    same-set (key_set (rest ++ flagged_keys 0 (with_flag false flags key))) (without_key (key_set (others ++ flagged_keys 0 flags)) key)
    (set-ascends (rest ++ flagged_keys 0 (with_flag false flags key))) (without-ascends (key_set (others ++ flagged_keys 0 flags)) key (set-ascends (others ++ flagged_keys 0 flags)))
    (λ k. kept-has rest (with_flag false flags key) k
    ∙ ap₂ (λ (x y : Bool). x || y) (left k ∙ ap (λ b. cond b false (has_key others k)) (key-turned key k)) (flag-put false flags key k)
    ∙ removed (is_key k key) (has_flag flags key) (has_key others k) (is_flagged flags k) (λ same away. ap (is_flagged flags) (key-same k key same) ∙ no-flag flags key away)
    ∙ ap (λ b. cond (is_key k key) false b) (sym (kept-has others flags k))
    ∙ sym (without-any (key_set (others ++ flagged_keys 0 flags)) key k (set-ascends (others ++ flagged_keys 0 flags))))
  where
    removed : (e h a f : Bool) → (e ≡ true → h ≡ false → f ≡ false) → (cond e false a || cond (h && e) false f) ≡ cond e false (a || f)
    removed true true a f none = refl
    removed true false a f none = none refl refl
    removed false true a f none = refl
    removed false false a f none = refl

-- ---- the flags of files

module _ (p : SelectionKey → Bool) (section : (f s : ℕ) → p (section_key f s) ≡ true) (line : (f s l : ℕ) → p (line_key f s l) ≡ false) where
  lines-gone : (f s first : ℕ) (lines : List SectionChangedLine) → filter p (line_keys f s first lines) ≡ []
  lines-gone f s first [] = refl
  lines-gone f s first (l ∷ ls) =
      ap (λ b. cond b (line_key f s first ∷ filter p (line_keys f s (first + 1) ls)) (filter p (line_keys f s (first + 1) ls))) (line f s first) ∙ lines-gone f s (first + 1) ls

  mark-one : (f i : ℕ) (rest : List SelectionKey) → section_key f i ∷ rest ≡ cond (p (section_key f i)) (section_key f i ∷ []) [] ++ rest
  mark-one f i rest = ap (λ b. cond b (section_key f i ∷ []) [] ++ rest) (sym (section f i))

  section-one : (f i : ℕ) (s : Section) (rest : List SelectionKey) → cond (is_editable_section s) (section_key f i ∷ rest) rest ≡ filter p (section_keys f i s) ++ rest
  section-one f i (Unchanged lines) rest = refl
  section-one f i (Changed lines) rest =
      ap (λ ks. section_key f i ∷ (ks ++ rest)) (sym (lines-gone f i 0 lines))
      ∙ ap (λ b. cond b (section_key f i ∷ filter p (line_keys f i 0 lines)) (filter p (line_keys f i 0 lines)) ++ rest) (sym (section f i))
  section-one f i (FileMode is_checked mode) rest = mark-one f i rest
  section-one f i (Binary is_checked old new) rest = mark-one f i rest

  sections-are : (f first : ℕ) (ss : List Section) → flagged_sections f first (map is_editable_section ss) ≡ filter p (sections_keys f first ss)
  sections-are f first [] = refl
  sections-are f first (s ∷ ss) =
      ap (λ (ks : List SelectionKey). cond (is_editable_section s) (section_key f first ∷ ks) ks) (sections-are f (first + 1) ss)
      ∙ section-one f first s (filter p (sections_keys f (first + 1) ss))
      ∙ sym (filter-append p (section_keys f first s) (sections_keys f (first + 1) ss))

  -- the flags of files are those of the keys that pass
  pub files-are : (own : Bool) → ((f : ℕ) → p (file_key f) ≡ own) → (first : ℕ) (fs : List File) → flagged_keys first (map (flags_of own) fs) ≡ filter p (files_keys first fs)
  files-are own at first [] = refl
  files-are own at first (f ∷ fs) =
      ap₂ (λ (ks ls : List SelectionKey). cond own (file_key first ∷ ks) ks ++ ls) (sections-are first 0 f.sections) (files-are own at (first + 1) fs)
      ∙ ap (λ b. cond b (file_key first ∷ filter p (sections_keys first 0 f.sections)) (filter p (sections_keys first 0 f.sections)) ++ filter p (files_keys (first + 1) fs)) (sym (at first))
      ∙ sym (filter-append p (file_key first ∷ sections_keys first 0 f.sections) (files_keys (first + 1) fs))

-- ---- sets that have each key of a list

module _ (set : List SelectionKey) where
  pub each-append : (xs ys : List SelectionKey) → has_each set (xs ++ ys) ≡ (has_each set xs && has_each set ys)
  each-append [] ys = refl
  each-append (x ∷ xs) ys = ap (λ b. has_key set x && b) (each-append xs ys) ∙ apart (has_key set x) (has_each set xs) (has_each set ys)
    where
      apart : (a b c : Bool) → (a && (b && c)) ≡ ((a && b) && c)
      apart true b c = refl
      apart false b c = refl

  each-with : (ks : List SelectionKey) (key : SelectionKey) → has_each set (with_key ks key) ≡ (has_key set key && has_each set ks)
  each-with [] key = refl
  each-with (k ∷ ks) key = go (key_cmp key k) refl (each-with ks key)
    where
      swap : (a b c : Bool) → (a && (b && c)) ≡ (b && (a && c))
      swap true true c = refl
      swap true false c = refl
      swap false true c = refl
      swap false false c = refl

      twice : (a b : Bool) → (a && b) ≡ (a && (a && b))
      twice true b = refl
      twice false b = refl

      go : (o : Ordering) → key_cmp key k ≡ o → has_each set (with_key ks key) ≡ (has_key set key && has_each set ks)
          → has_each set (match_ordering o (key ∷ k ∷ ks) (k ∷ ks) (k ∷ with_key ks key)) ≡ (has_key set key && (has_key set k && has_each set ks))
      go Less e more = refl
      go Equal e more =
          twice (has_key set k) (has_each set ks)
          ∙ ap (λ x. has_key set x && (has_key set k && has_each set ks)) (sym (key-same key k (equal-is-same key k e)))
      go Greater e more = ap (λ b. has_key set k && b) more ∙ swap (has_key set k) (has_key set key) (has_each set ks)

  each-fold : (xs ys : List SelectionKey) → has_each set (fold with_key ys xs) ≡ (has_each set xs && has_each set ys)
  each-fold [] ys = refl
  each-fold (x ∷ xs) ys = each-fold xs (with_key ys x) ∙ ap (λ b. has_each set xs && b) (each-with ys x) ∙ third (has_each set xs) (has_key set x) (has_each set ys)
    where
      third : (a b c : Bool) → (a && (b && c)) ≡ ((b && a) && c)
      third true true c = refl
      third true false c = refl
      third false true c = refl
      third false false c = refl

  -- the set of a list, and a set of flags and other keys
  pub each-set : (xs : List SelectionKey) → has_each set (key_set xs) ≡ has_each set xs
  each-set xs = each-fold xs [] ∙ and-true (has_each set xs)

  pub each-kept : (others : List SelectionKey) (flags : List FileFlags) → has_each set (key_set (others ++ flagged_keys 0 flags)) ≡ (has_each set others && has_each set (flagged_keys 0 flags))
  each-kept others flags = each-set (others ++ flagged_keys 0 flags) ∙ each-append others (flagged_keys 0 flags)

-- a set has each of its keys
each-more : (k : SelectionKey) (ks xs : List SelectionKey) → has_each ks xs ≡ true → has_each (k ∷ ks) xs ≡ true
each-more k ks [] e = refl
each-more k ks (x ∷ xs) e =
    ap₂ (λ (a b : Bool). a && b)
    (or-right (is_key x k) (has_key ks x) (and-left (has_key ks x) (has_each ks xs) e))
    (each-more k ks xs (and-right (has_key ks x) (has_each ks xs) e))
  where
    or-right : (a b : Bool) → b ≡ true → (a || b) ≡ true
    or-right true b h = refl
    or-right false b h = h

each-self : (ks : List SelectionKey) → has_each ks ks ≡ true
each-self [] = refl
each-self (k ∷ ks) = ap₂ (λ (a b : Bool). a && b) (ap (λ b. b || has_key ks k) (key-self k)) (each-more k ks ks (each-self ks))

-- what is in a list is in a set that has each of its keys
each-has : (set xs : List SelectionKey) (key : SelectionKey) → has_each set xs ≡ true → has_key xs key ≡ true → has_key set key ≡ true
each-has set [] key e there = absurd (cc there)
each-has set (x ∷ xs) key e there = go (is_key key x) refl (each-has set xs key (and-right (has_key set x) (has_each set xs) e)) there
  where
    go : (b : Bool) → is_key key x ≡ b → (has_key xs key ≡ true → has_key set key ≡ true) → (b || has_key xs key) ≡ true → has_key set key ≡ true
    go true same more h = ap (has_key set) (key-same key x same) ∙ and-left (has_key set x) (has_each set xs) e
    go false same more h = more h

-- two sets are the same if each has all keys of the other
pub same-each : (xs ys : List SelectionKey) → Ascends xs → Ascends ys → (has_each ys xs && has_each xs ys) ≡ is_same_set xs ys
same-each xs ys h g = go (has_each ys xs && has_each xs ys) refl (is_same_set xs ys) refl
  where
    both : (a b : Bool) → (a ≡ true → b ≡ true) → (b ≡ true → a ≡ true) → a ≡ b
    both true b there back = sym (there refl)
    both false true there back = back refl
    both false false there back = refl

    go : (a : Bool) → (has_each ys xs && has_each xs ys) ≡ a → (b : Bool) → is_same_set xs ys ≡ b → a ≡ b
    go true e true f = refl
    go false e false f = refl
    go true e false f =
        let same : xs ≡ ys =
        same-set xs ys h g (λ k. both (has_key xs k) (has_key ys k)
        (each-has ys xs k (and-left (has_each ys xs) (has_each xs ys) e)) (each-has xs ys k (and-right (has_each ys xs) (has_each xs ys) e))) in
        absurd (cc (f, ap (is_same_set xs) (sym same), same-self xs))
    go false e true f =
        let same : xs ≡ ys = same-list xs ys f in
        let all : (has_each ys xs && has_each xs ys) ≡ true =
        ap₂ (λ (a b : List SelectionKey). has_each a xs && has_each xs b) (sym same) (sym same) ∙ ap₂ (λ (x y : Bool). x && y) (each-self xs) (each-self xs) in
        absurd (cc (e, all))

-- ---- loops

-- the keys of the sections from an index on
pub sections-from : (set : List SelectionKey) (file i : ℕ) (flags : List Bool) (flag : Bool) → slice_get flags i ≡ Some flag
    → has_each set (flagged_sections file i (drop i flags)) ≡ has_each set (cond flag (section_key file i ∷ flagged_sections file (i + 1) (drop (i + 1) flags)) (flagged_sections file (i + 1) (drop (i + 1) flags)))
sections-from set file i flags flag at = ap (λ fs. has_each set (flagged_sections file i fs)) (drop-at flags i flag at)

-- the keys of the files from an index on
pub files-from : (set : List SelectionKey) (i : ℕ) (fs : List FileFlags) (f : FileFlags) → slice_get fs i ≡ Some f
    → has_each set (flagged_keys i (drop i fs)) ≡ (has_each set (flagged_in i f) && has_each set (flagged_keys (i + 1) (drop (i + 1) fs)))
files-from set i fs f at = ap (λ gs. has_each set (flagged_keys i gs)) (drop-at fs i f at) ∙ each-append set (flagged_in i f) (flagged_keys (i + 1) (drop (i + 1) fs))

-- a loop that makes a list: the next one goes from what is left to what is made
pub made-more : {A B : Type 0} (f : B → A) (made : List A) (ys : List B) (i : ℕ) (y : B) → slice_get ys i ≡ Some y
    → (made ++ f y ∷ []) ++ map f (drop (i + 1) ys) ≡ made ++ map f (drop i ys)
made-more f [] ys i y at = ap (map f) (sym (drop-at ys i y at))
made-more f (x ∷ xs) ys i y at = ap (λ zs. x ∷ zs) (made-more f xs ys i y at)

-- one more element of a list is what f makes
pub same-more : {A B : Type 0} (f : B → A) (xs : List A) (ys : List B) (i : ℕ) (x : A) (y : B) → slice_get xs i ≡ Some x → slice_get ys i ≡ Some y → x ≡ f y → take i xs ≡ map f (take i ys) → take (i + 1) xs ≡ map f (take (i + 1) ys)
same-more f [] ys i x y at there e more = absurd (cc at)
same-more f (z ∷ zs) [] i x y at there e more = absurd (cc there)
same-more f (z ∷ zs) (w ∷ ws) zero x y at there e more =
    let first : z ≡ x = cc at in
    let other : w ≡ y = cc there in
    ap (λ v. v ∷ []) (first ∙ e ∙ ap f (sym other))
same-more f (z ∷ zs) (w ∷ ws) (suc i) x y at there e more =
    let head : z ≡ f w = ap (λ l. get_or l 0 z) more in
    let n : suc i + 1 ≡ suc (i + 1) = omega arith in
    rw n (ap₂ (λ v vs. v ∷ vs) head (same-more f zs ws i x y at there e (ap (drop 1) more)))
