-- The keys of lines come after all other keys of a set. So a set has the other keys, and the lines behind them.
use Rattle.std.proofs.Common.{◌≡◌, ℕ, suc, ◌+◌, ◌<◌, length, length-append, arith, nat_lt, drop, zero, cond, Bool, true, false, not, ◌&&◌, ◌||◌, List, [], ◌∷◌, ◌++◌, refl, sym, ap, ap₂, ◌∙◌, Some, None}
use Rattle.std.specs.Prelude.{filter, find, fold, is_some, position, slice_get, if◌then◌else◌}
use Rattle.std.specs.List.{list_any, position_or_len}
use Rattle.std.specs.Option.{unwrap_or}
use Rattle.std.specs.declared.cmp.Ordering.{Ordering}
use Rattle.std.specs.declared.cmp.Ordering.TheVariants.{Less, Equal, Greater}
use Rattle.std.specs.Ordering.{match_ordering}
use Rattle.std.proofs.lemmas.Bool.Decides.{nat_tests}
use Rattle.std.proofs.lemmas.Option.{slice_get_within}
use Rattle.std.proofs.lemmas.List.Folds.{list_any-append}
use Rattle.scm_types.specs.declared.keys.SelectionKey.{SelectionKey}
use Rattle.scm_types.specs.declared.keys.SelectionKey.TheVariants as keys
use Rattle.scm_types.specs.declared.file.File.{File}
use Rattle.scm_types.specs.declared.keys.FileKey.{FileKey}
use Rattle.scm_types.specs.declared.section.Section.{Section}
use Rattle.scm_types.specs.declared.state.RecordState.{RecordState}
use Rattle.scm_types.specs.Keys.{file_of_line, file_of_section, section_key_of, section_of_line}
use Rattle.scm_types.specs.Marks.{is_editable_section}
use Rattle.scm_layout.specs.Counts.{counts_of}
use Rattle.scm_layout.specs.Layouts.{files_top, layout_of}
use Rattle.scm_rows.specs.Context.{place}
use Rattle.scm_rows.specs.Heights.{shape_of, shown_height}
use Rattle.scm_rows.specs.Lines.{is_changed}
use Rattle.scm_layout.specs.Rows.{HasAllFiles, each_file_rows, file_key_of, file_rows, folded_count, is_expanded, is_first_open, is_open, rows_at, sections_height, sections_rows, stacked, visible_height}
use Rattle.scm_selection.specs.KeyLists.{all_keys, file_key, files_keys, is_line, is_visible, section_key, visible_keys}
use Rattle.scm_selection.specs.KeySet.{key_cmp, is_key, has_key, with_key, without_key, with_key_flipped, key_set, is_same_set}
use Rattle.scm_selection.specs.KeysAround.{is_editable_in, is_key_of, sections_in}
use Rattle.scm_selection.specs.Moves.{inner_key, is_inside, keys_behind}
use Rattle.scm_selection.proofs.KeyOrderLemmas.{key-self, same-list, same-self, set-has}
use Rattle.scm_selection.proofs.WalkLemmas.{among-kept}
use Rattle.scm_view_state.specs.LineKeys.{line_set, set_without_lines, with_lines}

-- ---- lines come last

abbrev pub AreLines : List SelectionKey → Type 0
AreLines [] = Unit {0}
AreLines (k ∷ ks) = (is_line k ≡ true) × AreLines ks

abbrev pub HaveNoLine : List SelectionKey → Type 0
HaveNoLine [] = Unit {0}
HaveNoLine (k ∷ ks) = (is_line k ≡ false) × HaveNoLine ks

before-line : (k l : SelectionKey) → is_line k ≡ false → is_line l ≡ true → key_cmp k l ≡ Less
before-line keys.None (keys.Line m) e f = refl
before-line (keys.File n) (keys.Line m) e f = refl
before-line (keys.Section n) (keys.Line m) e f = refl
before-line (keys.Line n) l e f = absurd (cc e)
before-line _ _ e f = absurd (cc f)

after-other : (k l : SelectionKey) → is_line k ≡ false → is_line l ≡ true → key_cmp l k ≡ Greater
after-other keys.None (keys.Line m) e f = refl
after-other (keys.File n) (keys.Line m) e f = refl
after-other (keys.Section n) (keys.Line m) e f = refl
after-other (keys.Line n) l e f = absurd (cc e)
after-other _ _ e f = absurd (cc f)

other-key : (k l : SelectionKey) → is_line k ≡ false → is_line l ≡ true → is_key k l ≡ false
other-key keys.None (keys.Line m) e f = refl
other-key (keys.File n) (keys.Line m) e f = refl
other-key (keys.Section n) (keys.Line m) e f = refl
other-key (keys.Line n) l e f = absurd (cc e)
other-key _ _ e f = absurd (cc f)

-- ---- a set of other keys, and lines behind it

-- lines have no other key
pub no-other : (k : SelectionKey) (ls : List SelectionKey) → is_line k ≡ false → AreLines ls → has_key ls k ≡ false
no-other k [] e h = refl
no-other k (l ∷ ls) e h = ap₂ (λ (a b : Bool). a || b) (other-key k l e h.0) (no-other k ls e h.1)

pub has-behind : (k : SelectionKey) (ks ls : List SelectionKey) → is_line k ≡ false → AreLines ls → has_key (ks ++ ls) k ≡ has_key ks k
has-behind k [] ls e h = no-other k ls e h
has-behind k (x ∷ xs) ls e h = ap (λ b. is_key k x || b) (has-behind k xs ls e h)

pub with-behind : (k : SelectionKey) (ks ls : List SelectionKey) → is_line k ≡ false → AreLines ls → with_key (ks ++ ls) k ≡ with_key ks k ++ ls
with-behind k [] [] e h = refl
with-behind k [] (l ∷ ls) e h = ap (λ o. match_ordering o (k ∷ l ∷ ls) (l ∷ ls) (l ∷ with_key ls k)) (before-line k l e h.0)
with-behind k (x ∷ xs) ls e h = go (key_cmp k x) (with-behind k xs ls e h)
  where
    go : (o : Ordering) → with_key (xs ++ ls) k ≡ with_key xs k ++ ls
        → match_ordering o (k ∷ x ∷ xs ++ ls) (x ∷ xs ++ ls) (x ∷ with_key (xs ++ ls) k) ≡ match_ordering o (k ∷ x ∷ xs) (x ∷ xs) (x ∷ with_key xs k) ++ ls
    go Less more = refl
    go Equal more = refl
    go Greater more = ap (λ ys. x ∷ ys) more

-- a line is added behind
with-line : (l : SelectionKey) (ks ls : List SelectionKey) → is_line l ≡ true → HaveNoLine ks → with_key (ks ++ ls) l ≡ ks ++ with_key ls l
with-line l [] ls e h = refl
with-line l (k ∷ ks) ls e h =
    ap (λ o. match_ordering o (l ∷ k ∷ ks ++ ls) (k ∷ ks ++ ls) (k ∷ with_key (ks ++ ls) l)) (after-other k l h.0 e)
    ∙ ap (λ ys. k ∷ ys) (with-line l ks ls e h.1)

without-none : (k : SelectionKey) (ls : List SelectionKey) → is_line k ≡ false → AreLines ls → without_key ls k ≡ ls
without-none k [] e h = refl
without-none k (l ∷ ls) e h = ap (λ b. if b then ls else l ∷ without_key ls k) (other-key k l e h.0) ∙ ap (λ ys. l ∷ ys) (without-none k ls e h.1)

pub without-behind : (k : SelectionKey) (ks ls : List SelectionKey) → is_line k ≡ false → AreLines ls → without_key (ks ++ ls) k ≡ without_key ks k ++ ls
without-behind k [] ls e h = without-none k ls e h
without-behind k (x ∷ xs) ls e h = go (is_key k x) (without-behind k xs ls e h)
  where
    go : (b : Bool) → without_key (xs ++ ls) k ≡ without_key xs k ++ ls → (if b then xs ++ ls else x ∷ without_key (xs ++ ls) k) ≡ (if b then xs else x ∷ without_key xs k) ++ ls
    go true more = refl
    go false more = ap (λ ys. x ∷ ys) more

pub flipped-behind : (k : SelectionKey) (ks ls : List SelectionKey) → is_line k ≡ false → AreLines ls → with_key_flipped (ks ++ ls) k ≡ with_key_flipped ks k ++ ls
flipped-behind k ks ls e h =
    ap (λ b. if b then without_key (ks ++ ls) k else with_key (ks ++ ls) k) (has-behind k ks ls e h) ∙ go (has_key ks k)
  where
    go : (b : Bool) → (if b then without_key (ks ++ ls) k else with_key (ks ++ ls) k) ≡ (if b then without_key ks k else with_key ks k) ++ ls
    go true = without-behind k ks ls e h
    go false = with-behind k ks ls e h

-- ---- the set of a list

none-line : (k : SelectionKey) (ks : List SelectionKey) → is_line k ≡ false → HaveNoLine ks → HaveNoLine (with_key ks k)
none-line k [] e h = (e, tt)
none-line k (x ∷ xs) e h = go (key_cmp k x) (none-line k xs e h.1)
  where
    go : (o : Ordering) → HaveNoLine (with_key xs k) → HaveNoLine (match_ordering o (k ∷ x ∷ xs) (x ∷ xs) (x ∷ with_key xs k))
    go Less more = (e, h)
    go Equal more = h
    go Greater more = (h.0, more)

all-lines : (k : SelectionKey) (ks : List SelectionKey) → is_line k ≡ true → AreLines ks → AreLines (with_key ks k)
all-lines k [] e h = (e, tt)
all-lines k (x ∷ xs) e h = go (key_cmp k x) (all-lines k xs e h.1)
  where
    go : (o : Ordering) → AreLines (with_key xs k) → AreLines (match_ordering o (k ∷ x ∷ xs) (x ∷ xs) (x ∷ with_key xs k))
    go Less more = (e, h)
    go Equal more = h
    go Greater more = (h.0, more)

-- the set of the other keys, and behind it that of the lines
set-from : (ks ys0 ls : List SelectionKey) → HaveNoLine ys0 → AreLines ls
    → fold with_key (ys0 ++ ls) ks ≡ fold with_key ys0 (filter (λ k. not (is_line k)) ks) ++ fold with_key ls (filter is_line ks)
set-from [] ys0 ls h g = refl
set-from (k ∷ ks) ys0 ls h g = go (is_line k) refl (λ bs ms i j. set-from ks bs ms i j)
  where
    others : List SelectionKey
    others = filter (λ x. not (is_line x)) ks

    lines : List SelectionKey
    lines = filter is_line ks

    go : (b : Bool) → is_line k ≡ b
        → ((bs ms : List SelectionKey) → HaveNoLine bs → AreLines ms → fold with_key (bs ++ ms) ks ≡ fold with_key bs others ++ fold with_key ms lines)
        → fold with_key (with_key (ys0 ++ ls) k) ks ≡ fold with_key ys0 (if not b then k ∷ others else others) ++ fold with_key ls (if b then k ∷ lines else lines)
    go true e more = ap (λ set. fold with_key set ks) (with-line k ys0 ls e h) ∙ more ys0 (with_key ls k) h (all-lines k ls e g)
    go false e more = ap (λ set. fold with_key set ks) (with-behind k ys0 ls e g) ∙ more (with_key ys0 k) ls (none-line k ys0 e h) g

pub set-behind : (ks : List SelectionKey) → key_set ks ≡ key_set (filter (λ k. not (is_line k)) ks) ++ key_set (filter is_line ks)
set-behind ks = set-from ks [] [] tt tt

filter-lines : (ks ls : List SelectionKey) → AreLines ls → AreLines (fold with_key ls (filter is_line ks))
filter-lines [] ls h = h
filter-lines (k ∷ ks) ls h = go (is_line k) refl (λ ms i. filter-lines ks ms i)
  where
    go : (b : Bool) → is_line k ≡ b → ((ms : List SelectionKey) → AreLines ms → AreLines (fold with_key ms (filter is_line ks)))
        → AreLines (fold with_key ls (if b then k ∷ filter is_line ks else filter is_line ks))
    go true e more = more (with_key ls k) (all-lines k ls e h)
    go false e more = more ls h

pub lines-are : (ks : List SelectionKey) → AreLines (key_set (filter is_line ks))
lines-are ks = filter-lines ks [] tt

-- ---- two sets with lines behind them

and-false : (b : Bool) → (b && false) ≡ false
and-false true = refl
and-false false = refl

shorter : (xs ys : List SelectionKey) → length xs < length ys → is_same_set xs ys ≡ false
shorter xs [] h = absurd (omega (arith, h))
shorter [] (y ∷ ys) h = refl
shorter (x ∷ xs) (y ∷ ys) h = ap (λ b. is_key x y && b) (shorter xs ys (omega (arith, h))) ∙ and-false (is_key x y)

longer : (xs ys : List SelectionKey) → length ys < length xs → is_same_set xs ys ≡ false
longer [] ys h = absurd (omega (arith, h))
longer (x ∷ xs) [] h = refl
longer (x ∷ xs) (y ∷ ys) h = ap (λ b. is_key x y && b) (longer xs ys (omega (arith, h))) ∙ and-false (is_key x y)

-- both have the lines
pub same-both : (xs cs ls : List SelectionKey) → is_same_set (xs ++ ls) (cs ++ ls) ≡ is_same_set xs cs
same-both [] [] ls = same-self ls
same-both [] (c ∷ cs) ls = shorter ls (c ∷ cs ++ ls) (omega (arith, length-append cs ls))
same-both (x ∷ xs) [] ls = longer (x ∷ xs ++ ls) ls (omega (arith, length-append xs ls))
same-both (x ∷ xs) (c ∷ cs) ls = ap (λ b. is_key x c && b) (same-both xs cs ls)

-- a set that lacks a key is not one that has it
pub lacks-key : (xs ks : List SelectionKey) (l : SelectionKey) → has_key ks l ≡ true → has_key xs l ≡ false → is_same_set xs (key_set ks) ≡ false
lacks-key xs ks l there e = go (is_same_set xs (key_set ks)) refl
  where
    go : (b : Bool) → is_same_set xs (key_set ks) ≡ b → b ≡ false
    go false p = refl
    go true p = absurd (cc (e, ap (λ set. has_key set l) (same-list xs (key_set ks) p), set-has ks l, there))

-- ---- the layout and the visible keys ask for files and sections alone

module _ (e ls : List SelectionKey) (lines : AreLines ls) where
  expanded-behind : (k : FileKey) (i : ℕ) → is_expanded (e ++ ls) k i ≡ is_expanded e k i
  expanded-behind k i = has-behind (keys.Section (section_key_of k i)) e ls refl lines

  open-behind : (k : FileKey) (i : ℕ) (x : Section) → is_open (e ++ ls) k i x ≡ is_open e k i x
  open-behind k i x = ap (λ b. is_editable_section x && b) (expanded-behind k i)

  first-behind : (k : FileKey) (i : ℕ) (xs : List Section) → is_first_open (e ++ ls) k i xs ≡ is_first_open e k i xs
  first-behind k i [] = refl
  first-behind k i (x ∷ xs) = open-behind k i x

  height-behind : (k : FileKey) (total i : ℕ) (before : Bool) (x : Section) (after : Bool) → visible_height (e ++ ls) k total i before x after ≡ visible_height e k total i before x after
  height-behind k total i before x after = ap (λ b. shown_height (place total i) b before x after) (expanded-behind k i)

  tall-behind : (k : FileKey) (total i : ℕ) (before : Bool) (x : Section) (xs : List Section)
      → visible_height (e ++ ls) k total i before x (is_first_open (e ++ ls) k (suc i) xs) ≡ visible_height e k total i before x (is_first_open e k (suc i) xs)
  tall-behind k total i before x xs =
      ap (visible_height (e ++ ls) k total i before x) (first-behind k (suc i) xs) ∙ height-behind k total i before x (is_first_open e k (suc i) xs)

  sections-behind : (k : FileKey) (total i top : ℕ) (before : Bool) (xs : List Section) → sections_rows (e ++ ls) k total i top before xs ≡ sections_rows e k total i top before xs
  unfolding sections_rows
  sections-behind k total i top before [] = refl
  sections-behind k total i top before (x ∷ xs) =
      ap₂ (λ (n : ℕ) (b : Bool). rows_at top n (shape_of x) ∷ sections_rows (e ++ ls) k total (suc i) (top + n) b xs) (tall-behind k total i before x xs) (open-behind k i x)
      ∙ ap (λ rs. rows_at top (visible_height e k total i before x (is_first_open e k (suc i) xs)) (shape_of x) ∷ rs)
      (sections-behind k total (suc i) (top + visible_height e k total i before x (is_first_open e k (suc i) xs)) (is_open e k i x) xs)

  heights-behind : (k : FileKey) (total i : ℕ) (before : Bool) (xs : List Section) → sections_height (e ++ ls) k total i before xs ≡ sections_height e k total i before xs
  unfolding sections_height
  heights-behind k total i before [] = refl
  heights-behind k total i before (x ∷ xs) =
      ap₂ (λ (n : ℕ) (b : Bool). n + sections_height (e ++ ls) k total (suc i) b xs) (tall-behind k total i before x xs) (open-behind k i x)
      ∙ ap (λ n. visible_height e k total i before x (is_first_open e k (suc i) xs) + n) (heights-behind k total (suc i) (is_open e k i x) xs)

  folded-behind : (k : FileKey) (i : ℕ) (xs : List Section) → folded_count (e ++ ls) k i xs ≡ folded_count e k i xs
  unfolding folded_count
  folded-behind k i [] = refl
  folded-behind k i (x ∷ xs) = ap₂ (λ (b : Bool) (n : ℕ). (if is_changed x && not b then 1 else 0) + n) (expanded-behind k i) (folded-behind k (suc i) xs)

  file-behind : (k : FileKey) (f : File) → file_rows (e ++ ls) k f ≡ file_rows e k f
  file-behind k f =
      let open_file = has-behind (keys.File k) e ls refl lines in
      let tall = heights-behind k (length f.sections) 0 false f.sections in
      let folded = folded-behind k 0 f.sections in
      let rows = sections-behind k (length f.sections) 0 0 false f.sections in
      λ j. record { top = 0; end = 1 + (if open_file j then tall j else 0); folded = folded j; sections = rows j }

  files-behind : (commit i : ℕ) (fs : List File) → each_file_rows (e ++ ls) commit i fs ≡ each_file_rows e commit i fs
  unfolding each_file_rows
  files-behind commit i [] = refl
  files-behind commit i (f ∷ fs) = ap₂ (λ r rs. r ∷ rs) (file-behind (file_key_of commit i) f) (files-behind commit (suc i) fs)

  pub layout-behind : (state : RecordState) → layout_of state (e ++ ls) ≡ layout_of state e
  layout-behind state = ap (λ rs. record { counts = counts_of state.files; rows = record { files = stacked (files_top state.commits) rs } }) (files-behind 0 0 state.files)

  seen-behind : (k : SelectionKey) → is_visible (has_key (e ++ ls)) k ≡ is_visible (has_key e) k
  seen-behind keys.None = refl
  seen-behind (keys.File k) = refl
  seen-behind (keys.Section k) = has-behind (keys.File (file_of_section k)) e ls refl lines
  seen-behind (keys.Line k) = ap₂ (λ (a b : Bool). a && b) (has-behind (keys.File (file_of_line k)) e ls refl lines) (has-behind (keys.Section (section_of_line k)) e ls refl lines)

  filter-behind : (ks : List SelectionKey) → filter (is_visible (has_key (e ++ ls))) ks ≡ filter (is_visible (has_key e)) ks
  filter-behind [] = refl
  filter-behind (k ∷ ks) = ap₂ (λ (b : Bool) (l : List SelectionKey). if b then k ∷ l else l) (seen-behind k) (filter-behind ks)

  pub visible-behind : (fs : List File) → visible_keys (has_key (e ++ ls)) fs ≡ visible_keys (has_key e) fs
  visible-behind fs = filter-behind (all_keys fs)

-- ---- the lines of a state, as a flag

module _ (fs : List File) (e : List SelectionKey) where
  lines-behind : AreLines (line_set fs)
  lines-behind = lines-are (all_keys fs)

  pub has-with : (all : Bool) (k : SelectionKey) → is_line k ≡ false → has_key (with_lines all fs e) k ≡ has_key e k
  has-with true k other = has-behind k e (line_set fs) other lines-behind
  has-with false k other = refl

  pub with-with : (all : Bool) (k : SelectionKey) → is_line k ≡ false → with_key (with_lines all fs e) k ≡ with_lines all fs (with_key e k)
  with-with true k other = with-behind k e (line_set fs) other lines-behind
  with-with false k other = refl

  pub without-with : (all : Bool) (k : SelectionKey) → is_line k ≡ false → without_key (with_lines all fs e) k ≡ with_lines all fs (without_key e k)
  without-with true k other = without-behind k e (line_set fs) other lines-behind
  without-with false k other = refl

  pub flipped-with : (all : Bool) (k : SelectionKey) → is_line k ≡ false → with_key_flipped (with_lines all fs e) k ≡ with_lines all fs (with_key_flipped e k)
  flipped-with true k other = flipped-behind k e (line_set fs) other lines-behind
  flipped-with false k other = refl

  pub layout-with : (all : Bool) (state : RecordState) → layout_of state (with_lines all fs e) ≡ layout_of state e
  layout-with true state = layout-behind e (line_set fs) lines-behind state
  layout-with false state = refl

  pub visible-with : (all : Bool) (gs : List File) → visible_keys (has_key (with_lines all fs e)) gs ≡ visible_keys (has_key e) gs
  visible-with true gs = visible-behind e (line_set fs) lines-behind gs
  visible-with false gs = refl

  -- a key is in the set itself, or among the lines
  pub has-any : (all : Bool) (k : SelectionKey) → has_key (with_lines all fs e) k ≡ (has_key e k || (all && has_key (line_set fs) k))
  has-any true k = list_any-append (is_key k) e (line_set fs)
  has-any false k = or-false (has_key e k)
    where
      or-false : (b : Bool) → b ≡ (b || false)
      or-false true = refl
      or-false false = refl

  -- all lines behind a set are the lines behind all others if the set has all others
  pub same-with : is_same_set e (set_without_lines fs) ≡ is_same_set (e ++ line_set fs) (key_set (all_keys fs))
  same-with = sym (ap (is_same_set (e ++ line_set fs)) (set-behind (all_keys fs)) ∙ same-both e (set_without_lines fs) (line_set fs))

-- ---- the lines of a state

place-any : (test : SelectionKey → Bool) (ks : List SelectionKey) → nat_lt (position_or_len test ks) (length ks) ≡ list_any test ks
place-any test [] = refl
place-any test (k ∷ ks) = go (test k) (place-any test ks)
  where
    first : (n : ℕ) → nat_lt 0 (suc n) ≡ true
    first n = grind (arith, nat_tests)

    later : (m n : ℕ) → nat_lt (1 + m) (suc n) ≡ nat_lt m n
    later m n = grind (arith, nat_tests)

    go : (b : Bool) → nat_lt (position_or_len test ks) (length ks) ≡ list_any test ks
        → nat_lt (cond (not b) (1 + position_or_len test ks) 0) (suc (length ks)) ≡ (b || list_any test ks)
    go true more = first (length ks)
    go false more = later (position_or_len test ks) (length ks) ∙ more

placed-any : (test : SelectionKey → Bool) (ks : List SelectionKey) → is_some (position test ks) ≡ list_any test ks
placed-any test ks = some (nat_lt (position_or_len test ks) (length ks)) (position_or_len test ks) ∙ place-any test ks
  where
    some : (b : Bool) (i : ℕ) → is_some (cond b (Some i) None) ≡ b
    some true i = refl
    some false i = refl

pub other-is-none : (k : SelectionKey) (fs : List File) → is_line k ≡ false → has_key (line_set fs) k ≡ false
other-is-none k fs other = no-other k (line_set fs) other (lines-are (all_keys fs))

-- a key of the files is among all keys
key-is-one : (k : SelectionKey) (fs : List File) → is_key_of fs k ≡ has_key (all_keys fs) k
key-is-one k fs =
    and-true (is_key_of fs k)
    ∙ among-kept (λ _. true) fs k
    ∙ ap (λ ks. is_some (position (is_key k) ks)) (filter-all (files_keys 0 fs))
    ∙ placed-any (is_key k) (all_keys fs)
  where
    and-true : (b : Bool) → b ≡ (b && true)
    and-true true = refl
    and-true false = refl

    filter-all : (ks : List SelectionKey) → filter (λ _. true) ks ≡ ks
    filter-all [] = refl
    filter-all (x ∷ xs) = ap (λ (l : List SelectionKey). x ∷ l) (filter-all xs)

slice-in : {X : Type 0} (xs : List X) (i : ℕ) (x : X) → slice_get xs i ≡ Some x → nat_lt i (length xs) ≡ true
slice-in xs i x e = let h = slice_get_within xs i x e in grind (arith, nat_tests)

file-there : (fs : List File) (i : ℕ) (f : File) → slice_get fs i ≡ Some f → is_key_of fs (file_key i) ≡ true
file-there fs i f at = slice-in fs i f at

section-there : (fs : List File) (i m : ℕ) (f : File) (s : Section) → slice_get fs i ≡ Some f → slice_get f.sections m ≡ Some s → is_editable_section s ≡ true → is_key_of fs (section_key i m) ≡ true
section-there fs i m f s at within editable =
    ap (λ r. is_editable_in (slice_get (sections_in r) m)) at
    ∙ ap is_editable_in within
    ∙ editable

pub line-is-one : (k : SelectionKey) (fs : List File) → is_line k ≡ true → is_key_of fs k ≡ has_key (line_set fs) k
line-is-one k fs line =
    and-true (is_key_of fs k)
    ∙ ap (λ b. is_key_of fs k && b) (sym line)
    ∙ among-kept is_line fs k
    ∙ placed-any (is_key k) (filter is_line (files_keys 0 fs))
    ∙ sym (set-has (filter is_line (all_keys fs)) k)
  where
    and-true : (b : Bool) → b ≡ (b && true)
    and-true true = refl
    and-true false = refl

-- ---- the first line

or-right : (a b : Bool) → b ≡ true → (a || b) ≡ true
or-right true b e = refl
or-right false b e = e

dropped-has : (n : ℕ) (ks : List SelectionKey) (k : SelectionKey) → has_key (drop n ks) k ≡ true → has_key ks k ≡ true
dropped-has zero ks k e = e
dropped-has (suc n) [] k e = e
dropped-has (suc n) (x ∷ xs) k e = or-right (is_key k x) (has_key xs k) (dropped-has n xs k e)

-- what is true of a key and of all keys of a list is true of the first of these that passes a test, or of that key
module _ (P : SelectionKey → Type 0) where
  found-keeps : (test : SelectionKey → Bool) (ks : List SelectionKey) (key : SelectionKey) → P key → ((k : SelectionKey) → has_key ks k ≡ true → P k) → P (unwrap_or (find test ks) key)
  found-keeps test [] key p each = p
  found-keeps test (k ∷ ks) key p each = go (test k) (found-keeps test ks key p (λ x there. each x (or-right (is_key x k) (has_key ks x) there)))
    where
      go : (b : Bool) → P (unwrap_or (find test ks) key) → P (unwrap_or (cond b (Some k) (find test ks)) key)
      go true more = each k (ap (λ b. b || has_key ks k) (key-self k))
      go false more = more

  inner-keeps : (ks : List SelectionKey) (key : SelectionKey) → P key → ((k : SelectionKey) → has_key ks k ≡ true → P k) → P (inner_key ks key)
  inner-keeps ks key p each = found-keeps (is_inside key) (keys_behind ks key) key p (λ k there. each k (dropped-has (position_or_len (is_key key) ks + 1) ks k there))

-- a line inside what is inside the first file is one of the list
pub line-there : (ks : List SelectionKey) (first : SelectionKey) → is_line first ≡ false → is_line (inner_key ks (inner_key ks first)) ≡ true → has_key ks (inner_key ks (inner_key ks first)) ≡ true
line-there ks first other = inner-keeps P ks (inner_key ks first) (inner-keeps P ks first (λ line. absurd (cc (other, line))) each) each
  where
    P : SelectionKey → Type 0
    P k = is_line k ≡ true → has_key ks k ≡ true

    each : (k : SelectionKey) → has_key ks k ≡ true → P k
    each k there = λ line. there

-- ---- everything unfolded

-- where the set and the lines of a state are all keys, the set has all files, and all sections that are not context
module _ (fs : List File) (e : List SelectionKey) (all : Bool) (is : with_lines all fs e ≡ key_set (all_keys fs)) where
  has-of : (k : SelectionKey) → is_line k ≡ false → is_key_of fs k ≡ true → has_key e k ≡ true
  has-of k other there =
      sym (has-with fs e all k other)
      ∙ ap (λ (ks : List SelectionKey). has_key ks k) is
      ∙ set-has (all_keys fs) k
      ∙ sym (key-is-one k fs)
      ∙ there

  pub all-unfolded : HasAllFiles e 0 fs
  all-unfolded i f at = (has-of (file_key i) refl (file-there fs i f at), λ m s within editable. has-of (section_key i m) refl (section-there fs i m f s at within editable))
