-- A fold of one file or of its sections changes the rows of that file, and moves the files below it.
use Rattle.std.proofs.Common.{◌≡◌, ◌≢◌, ℕ, zero, suc, ◌+◌, ◌-◌, ◌<◌, ◌≤◌, ◌&&◌, ◌||◌, Bool, true, false, List, [], ◌∷◌, Some, None, length, get_or, set, refl, ap, sym, ◌∙◌, arith}
use Rattle.std.specs.Prelude.{nat_eq, if◌then◌else◌}
use Rattle.std.specs.declared.cmp.Ordering.{Ordering}
use Rattle.std.specs.declared.cmp.Ordering.TheVariants.{Less, Equal, Greater}
use Rattle.std.specs.Ordering.{match_ordering}
use Rattle.std.proofs.lemmas.List.Sums.{sum_by-cons}
use Rattle.std.proofs.lemmas.Bool.{eqb-true, and_right, and_left, ne_eqb}
use Rattle.std.proofs.lemmas.Bool.Decides.{nat_tests}
use Rattle.scm_types.specs.declared.file.File.{File}
use Rattle.scm_types.specs.declared.keys.FileKey.{FileKey}
use Rattle.scm_types.specs.declared.keys.SelectionKey.{SelectionKey}
use Rattle.scm_types.specs.declared.keys.SelectionKey.TheVariants as keys
use Rattle.scm_types.specs.Keys.{file_of, has_key, is_key, section_key_of}
use Rattle.scm_types.specs.Limits.{file_size, max_items}
use Rattle.scm_selection.specs.KeySet.{key_cmp, with_key, with_key_flipped, without_key}
use Rattle.scm_selection.proofs.RelationLemmas.{key-same}
use Rattle.scm_layout.specs.declared.file_rows.FileRows.{FileRows}
use Rattle.scm_layout.specs.declared.section_rows.SectionRows.{SectionRows}
use Rattle.scm_layout.specs.Rows.{each_file_rows, file_height, file_key_of, file_rows, folded_count, is_expanded, moved_to, sections_height, sections_rows, stacked}
use Rattle.scm_layout.specs.Refolds.{AreFilesButKey, AreRowsButKey, DifferIn, file_index, total_height}
use Rattle.scm_selection.proofs.KeyOrderLemmas.{with-keeps}
use Rattle.scm_layout.proofs.AgreeLemmas.{folds-agree, rows-agree, same-rows}

-- ---- sets that agree on a file

-- the sets of unfolded keys agree on file k and its sections
pub record AgreeOn (ks ls : List SelectionKey) (k : FileKey) : Type 0 where
  pub file : has_key ks (keys.File k) ≡ has_key ls (keys.File k)
  pub sections : (i : ℕ) → is_expanded ks k i ≡ is_expanded ls k i

-- the rows of a file by their numbers
abbrev pub rows_with : ℕ → ℕ → List SectionRows → FileRows
rows_with height folded sections = record { top = 0; end = height; folded = folded; sections = sections }

file-agree : (ks ls : List SelectionKey) (k : FileKey) (f : File) → AgreeOn ks ls k → file_rows ks k f ≡ file_rows ls k f
file-agree ks ls k f h =
    ap (λ n. rows_with (1 + (if has_key ks (keys.File k) then n else 0)) (folded_count ks k 0 f.sections) (sections_rows ks k (length f.sections) 0 0 false f.sections)) (same-rows ks ls k (length f.sections) 0 0 false false f.sections f.sections (rows-agree ks ls k (length f.sections) 0 0 false f.sections (λ m low high. h.sections m)))
    ∙ ap (λ b. rows_with (1 + (if b then sections_height ls k (length f.sections) 0 false f.sections else 0)) (folded_count ks k 0 f.sections) (sections_rows ks k (length f.sections) 0 0 false f.sections)) h.file
    ∙ ap (λ n. rows_with (file_height ls k f) n (sections_rows ks k (length f.sections) 0 0 false f.sections)) (folds-agree ks ls k 0 f.sections (λ m low high. h.sections m))
    ∙ ap (λ rs. rows_with (file_height ls k f) (folded_count ls k 0 f.sections) rs) (rows-agree ks ls k (length f.sections) 0 0 false f.sections (λ m low high. h.sections m))

-- ---- sets that agree on all files but one

-- the sets agree on all files of a commit but file `index`, and on their sections
abbrev AgreeBut : List SelectionKey → List SelectionKey → ℕ → ℕ → Type 0
AgreeBut ks ls commit index = (i : ℕ) → i ≢ index → AgreeOn ks ls (file_key_of commit i)

module _ (ks ls : List SelectionKey) (commit index : ℕ) (h : AgreeBut ks ls commit index) where
  each-below : (i : ℕ) (fs : List File) → index < i → each_file_rows ks commit i fs ≡ each_file_rows ls commit i fs
  unfolding each_file_rows
  each-below i [] below = refl
  each-below i (f ∷ fs) below =
      let other : i ≢ index = omega arith in
      ap (λ r. r ∷ each_file_rows ks commit (suc i) fs) (file-agree ks ls (file_key_of commit i) f (h i other))
      ∙ ap (λ rs. file_rows ls (file_key_of commit i) f ∷ rs) (each-below (suc i) fs (omega arith))

  each-but : (i n : ℕ) (fs : List File) (f : File) → i + n ≡ index → n < length fs → f ≡ get_or fs n f
      → each_file_rows ks commit i fs ≡ set (each_file_rows ls commit i fs) n (file_rows ks (file_key_of commit index) f)
  unfolding each_file_rows
  each-but i n [] f e within at = absurd (omega arith)
  each-but i zero (g ∷ gs) f e within at =
      let here : i ≡ index = omega arith in
      ap (λ j. file_rows ks (file_key_of commit j) g ∷ each_file_rows ks commit (suc i) gs) here
      ∙ ap (λ w. file_rows ks (file_key_of commit index) w ∷ each_file_rows ks commit (suc i) gs) (sym at)
      ∙ ap (λ rs. file_rows ks (file_key_of commit index) f ∷ rs) (each-below (suc i) gs (omega arith))
  each-but i (suc n) (g ∷ gs) f e within at =
      let other : i ≢ index = omega arith in
      ap (λ r. r ∷ each_file_rows ks commit (suc i) gs) (file-agree ks ls (file_key_of commit i) g (h i other))
      ∙ ap (λ rs. file_rows ls (file_key_of commit i) g ∷ rs) (each-but (suc i) n gs f (omega arith) (omega arith) at)

  -- without such a file all agree
  each-all : (i : ℕ) (fs : List File) → i + length fs ≤ index → each_file_rows ks commit i fs ≡ each_file_rows ls commit i fs
  unfolding each_file_rows
  each-all i [] past = refl
  each-all i (f ∷ fs) past =
      let other : i ≢ index = omega arith in
      ap (λ r. r ∷ each_file_rows ks commit (suc i) fs) (file-agree ks ls (file_key_of commit i) f (h i other))
      ∙ ap (λ rs. file_rows ls (file_key_of commit i) f ∷ rs) (each-all (suc i) fs (omega arith))

-- ---- sets that agree on all files

pub each-agree : (ks ls : List SelectionKey) (commit i : ℕ) (fs : List File) → ((k : FileKey) → AgreeOn ks ls k) → each_file_rows ks commit i fs ≡ each_file_rows ls commit i fs
unfolding each_file_rows
each-agree ks ls commit i [] h = refl
each-agree ks ls commit i (f ∷ fs) h =
    ap (λ r. r ∷ each_file_rows ks commit (suc i) fs) (file-agree ks ls (file_key_of commit i) f (h (file_key_of commit i)))
    ∙ ap (λ rs. file_rows ls (file_key_of commit i) f ∷ rs) (each-agree ks ls commit (suc i) fs h)

-- ---- files stacked again

back : (n m : ℕ) → (n + m) - n ≡ m
back n m = omega arith

moved-again : (t u : ℕ) (r : FileRows) → moved_to t (moved_to u r) ≡ moved_to t r
moved-again t u r = ap (λ n. ends (t + n)) (back u (r.end - r.top))
  where
    ends : ℕ → FileRows
    ends n = record r { top = t; end = n }

pub stacked-again : (t u : ℕ) (rs : List FileRows) → stacked t (stacked u rs) ≡ stacked t rs
unfolding stacked
stacked-again t u [] = refl
stacked-again t u (r ∷ rs) =
    let h = r.end - r.top in
    ap (λ x. x ∷ stacked (t + ((u + h) - u)) (stacked (u + h) rs)) (moved-again t u r)
    ∙ ap (λ n. moved_to t r ∷ stacked (t + n) (stacked (u + h) rs)) (back u h)
    ∙ ap (λ xs. moved_to t r ∷ xs) (stacked-again (t + h) (u + h) rs)

pub stacked-set : (t u : ℕ) (rs : List FileRows) (i : ℕ) (r : FileRows) → stacked t (set (stacked u rs) i r) ≡ stacked t (set rs i r)
unfolding stacked
stacked-set t u [] i r = refl
stacked-set t u (x ∷ xs) zero r = ap (λ ys. moved_to t r ∷ ys) (stacked-again (t + (r.end - r.top)) (u + (x.end - x.top)) xs)
stacked-set t u (x ∷ xs) (suc i) r =
    let h = x.end - x.top in
    ap (λ y. y ∷ stacked (t + ((u + h) - u)) (set (stacked (u + h) xs) i r)) (moved-again t u x)
    ∙ ap (λ n. moved_to t x ∷ stacked (t + n) (set (stacked (u + h) xs) i r)) (back u h)
    ∙ ap (λ ys. moved_to t x ∷ ys) (stacked-set (t + h) (u + h) xs i r)

pub total-stacked : (u : ℕ) (rs : List FileRows) → total_height (stacked u rs) ≡ total_height rs
unfolding stacked
total-stacked u [] = refl
total-stacked u (r ∷ rs) =
    let h = r.end - r.top in
    sum_by-cons (λ (x : FileRows). x.end - x.top) (moved_to u r) (stacked (u + h) rs)
    ∙ ap (λ n. n + total_height (stacked (u + h) rs)) (back u h)
    ∙ ap (λ n. h + n) (total-stacked (u + h) rs)
    ∙ sym (sum_by-cons (λ (x : FileRows). x.end - x.top) r rs)

-- the total does not depend on where the files begin
total-set : (u : ℕ) (rs : List FileRows) (i : ℕ) (r : FileRows) → total_height (set (stacked u rs) i r) ≡ total_height (set rs i r)
total-set u rs i r = sym (total-stacked 0 (set (stacked u rs) i r)) ∙ ap (λ xs. total_height xs) (stacked-set 0 u rs i r) ∙ total-stacked 0 (set rs i r)

-- ---- a key that is added or removed

pub other-added : (ks : List SelectionKey) (key x : SelectionKey) → is_key x key ≡ false → has_key (with_key ks key) x ≡ has_key ks x
other-added [] key x e = ap (λ b. b || false) e
other-added (k ∷ ks) key x e = go (key_cmp key k) (other-added ks key x e)
  where
    go : (o : Ordering) → has_key (with_key ks key) x ≡ has_key ks x → has_key (match_ordering o (key ∷ k ∷ ks) (k ∷ ks) (k ∷ with_key ks key)) x ≡ (is_key x k || has_key ks x)
    go Less h = ap (λ b. b || (is_key x k || has_key ks x)) e
    go Equal h = refl
    go Greater h = ap (λ b. is_key x k || b) h

pub other-removed : (ks : List SelectionKey) (key x : SelectionKey) → is_key x key ≡ false → has_key (without_key ks key) x ≡ has_key ks x
other-removed [] key x e = refl
other-removed (k ∷ ks) key x e = go (is_key key k) refl (other-removed ks key x e)
  where
    go : (b : Bool) → is_key key k ≡ b → has_key (without_key ks key) x ≡ has_key ks x → has_key (if b then ks else k ∷ without_key ks key) x ≡ (is_key x k || has_key ks x)
    go true same h =
        let unlike : is_key x k ≡ false = ap (λ (j : SelectionKey). is_key x j) (sym (key-same key k same)) ∙ e in
        sym (ap (λ b. b || has_key ks x) unlike)
    go false same h = ap (λ b. is_key x k || b) h

pub other-flipped : (ks : List SelectionKey) (key x : SelectionKey) → is_key x key ≡ false → has_key (with_key_flipped ks key) x ≡ has_key ks x
other-flipped ks key x e = elim (has_key ks key) as (λ b. has_key (if b then without_key ks key else with_key ks key) x ≡ has_key ks x) [ true ↦ other-removed ks key x e | false ↦ other-added ks key x e ]

and-second : (a b c : Bool) → b ≡ false → (a && (b && c)) ≡ false
and-second true b c e = ap (λ d. d && c) e
and-second false b c e = refl

index-is : (here : Bool) (a b : ℕ) → (if here then Some a else None) ≡ Some b → a ≡ b
index-is true a b e = cc
index-is false a b e = absurd cc

elsewhere : (a b : ℕ) (index : ℕ) → (if nat_eq a b then Some index else None) ≡ None → nat_eq b a ≡ false
elsewhere a b index e = (elim (nat_eq a b) as (λ here. nat_eq a b ≡ here → (if here then Some index else None) ≡ None → nat_eq b a ≡ false) [ true ↦ (λ same f. absurd cc) | false ↦ (λ other f. grind (arith, nat_tests)) ]) refl e

found-at : (here : Bool) (commit index c i : ℕ) → nat_eq c commit ≡ here → (if here then Some i else None) ≡ Some index → file_key_of c i ≡ file_key_of commit index
found-at true commit index c i same e =
    let file : i ≡ index = cc in
    ap (λ n. file_key_of n i) (eqb-true c commit same) ∙ ap (λ n. file_key_of commit n) file
found-at false commit index c i other e = absurd cc

-- ---- sets that differ in a key of one file

-- a key is not that of another file or section
module _ (commit i index : ℕ) (h : i ≢ index) where
  other-file : (key : SelectionKey) → file_index commit key ≡ Some index → is_key (keys.File (file_key_of commit i)) key ≡ false
  other-file (keys.File key) e =
      let same : key.file_idx ≡ index = index-is (nat_eq key.commit_idx commit) key.file_idx index e in
      and-second (nat_eq commit key.commit_idx) (nat_eq i key.file_idx) true (ne_eqb i key.file_idx (λ d. h (d ∙ same)))
  other-file _ e = refl

  other-section : (j : ℕ) (key : SelectionKey) → file_index commit key ≡ Some index → is_key (keys.Section (section_key_of (file_key_of commit i) j)) key ≡ false
  other-section j (keys.Section key) e =
      let same : key.file_idx ≡ index = index-is (nat_eq key.commit_idx commit) key.file_idx index e in
      and-second (nat_eq commit key.commit_idx) (nat_eq i key.file_idx) (nat_eq j key.section_idx && true) (ne_eqb i key.file_idx (λ d. h (d ∙ same)))
  other-section j _ e = refl

-- sets that differ in a key agree on all other files
differ-but : (ks ls : List SelectionKey) (key : SelectionKey) (commit index : ℕ) → DifferIn ks ls key → file_index commit key ≡ Some index → AgreeBut ks ls commit index
differ-but ks ls key commit index h at i other = record {
  file = h.others (keys.File (file_key_of commit i)) (other-file commit i index other key at);
  sections = λ j. h.others (keys.Section (section_key_of (file_key_of commit i) j)) (other-section commit i index other j key at);
}

-- a key that is in no file of the commit is no key of it
module _ (commit i : ℕ) where
  no-file : (key : SelectionKey) → file_index commit key ≡ None → is_key (keys.File (file_key_of commit i)) key ≡ false
  no-file (keys.File key) e = and_left (nat_eq commit key.commit_idx) (nat_eq i key.file_idx && true) (elsewhere key.commit_idx commit key.file_idx e)
  no-file _ e = refl

  no-section : (j : ℕ) (key : SelectionKey) → file_index commit key ≡ None → is_key (keys.Section (section_key_of (file_key_of commit i) j)) key ≡ false
  no-section j (keys.Section key) e = and_left (nat_eq commit key.commit_idx) (nat_eq i key.file_idx && (nat_eq j key.section_idx && true)) (elsewhere key.commit_idx commit key.file_idx e)
  no-section j _ e = refl

-- then the sets agree on all files, as on those past the last
differ-none : (ks ls : List SelectionKey) (key : SelectionKey) (commit : ℕ) → DifferIn ks ls key → file_index commit key ≡ None → (i : ℕ) → AgreeOn ks ls (file_key_of commit i)
differ-none ks ls key commit h none i = record {
  file = h.others (keys.File (file_key_of commit i)) (no-file commit i key none);
  sections = λ j. h.others (keys.Section (section_key_of (file_key_of commit i) j)) (no-section commit i j key none);
}

-- sets that differ in the key of a section agree on the other sections of its file, and on the file
pub section-others : (ks ls : List SelectionKey) (k : FileKey) (j : ℕ) → DifferIn ks ls (keys.Section (section_key_of k j)) → (m : ℕ) → m ≢ j → is_expanded ks k m ≡ is_expanded ls k m
section-others ks ls k j h m other =
    h.others (keys.Section (section_key_of k m))
    (and_right (nat_eq k.commit_idx k.commit_idx) (nat_eq k.file_idx k.file_idx && (nat_eq m j && true))
    (and-second (nat_eq k.file_idx k.file_idx) (nat_eq m j) true (ne_eqb m j other)))

-- the file of a key
file-found : (commit index : ℕ) (key : SelectionKey) → file_index commit key ≡ Some index → file_of key ≡ keys.File (file_key_of commit index)
file-found commit index (keys.File key) e = ap keys.File (found-at (nat_eq key.commit_idx commit) commit index key.commit_idx key.file_idx refl e)
file-found commit index (keys.Section key) e = ap keys.File (found-at (nat_eq key.commit_idx commit) commit index key.commit_idx key.file_idx refl e)
file-found commit index _ e = absurd cc

-- ---- a key that is added again

-- sets that agree on all other keys agree on all keys if they agree on this one
pub same-keys : (ks ls : List SelectionKey) (key x : SelectionKey) → has_key ks key ≡ has_key ls key → ((y : SelectionKey) → is_key y key ≡ false → has_key ks y ≡ has_key ls y) → has_key ks x ≡ has_key ls x
same-keys ks ls key x at others = go (is_key x key) refl
  where
    go : (b : Bool) → is_key x key ≡ b → has_key ks x ≡ has_key ls x
    go true same =
        let one = key-same x key same in
        ap (λ (y : SelectionKey). has_key ks y) one ∙ at ∙ sym (ap (λ (y : SelectionKey). has_key ls y) one)
    go false other = others x other

pub same-agree : (ks ls : List SelectionKey) (key : SelectionKey) (k : FileKey) → has_key ks key ≡ has_key ls key → ((y : SelectionKey) → is_key y key ≡ false → has_key ks y ≡ has_key ls y) → AgreeOn ks ls k
same-agree ks ls key k at others = record {
  file = same-keys ks ls key (keys.File k) at others;
  sections = λ i. same-keys ks ls key (keys.Section (section_key_of k i)) at others;
}

-- a set stays the same for each file
pub again-agrees : (ks : List SelectionKey) (key : SelectionKey) → has_key ks key ≡ true → (k : FileKey) → AgreeOn (with_key ks key) ks k
again-agrees ks key h k = same-agree (with_key ks key) ks key k (with-keeps ks key key h ∙ sym h) (λ y other. other-added ks key y other)

-- ---- the rows of one file, found anew

-- what the rows of a file are among those of all, wherever it begins
pub stacked-at : (top i : ℕ) (rs : List FileRows) (d : FileRows) → i < length rs → ((get_or (stacked top rs) i d).sections ≡ (get_or rs i d).sections) × ((get_or (stacked top rs) i d).folded ≡ (get_or rs i d).folded)
unfolding stacked
stacked-at top i [] d h = absurd (omega arith)
stacked-at top zero (r ∷ rs) d h = (refl, refl)
stacked-at top (suc i) (r ∷ rs) d h = stacked-at (top + (r.end - r.top)) i rs d (omega arith)

each-at : (ks : List SelectionKey) (commit i n : ℕ) (fs : List File) (f : File) (d : FileRows) → n < length fs → f ≡ get_or fs n f → get_or (each_file_rows ks commit i fs) n d ≡ file_rows ks (file_key_of commit (i + n)) f
unfolding each_file_rows
each-at ks commit i n [] f d h at = absurd (omega arith)
each-at ks commit i zero (g ∷ gs) f d h at =
    let here : i ≡ i + 0 = omega arith in
    ap (λ j. file_rows ks (file_key_of commit j) g) here ∙ ap (λ x. file_rows ks (file_key_of commit (i + 0)) x) (sym at)
each-at ks commit i (suc n) (g ∷ gs) f d h at =
    let next : suc i + n ≡ i + suc n = omega arith in
    each-at ks commit (suc i) n gs f d (omega arith) at ∙ ap (λ j. file_rows ks (file_key_of commit j) f) next

length-each : (ks : List SelectionKey) (commit i : ℕ) (fs : List File) → length (each_file_rows ks commit i fs) ≡ length fs
unfolding each_file_rows
length-each ks commit i [] = refl
length-each ks commit i (f ∷ fs) = ap suc (length-each ks commit (suc i) fs)

module _ (rows : List FileRows) (ks : List SelectionKey) (commit : ℕ) (files : List File) (key : SelectionKey) (h : AreFilesButKey rows ks commit files key) where
  -- the rows of the file of the key are ready to be mended
  pub ready-key : (index : ℕ) (f : File) (r : FileRows) → index < length files → f ≡ get_or files index f → r ≡ get_or rows index r → file_index commit key ≡ Some index → file_size f ≤ max_items
      → AreRowsButKey r ks (file_key_of commit index) f key
  ready-key index f r within at is found small =
      let each = each_file_rows h.before commit 0 files in
      let mine : r ≡ get_or (stacked h.top each) index r = is ∙ ap (λ rs. get_or rs index r) h.is_it in
      let same : 0 + index ≡ index = omega arith in
      let own : get_or each index r ≡ file_rows h.before (file_key_of commit index) f = each-at h.before commit 0 index files f r within at ∙ ap (λ j. file_rows h.before (file_key_of commit j) f) same in
      let parts = stacked-at h.top index each r (omega (arith, length-each h.before commit 0 files)) in
      record {
        before = h.before;
        sections = ap (λ (x : FileRows). x.sections) mine ∙ parts.0 ∙ ap (λ (x : FileRows). x.sections) own;
        folded = ap (λ (x : FileRows). x.folded) mine ∙ parts.1 ∙ ap (λ (x : FileRows). x.folded) own;
        differ = h.differ;
        within = file-found commit index key found;
        fits = small;
      }

  module _ (index : ℕ) (found : file_index commit key ≡ Some index) where
    module _ (f : File) (r : FileRows) (within : index < length files) (at : f ≡ get_or files index f) (is : r ≡ file_rows ks (file_key_of commit index) f) where
      set-is : set rows index r ≡ set (stacked h.top (each_file_rows h.before commit 0 files)) index (file_rows ks (file_key_of commit index) f)
      set-is = ap (λ xs. set xs index r) h.is_it ∙ ap (λ x. set (stacked h.top (each_file_rows h.before commit 0 files)) index x) is

      each-is : each_file_rows ks commit 0 files ≡ set (each_file_rows h.before commit 0 files) index (file_rows ks (file_key_of commit index) f)
      each-is = each-but ks h.before commit index (differ-but ks h.before key commit index h.differ found) 0 index files f (omega arith) within at

      pub set-stacked : (top : ℕ) → stacked top (set rows index r) ≡ stacked top (each_file_rows ks commit 0 files)
      set-stacked top =
          ap (λ xs. stacked top xs) set-is
          ∙ stacked-set top h.top (each_file_rows h.before commit 0 files) index (file_rows ks (file_key_of commit index) f)
          ∙ ap (λ xs. stacked top xs) (sym each-is)

      pub set-total : total_height (set rows index r) ≡ total_height (each_file_rows ks commit 0 files)
      set-total =
          ap (λ xs. total_height xs) set-is
          ∙ total-set h.top (each_file_rows h.before commit 0 files) index (file_rows ks (file_key_of commit index) f)
          ∙ ap (λ xs. total_height xs) (sym each-is)

    pub past-is : length files ≤ index → each_file_rows ks commit 0 files ≡ each_file_rows h.before commit 0 files
    past-is past = each-all ks h.before commit index (differ-but ks h.before key commit index h.differ found) 0 files (omega arith)

  -- a key that is in no file changes no row
  pub none-is : file_index commit key ≡ None → each_file_rows ks commit 0 files ≡ each_file_rows h.before commit 0 files
  none-is none = each-all ks h.before commit (length files) (λ i other. differ-none ks h.before key commit h.differ none i) 0 files (omega arith)

  module _ (same : each_file_rows ks commit 0 files ≡ each_file_rows h.before commit 0 files) where
    pub same-stacked : (top : ℕ) → stacked top rows ≡ stacked top (each_file_rows ks commit 0 files)
    same-stacked top =
        ap (λ xs. stacked top xs) h.is_it
        ∙ stacked-again top h.top (each_file_rows h.before commit 0 files)
        ∙ ap (λ xs. stacked top xs) (sym same)

    pub same-total : total_height rows ≡ total_height (each_file_rows ks commit 0 files)
    same-total =
        ap (λ xs. total_height xs) h.is_it
        ∙ total-stacked h.top (each_file_rows h.before commit 0 files)
        ∙ ap (λ xs. total_height xs) (sym same)
