-- The changed lines of a hunk, in pairs.
use Rattle.std.proofs.Common.{◌≡◌, ℕ, ◌+◌, ◌-◌, ◌<◌, ◌≤◌, List, [], ◌∷◌, ◌++◌, length, take, get_or, map, true, false, refl, ap, sym, ◌∙◌, subst, arith, append-nil, append_assoc}
use Rattle.std.specs.Prelude.{slice_range}
use Rattle.std.specs.List.{flat_map, list_all, AllByRecursion}
use Rattle.std.proofs.lemmas.List.{take_more, take_all}
use Rattle.std.proofs.Math.Seq.{take-add}
use Rattle.std.proofs.lemmas.List.Concat.{flat_map-append}
use Rattle.scm_types.specs.declared.line.ChangeType.TheVariants.{Added, Removed}
use Rattle.scm_types.specs.declared.line.SectionChangedLine.{SectionChangedLine}
use Rattle.scm_types.specs.Marks.{line_with_mark}
use Rattle.scm_types.specs.Split.{changed_lines}
use Rattle.scm_diff.specs.Pairs.{Entry, Pair, OnlyRemoved, OnlyAdded, IsMerge, added_in, is_pair, lines_in, removed_in, unchecked_line}
use Rattle.scm_diff.specs.Sides.{IsLine}

-- ---- what merged lines are

old-of : (es : List Entry) → changed_lines true (flat_map lines_in es) ≡ removed_in es
old-of [] = refl
old-of (Pair x y ∷ es) = ap (λ xs. x ∷ xs) (old-of es)
old-of (OnlyRemoved x ∷ es) = ap (λ xs. x ∷ xs) (old-of es)
old-of (OnlyAdded y ∷ es) = old-of es

new-of : (es : List Entry) → changed_lines false (flat_map lines_in es) ≡ added_in es
new-of [] = refl
new-of (Pair x y ∷ es) = ap (λ xs. y ∷ xs) (new-of es)
new-of (OnlyRemoved x ∷ es) = new-of es
new-of (OnlyAdded y ∷ es) = ap (λ xs. y ∷ xs) (new-of es)

unchecked-of : (es : List Entry) → map (line_with_mark (λ _. false)) (flat_map lines_in es) ≡ flat_map lines_in es
unchecked-of [] = refl
unchecked-of (Pair x y ∷ es) = ap (λ xs. unchecked_line Removed x ∷ unchecked_line Added y ∷ xs) (unchecked-of es)
unchecked-of (OnlyRemoved x ∷ es) = ap (λ xs. unchecked_line Removed x ∷ xs) (unchecked-of es)
unchecked-of (OnlyAdded y ∷ es) = ap (λ xs. unchecked_line Added y ∷ xs) (unchecked-of es)

lines-of : (es : List Entry) → AllByRecursion IsLine (removed_in es) → AllByRecursion IsLine (added_in es) → AllByRecursion IsLine (map (λ (l : SectionChangedLine). l.line) (flat_map lines_in es))
lines-of [] h k = tt
lines-of (Pair x y ∷ es) h k = (h.0, (k.0, lines-of es h.1 k.1))
lines-of (OnlyRemoved x ∷ es) h k = (h.0, lines-of es h.1 k)
lines-of (OnlyAdded y ∷ es) h k = (k.0, lines-of es h k.1)

pub merge-old : (r a : List (List ℕ)) (ls : List SectionChangedLine) → IsMerge r a ls → changed_lines true ls ≡ r
merge-old r a ls m = ap (changed_lines true) m.lines_are ∙ old-of m.entries ∙ m.removed_are

pub merge-new : (r a : List (List ℕ)) (ls : List SectionChangedLine) → IsMerge r a ls → changed_lines false ls ≡ a
merge-new r a ls m = ap (changed_lines false) m.lines_are ∙ new-of m.entries ∙ m.added_are

pub merge-unchecked : (r a : List (List ℕ)) (ls : List SectionChangedLine) → IsMerge r a ls → map (line_with_mark (λ _. false)) ls ≡ ls
merge-unchecked r a ls m = ap (map (line_with_mark (λ _. false))) m.lines_are ∙ unchecked-of m.entries ∙ sym m.lines_are

pub merge-lines : (r a : List (List ℕ)) (ls : List SectionChangedLine) → IsMerge r a ls → AllByRecursion IsLine r → AllByRecursion IsLine a → AllByRecursion IsLine (map (λ (l : SectionChangedLine). l.line) ls)
merge-lines r a ls m h k =
    subst (λ xs. AllByRecursion IsLine (map (λ (l : SectionChangedLine). l.line) xs)) (sym m.lines_are)
    (lines-of m.entries (subst (AllByRecursion IsLine) (sym m.removed_are) h) (subst (AllByRecursion IsLine) (sym m.added_are) k))

-- ---- lines that are merged one after another

removed-append : (es fs : List Entry) → removed_in (es ++ fs) ≡ removed_in es ++ removed_in fs
removed-append [] fs = refl
removed-append (Pair x y ∷ es) fs = ap (λ xs. x ∷ xs) (removed-append es fs)
removed-append (OnlyRemoved x ∷ es) fs = ap (λ xs. x ∷ xs) (removed-append es fs)
removed-append (OnlyAdded y ∷ es) fs = removed-append es fs

added-append : (es fs : List Entry) → added_in (es ++ fs) ≡ added_in es ++ added_in fs
added-append [] fs = refl
added-append (Pair x y ∷ es) fs = ap (λ xs. y ∷ xs) (added-append es fs)
added-append (OnlyRemoved x ∷ es) fs = added-append es fs
added-append (OnlyAdded y ∷ es) fs = ap (λ xs. y ∷ xs) (added-append es fs)

alone-removed : (ys : List (List ℕ)) → removed_in (map OnlyAdded ys) ≡ []
alone-removed [] = refl
alone-removed (y ∷ ys) = alone-removed ys

alone-added : (ys : List (List ℕ)) → added_in (map OnlyAdded ys) ≡ ys
alone-added [] = refl
alone-added (y ∷ ys) = ap (λ xs. y ∷ xs) (alone-added ys)

alone-lines : (ys : List (List ℕ)) → flat_map lines_in (map OnlyAdded ys) ≡ map (unchecked_line Added) ys
alone-lines [] = refl
alone-lines (y ∷ ys) = ap (λ xs. unchecked_line Added y ∷ xs) (alone-lines ys)

-- The lines are the first `i` removed lines and the first `j` added ones, merged.
pub record IsMergeTo (removed added : List (List ℕ)) (i j : ℕ) (lines : List SectionChangedLine) : Type 0 where
  pub entries : List Entry
  pub lines_are : lines ≡ flat_map lines_in entries
  pub removed_are : removed_in entries ≡ take i removed
  pub added_are : added_in entries ≡ take j added

more-entries : (r a : List (List ℕ)) (i j k m : ℕ) (ls more : List SectionChangedLine) (es : List Entry) → IsMergeTo r a i j ls → more ≡ ls ++ flat_map lines_in es → take i r ++ removed_in es ≡ take k r → take j a ++ added_in es ≡ take m a → IsMergeTo r a k m more
more-entries r a i j k m ls more es s e x y = record {
  entries = s.entries ++ es;
  lines_are = e ∙ ap (λ xs. xs ++ flat_map lines_in es) s.lines_are ∙ sym (flat_map-append lines_in s.entries es);
  removed_are = removed-append s.entries es ∙ ap (λ xs. xs ++ removed_in es) s.removed_are ∙ x;
  added_are = added-append s.entries es ∙ ap (λ xs. xs ++ added_in es) s.added_are ∙ y;
}

pub merge-none : (r a : List (List ℕ)) → IsMergeTo r a 0 0 []
merge-none r a = record { entries = []; lines_are = refl; removed_are = refl; added_are = refl }

-- added lines without partners
slice-more : (a : List (List ℕ)) (j m : ℕ) → j ≤ m → take j a ++ slice_range a j m ≡ take m a
slice-more a j m h = let e : j + (m - j) ≡ m = omega arith in sym (take-add j (m - j) a) ∙ ap (λ n. take n a) e

pub merge-added : (r a : List (List ℕ)) (i j m : ℕ) (ls more : List SectionChangedLine) → IsMergeTo r a i j ls → j ≤ m → more ≡ ls ++ map (unchecked_line Added) (slice_range a j m) → IsMergeTo r a i m more
merge-added r a i j m ls more s h e =
    let ys = slice_range a j m in
    more-entries r a i j i m ls more (map OnlyAdded ys) s (e ∙ ap (λ xs. ls ++ xs) (sym (alone-lines ys)))
    (ap (λ xs. take i r ++ xs) (alone-removed ys) ∙ append-nil (take i r))
    (ap (λ xs. take j a ++ xs) (alone-added ys) ∙ slice-more a j m h)

-- a removed line without a partner
pub merge-removed : (r a : List (List ℕ)) (i j : ℕ) (x : List ℕ) (ls more : List SectionChangedLine) → IsMergeTo r a i j ls → i < length r → x ≡ get_or r i x → more ≡ ls ++ unchecked_line Removed x ∷ [] → IsMergeTo r a (i + 1) j more
merge-removed r a i j x ls more s h e m =
    more-entries r a i j (i + 1) j ls more (OnlyRemoved x ∷ []) s m
    (ap (λ y. take i r ++ y ∷ []) e ∙ sym (take_more r i x h))
    (append-nil (take j a))

-- a removed line and its partner
pub merge-pair : (r a : List (List ℕ)) (i j : ℕ) (x y : List ℕ) (ls half more : List SectionChangedLine) → IsMergeTo r a i j ls → i < length r → j < length a → x ≡ get_or r i x → y ≡ get_or a j y → half ≡ ls ++ unchecked_line Removed x ∷ [] → more ≡ half ++ unchecked_line Added y ∷ [] → IsMergeTo r a (i + 1) (j + 1) more
merge-pair r a i j x y ls half more s h k e f m n =
    more-entries r a i j (i + 1) (j + 1) ls more (Pair x y ∷ []) s
    (n ∙ ap (λ xs. xs ++ unchecked_line Added y ∷ []) m ∙ append_assoc ls (unchecked_line Removed x ∷ []) (unchecked_line Added y ∷ []))
    (ap (λ z. take i r ++ z ∷ []) e ∙ sym (take_more r i x h))
    (ap (λ z. take j a ++ z ∷ []) f ∙ sym (take_more a j y k))

-- all lines
pub merge-all : (r a : List (List ℕ)) (i j : ℕ) (ls : List SectionChangedLine) → IsMergeTo r a i j ls → length r ≤ i → length a ≤ j → ¬ (length r ≡ length a) → IsMerge r a ls
merge-all r a i j ls s h k ne = record {
  entries = s.entries;
  lines_are = s.lines_are;
  removed_are = s.removed_are ∙ take_all i r h;
  added_are = s.added_are ∙ take_all j a k;
  one_by_one = λ e. absurd (ne e);
}

-- ---- lines that are paired one by one

-- The lines are the first `i` removed and added lines, paired one by one.
pub record IsPairedTo (removed added : List (List ℕ)) (i : ℕ) (lines : List SectionChangedLine) : Type 0 where
  pub merged : IsMergeTo removed added i i lines
  pub pairs : list_all is_pair merged.entries ≡ true

pub paired-none : (r a : List (List ℕ)) → IsPairedTo r a 0 []
unfolding merge-none
paired-none r a = record { merged = merge-none r a; pairs = refl }

pair-more : (es : List Entry) (x y : List ℕ) → list_all is_pair es ≡ true → list_all is_pair (es ++ Pair x y ∷ []) ≡ true
pair-more [] x y e = refl
pair-more (Pair v w ∷ es) x y e = pair-more es x y e
pair-more (OnlyRemoved v ∷ es) x y e = cc
pair-more (OnlyAdded w ∷ es) x y e = cc

pub paired-more : (r a : List (List ℕ)) (i : ℕ) (x y : List ℕ) (ls half more : List SectionChangedLine) → IsPairedTo r a i ls → i < length r → i < length a → x ≡ get_or r i x → y ≡ get_or a i y → half ≡ ls ++ unchecked_line Removed x ∷ [] → more ≡ half ++ unchecked_line Added y ∷ [] → IsPairedTo r a (i + 1) more
unfolding merge-pair more-entries
paired-more r a i x y ls half more s h k e f m n = record {
  merged = merge-pair r a i i x y ls half more s.merged h k e f m n;
  pairs = pair-more s.merged.entries x y s.pairs;
}
