-- The lines of the sections of a file.
use Rattle.std.proofs.Common.{◌≡◌, ℕ, ◌+◌, ◌-◌, ◌<◌, ◌≤◌, ◌==◌, List, [], ◌∷◌, ◌++◌, length, take, drop, get_or, Bool, true, false, if◌then◌else◌, refl, ap, sym, ◌∙◌, subst, arith, append-nil, append_assoc}
use Rattle.std.specs.Prelude.{slice_range}
use Rattle.std.specs.List.{flat_map}
use Rattle.std.proofs.lemmas.List.{drop_more, drop-drop, take-append-drop, drop_all}
use Rattle.std.proofs.lemmas.List.Concat.{flat_map-append}
use Rattle.scm_types.specs.declared.section.Section.{Section}
use Rattle.scm_types.specs.declared.section.Section.TheVariants.{Unchanged, Changed}
use Rattle.scm_types.specs.Split.{changed_lines, section_lines}
use Rattle.scm_diff.specs.declared.hunk.Hunk.{Hunk}
use Rattle.scm_diff.specs.Hunks.{IsNextHunk, AreHunksFrom, AreHunks}
use Rattle.scm_diff.specs.Sections.{AreHunkSections, AreSections, HasMore, IsWithin, context_sections}
use Rattle.scm_diff.proofs.PairLemmas.{merge-new, merge-old}

-- ---- a walk over hunks

-- The hunks are those from line `i` of `old` on.
pub record HasHunks (old new : List (List ℕ)) (i : ℕ) (hs : List Hunk) : Type 0 where
  pub least : ℕ
  pub j : ℕ
  pub hunks : AreHunksFrom old new least i j hs

pub has-all : (old new : List (List ℕ)) (hs : List Hunk) → AreHunks old new hs → HasHunks old new 0 hs
has-all old new hs h = record { least = 0; j = 0; hunks = h }

first-of : (hs : List Hunk) (k : ℕ) (h : Hunk) → k < length hs → h ≡ get_or hs k h → drop k hs ≡ h ∷ drop (k + 1) hs
first-of hs k h l e = drop_more hs k h l ∙ ap (λ x. x ∷ drop (k + 1) hs) (sym e)

within-of : (old new : List (List ℕ)) (least i j : ℕ) (h : Hunk) → IsNextHunk old new least i j h → IsWithin old new i h
within-of old new least i j h n = record { begins = omega arith; old_order = n.old_order; old_within = n.old_within; new_order = n.new_order; new_within = n.new_within }

pub next-within : (old new : List (List ℕ)) (i : ℕ) (hs : List Hunk) (k : ℕ) (h : Hunk) → k < length hs → h ≡ get_or hs k h → HasHunks old new i (drop k hs) → IsWithin old new i h
next-within old new i hs k h l e r =
    let all : AreHunksFrom old new r.least i r.j (h ∷ drop (k + 1) hs) = subst (AreHunksFrom old new r.least i r.j) (first-of hs k h l e) r.hunks in
    within-of old new r.least i r.j h all.0

pub next-rest : (old new : List (List ℕ)) (i : ℕ) (hs : List Hunk) (k : ℕ) (h : Hunk) → k < length hs → h ≡ get_or hs k h → HasHunks old new i (drop k hs) → HasHunks old new h.old_end (drop (k + 1) hs)
next-rest old new i hs k h l e r =
    let all : AreHunksFrom old new r.least i r.j (h ∷ drop (k + 1) hs) = subst (AreHunksFrom old new r.least i r.j) (first-of hs k h l e) r.hunks in
    record { least = 1; j = h.new_end; hunks = all.1 }

-- The sections are those of the lines before line `i` of `old`: with sections of what is left they
-- are those of all lines.
pub record AreSectionsTo (old new : List (List ℕ)) (all : List Hunk) (start : List Section) (i : ℕ) (hs : List Hunk) (now : List Section) : Type 0 where
  pub done : List Section
  pub joined : now ≡ start ++ done
  pub goes_on : (rest : List Section) → AreSections old new i hs rest → AreSections old new 0 all (done ++ rest)

pub to-none : (old new : List (List ℕ)) (all : List Hunk) (start : List Section) → AreSectionsTo old new all start 0 all start
to-none old new all start = record { done = []; joined = sym (append-nil start); goes_on = λ rest r. r }

pub to-more : (old new : List (List ℕ)) (all : List Hunk) (start : List Section) (i : ℕ) (k : ℕ) (h : Hunk) (now then_now : List Section) → k < length all → h ≡ get_or all k h → HasMore (AreHunkSections old new i h) now then_now → AreSectionsTo old new all start i (drop k all) now → AreSectionsTo old new all start h.old_end (drop (k + 1) all) then_now
to-more old new all start i k h now then_now l e m s = record {
  done = s.done ++ m.more;
  joined = m.joined ∙ ap (λ xs. xs ++ m.more) s.joined ∙ append_assoc start s.done m.more;
  goes_on = λ rest r.
      subst (AreSections old new 0 all) (sym (append_assoc s.done m.more rest))
      (s.goes_on (m.more ++ rest) (subst (λ hs. AreSections old new i hs (m.more ++ rest)) (sym (first-of all k h l e)) (m.more, rest, refl, m.holds, r)));
}

pub to-all : (old new : List (List ℕ)) (all : List Hunk) (start : List Section) (i k : ℕ) (now end_now : List Section) → length all ≤ k → end_now ≡ now ++ context_sections (drop i old) → AreSectionsTo old new all start i (drop k all) now → HasMore (AreSections old new 0 all) start end_now
to-all old new all start i k now end_now l e s = record {
  more = s.done ++ context_sections (drop i old);
  joined = e ∙ ap (λ xs. xs ++ context_sections (drop i old)) s.joined ∙ append_assoc start s.done (context_sections (drop i old));
  holds = s.goes_on (context_sections (drop i old)) (subst (λ hs. AreSections old new i hs (context_sections (drop i old))) (sym (drop_all k all l)) refl);
}

-- ---- the lines of the sides

no-lines : (ls : List (List ℕ)) → (length ls == 0) ≡ true → [] ≡ ls
no-lines [] e = refl
no-lines (l ∷ ls) e = absurd (grind arith)

context-lines : (side : Bool) (ls : List (List ℕ)) → flat_map (section_lines side) (context_sections ls) ≡ ls
context-lines side ls = at (length ls == 0) refl
  where
    at : (t : Bool) → (length ls == 0) ≡ t → flat_map (section_lines side) (if t then [] else Unchanged ls ∷ []) ≡ ls
    at true e = no-lines ls e
    at false e = append-nil ls

slice-drop : (xs : List (List ℕ)) (i k : ℕ) → i ≤ k → slice_range xs i k ++ drop k xs ≡ drop i xs
slice-drop xs i k h =
    let place : i + (k - i) ≡ k = omega arith in
    ap (λ n. slice_range xs i k ++ drop n xs) (sym place) ∙ ap (λ ys. slice_range xs i k ++ ys) (sym (drop-drop (k - i) i xs)) ∙ take-append-drop (k - i) (drop i xs)

-- the lines of a hunk with the context before it
hunk-lines : (side : Bool) (old new : List (List ℕ)) (i : ℕ) (h : Hunk) (ss : List Section) → (m : AreHunkSections old new i h ss) → flat_map (section_lines side) ss ≡ slice_range old i h.old_start ++ changed_lines side m.lines
hunk-lines side old new i h ss m =
    let context = context_sections (slice_range old i h.old_start) in
    ap (flat_map (section_lines side)) m.sections_are
    ∙ flat_map-append (section_lines side) context (Changed m.lines ∷ [])
    ∙ ap (λ xs. xs ++ (changed_lines side m.lines ++ [])) (context-lines side (slice_range old i h.old_start))
    ∙ ap (λ xs. slice_range old i h.old_start ++ xs) (append-nil (changed_lines side m.lines))

both-lines : (side : Bool) (ss first rest : List Section) (a b c : List (List ℕ)) → ss ≡ first ++ rest → flat_map (section_lines side) first ≡ a ++ b → flat_map (section_lines side) rest ≡ c → flat_map (section_lines side) ss ≡ a ++ (b ++ c)
both-lines side ss first rest a b c e x y =
    ap (flat_map (section_lines side)) e ∙ flat_map-append (section_lines side) first rest
    ∙ ap (λ xs. xs ++ flat_map (section_lines side) rest) x ∙ ap (λ xs. (a ++ b) ++ xs) y ∙ append_assoc a b c

pub old-lines : (old new : List (List ℕ)) (least i j : ℕ) (hs : List Hunk) (ss : List Section) → AreHunksFrom old new least i j hs → AreSections old new i hs ss → flat_map (section_lines true) ss ≡ drop i old
old-lines old new least i j [] ss h e = ap (flat_map (section_lines true)) e ∙ context-lines true (drop i old)
old-lines old new least i j (g ∷ hs) ss h s =
    let n = within-of old new least i j g h.0 in
    let m = s.3 in
    let removed = slice_range old g.old_start g.old_end in
    let added = slice_range new g.new_start g.new_end in
    both-lines true ss s.0 s.1 (slice_range old i g.old_start) removed (drop g.old_end old) s.2
    (hunk-lines true old new i g s.0 m ∙ ap (λ xs. slice_range old i g.old_start ++ xs) (merge-old removed added m.lines m.merged))
    (old-lines old new 1 g.old_end g.new_end hs s.1 h.1 s.4)
    ∙ ap (λ xs. slice_range old i g.old_start ++ xs) (slice-drop old g.old_start g.old_end n.old_order)
    ∙ slice-drop old i g.old_start n.begins

context-same : (old new : List (List ℕ)) (least i j : ℕ) (h : Hunk) → IsNextHunk old new least i j h → slice_range old i h.old_start ≡ slice_range new j h.new_start
context-same old new least i j h n =
    let a : h.old_start - i ≡ n.run = omega arith in
    let b : h.new_start - j ≡ n.run = omega arith in
    ap (λ k. take k (drop i old)) a ∙ n.common ∙ ap (λ k. take k (drop j new)) (sym b)

pub new-lines : (old new : List (List ℕ)) (least i j : ℕ) (hs : List Hunk) (ss : List Section) → AreHunksFrom old new least i j hs → AreSections old new i hs ss → flat_map (section_lines false) ss ≡ drop j new
new-lines old new least i j [] ss h e = ap (flat_map (section_lines false)) e ∙ context-lines false (drop i old) ∙ h
new-lines old new least i j (g ∷ hs) ss h s =
    let n = h.0 in
    let m = s.3 in
    let removed = slice_range old g.old_start g.old_end in
    let added = slice_range new g.new_start g.new_end in
    both-lines false ss s.0 s.1 (slice_range old i g.old_start) added (drop g.new_end new) s.2
    (hunk-lines false old new i g s.0 m ∙ ap (λ xs. slice_range old i g.old_start ++ xs) (merge-new removed added m.lines m.merged))
    (new-lines old new 1 g.old_end g.new_end hs s.1 h.1 s.4)
    ∙ ap (λ xs. xs ++ (added ++ drop g.new_end new)) (context-same old new least i j g n)
    ∙ ap (λ xs. slice_range new j g.new_start ++ xs) (slice-drop new g.new_start g.new_end n.new_order)
    ∙ slice-drop new j g.new_start (omega arith)
