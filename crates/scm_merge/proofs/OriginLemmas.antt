-- Where the lines of a merge come from.
use Rattle.std.proofs.Common.{◌≡◌, ℕ, ◌==◌, Bool, true, false, not, cond, if◌then◌else◌, List, [], ◌∷◌, ◌++◌, length, drop, map, filter, refl, ap, sym, ◌∙◌, subst, arith, append-nil, append_assoc}
use Rattle.std.specs.Prelude.{slice_range}
use Rattle.std.specs.List.{flat_map, AllByRecursion}
use Rattle.std.proofs.lemmas.List.{map-append}
use Rattle.std.proofs.lemmas.List.Elements.{filter-append}
use Rattle.scm_types.specs.declared.line.ChangeType.{ChangeType}
use Rattle.scm_types.specs.declared.line.ChangeType.TheVariants.{Added, Removed}
use Rattle.scm_types.specs.declared.line.SectionChangedLine.{SectionChangedLine}
use Rattle.scm_types.specs.declared.file.File.{File}
use Rattle.scm_types.specs.declared.file_mode.FileMode.{FileMode as Mode}
use Rattle.scm_types.specs.declared.section.Section.{Section}
use Rattle.scm_types.specs.declared.section.Section.TheVariants.{Unchanged, Changed, FileMode, Binary}
use Rattle.scm_types.specs.Marks.{line_with_mark, section_with_marks}
use Rattle.scm_types.specs.Split.{section_lines, side_lines, takes}
use Rattle.scm_embed.specs.Lines.{lines_of}
use Rattle.scm_diff.proofs.FileLineLemmas.{tail-all}
use Rattle.scm_diff.proofs.LineLemmas.{lines_are_lines}
use Rattle.scm_diff.specs.Change.{unchecked}
use Rattle.scm_diff.specs.Sections.{context_sections}
use Rattle.scm_merge.specs.declared.region.Region.{Region}
use Rattle.scm_merge.specs.Regions.{AreRegionsFrom}
use Rattle.scm_merge.specs.Parts.{Agreed, Choice, Conflict, Outcome, conflict_of, outcomes_from, outcomes_of, part_at, same_lines}
use Rattle.scm_merge.specs.Sections.{conflict_sections, file_with_texts, has_text, items_of, marked_line, nothing_chosen, section_with_texts, sections_from, version_section}
use Rattle.scm_merge.specs.Merge.{IsMerge}
use Rattle.scm_merge.specs.Laws.{HasByte, HasBytes}
use Rattle.scm_merge.specs.Origins.{FromBase, FromOurs, FromTheirs, IsWoven, Origin, Source, is_base, is_ours, is_theirs, lines_from, taken_lines}
use Rattle.scm_merge.proofs.LawLemmas.{common-slice, trimmed, two-slices}
use Rattle.scm_merge.proofs.MergeLemmas.{line-bytes, none-binary, outcome-bytes}

-- ---- lines that are woven

pub both-woven : (b o t l c p u m : List (List ℕ)) → IsWoven b o t l → IsWoven c p u m → IsWoven (b ++ c) (o ++ p) (t ++ u) (l ++ m)
both-woven b o t l c p u m v w = record {
  origins = v.origins ++ w.origins;
  base_lines = both-from is_base v.origins w.origins ∙ ap (λ xs. xs ++ lines_from is_base w.origins) v.base_lines ∙ ap (λ xs. b ++ xs) w.base_lines;
  our_lines = both-from is_ours v.origins w.origins ∙ ap (λ xs. xs ++ lines_from is_ours w.origins) v.our_lines ∙ ap (λ xs. o ++ xs) w.our_lines;
  their_lines = both-from is_theirs v.origins w.origins ∙ ap (λ xs. xs ++ lines_from is_theirs w.origins) v.their_lines ∙ ap (λ xs. t ++ xs) w.their_lines;
  taken = both-taken v.origins w.origins ∙ ap (λ xs. xs ++ taken_lines w.origins) v.taken ∙ ap (λ xs. l ++ xs) w.taken;
}
  where
    both-from : (test : Source → Bool) (xs ys : List Origin) → lines_from test (xs ++ ys) ≡ lines_from test xs ++ lines_from test ys
    both-from test xs ys = ap (map (λ (x : Origin). x.line)) (filter-append (λ (x : Origin). test x.source) xs ys) ∙ map-append (λ (x : Origin). x.line) (filter (λ (x : Origin). test x.source) xs) (filter (λ (x : Origin). test x.source) ys)

    both-taken : (xs ys : List Origin) → taken_lines (xs ++ ys) ≡ taken_lines xs ++ taken_lines ys
    both-taken xs ys = ap (map (λ (x : Origin). x.line)) (filter-append (λ (x : Origin). x.is_taken) xs ys) ∙ map-append (λ (x : Origin). x.line) (filter (λ (x : Origin). x.is_taken) xs) (filter (λ (x : Origin). x.is_taken) ys)

pub woven-as : (b o t l c p u m : List (List ℕ)) → b ≡ c → o ≡ p → t ≡ u → l ≡ m → IsWoven b o t l → IsWoven c p u m
woven-as b o t l c p u m e f g h w = record {
  origins = w.origins;
  base_lines = w.base_lines ∙ e;
  our_lines = w.our_lines ∙ f;
  their_lines = w.their_lines ∙ g;
  taken = w.taken ∙ h;
}

-- a line, and whether it is picked
pub record Pick : Type 0 where
  pub is_picked : Bool
  pub line : List ℕ

-- `lines` are some of `all`, in order
pub record ArePicked (all lines : List (List ℕ)) : Type 0 where
  pub picks : List Pick
  pub all_lines : map (λ (p : Pick). p.line) picks ≡ all
  pub picked : map (λ (p : Pick). p.line) (filter (λ (p : Pick). p.is_picked) picks) ≡ lines

abbrev origin : Source → Pick → Origin
origin source pick = record { source = source; line = pick.line; is_taken = pick.is_picked }

all-from : (source : Source) (test : Source → Bool) (ps : List Pick) → test source ≡ true → lines_from test (map (origin source) ps) ≡ map (λ (p : Pick). p.line) ps
all-from source test [] e = refl
all-from source test (p ∷ ps) e =
    ap (λ b. map (λ (o : Origin). o.line) (cond b (origin source p ∷ filter (λ (o : Origin). test o.source) (map (origin source) ps)) (filter (λ (o : Origin). test o.source) (map (origin source) ps)))) e
    ∙ ap (λ ls. p.line ∷ ls) (all-from source test ps e)

none-from : (source : Source) (test : Source → Bool) (ps : List Pick) → test source ≡ false → lines_from test (map (origin source) ps) ≡ []
none-from source test [] e = refl
none-from source test (p ∷ ps) e =
    ap (λ b. map (λ (o : Origin). o.line) (cond b (origin source p ∷ filter (λ (o : Origin). test o.source) (map (origin source) ps)) (filter (λ (o : Origin). test o.source) (map (origin source) ps)))) e
    ∙ none-from source test ps e

taken-from : (source : Source) (ps : List Pick) → taken_lines (map (origin source) ps) ≡ map (λ (p : Pick). p.line) (filter (λ (p : Pick). p.is_picked) ps)
taken-from source [] = refl
taken-from source (p ∷ ps) = at p.is_picked (taken_lines (map (origin source) ps)) (taken-from source ps)
  where
    at : (b : Bool) (xs : List (List ℕ)) → taken_lines (map (origin source) ps) ≡ map (λ (q : Pick). q.line) (filter (λ (q : Pick). q.is_picked) ps) → map (λ (o : Origin). o.line) (cond b (origin source p ∷ filter (λ (o : Origin). o.is_taken) (map (origin source) ps)) (filter (λ (o : Origin). o.is_taken) (map (origin source) ps))) ≡ map (λ (q : Pick). q.line) (cond b (p ∷ filter (λ (q : Pick). q.is_picked) ps) (filter (λ (q : Pick). q.is_picked) ps))
    at true xs e = ap (λ (ls : List (List ℕ)). p.line ∷ ls) e
    at false xs e = e

pub base-woven : (all lines : List (List ℕ)) → ArePicked all lines → IsWoven all [] [] lines
base-woven all lines a = record {
  origins = map (origin FromBase) a.picks;
  base_lines = all-from FromBase is_base a.picks refl ∙ a.all_lines;
  our_lines = none-from FromBase is_ours a.picks refl;
  their_lines = none-from FromBase is_theirs a.picks refl;
  taken = taken-from FromBase a.picks ∙ a.picked;
}

pub ours-woven : (all lines : List (List ℕ)) → ArePicked all lines → IsWoven [] all [] lines
ours-woven all lines a = record {
  origins = map (origin FromOurs) a.picks;
  base_lines = none-from FromOurs is_base a.picks refl;
  our_lines = all-from FromOurs is_ours a.picks refl ∙ a.all_lines;
  their_lines = none-from FromOurs is_theirs a.picks refl;
  taken = taken-from FromOurs a.picks ∙ a.picked;
}

pub theirs-woven : (all lines : List (List ℕ)) → ArePicked all lines → IsWoven [] [] all lines
theirs-woven all lines a = record {
  origins = map (origin FromTheirs) a.picks;
  base_lines = none-from FromTheirs is_base a.picks refl;
  our_lines = none-from FromTheirs is_ours a.picks refl;
  their_lines = all-from FromTheirs is_theirs a.picks refl ∙ a.all_lines;
  taken = taken-from FromTheirs a.picks ∙ a.picked;
}

-- three versions, of each of which some lines are taken: ours, the base, theirs
pub three-woven : (b o t x y z : List (List ℕ)) → ArePicked o x → ArePicked b y → ArePicked t z → IsWoven b o t (x ++ (y ++ z))
three-woven b o t x y z p q r =
    woven-as ([] ++ (b ++ [])) (o ++ ([] ++ [])) ([] ++ ([] ++ t)) (x ++ (y ++ z)) b o t (x ++ (y ++ z)) (append-nil b) (append-nil o) refl refl
    (both-woven [] o [] x (b ++ []) ([] ++ []) ([] ++ t) (y ++ z) (ours-woven o x p) (both-woven b [] [] y [] [] t z (base-woven b y q) (theirs-woven t z r)))

abbrev with-pick : Bool → List ℕ → Pick
with-pick b line = record { is_picked = b; line = line }

-- all lines are picked, or none
pub every-line : (ls : List (List ℕ)) → ArePicked ls ls
every-line ls = record { picks = map (with-pick true) ls; all_lines = lines ls; picked = some ls }
  where
    lines : (xs : List (List ℕ)) → map (λ (p : Pick). p.line) (map (with-pick true) xs) ≡ xs
    lines [] = refl
    lines (x ∷ xs) = ap (λ ys. x ∷ ys) (lines xs)

    some : (xs : List (List ℕ)) → map (λ (p : Pick). p.line) (filter (λ (p : Pick). p.is_picked) (map (with-pick true) xs)) ≡ xs
    some [] = refl
    some (x ∷ xs) = ap (λ ys. x ∷ ys) (some xs)

pub no-line : (ls : List (List ℕ)) → ArePicked ls []
no-line ls = record { picks = map (with-pick false) ls; all_lines = lines ls; picked = some ls }
  where
    lines : (xs : List (List ℕ)) → map (λ (p : Pick). p.line) (map (with-pick false) xs) ≡ xs
    lines [] = refl
    lines (x ∷ xs) = ap (λ ys. x ∷ ys) (lines xs)

    some : (xs : List (List ℕ)) → map (λ (p : Pick). p.line) (filter (λ (p : Pick). p.is_picked) (map (with-pick false) xs)) ≡ []
    some [] = refl
    some (x ∷ xs) = some xs

-- ---- what marks choose

-- Some lines of each version of a conflict, and what follows the conflict.
pub record SomeLines (b o t lines : List (List ℕ)) : Type 0 where
  pub ours : List (List ℕ)
  pub base : List (List ℕ)
  pub theirs : List (List ℕ)
  pub more : List (List ℕ)
  pub lines_are : lines ≡ (ours ++ (base ++ theirs)) ++ more
  pub our_lines : ArePicked o ours
  pub base_lines : ArePicked b base
  pub their_lines : ArePicked t theirs

-- The lines are those of a merge in which some lines of each conflict are taken.
abbrev pub AreChosen : List Outcome → List (List ℕ) → Type 0
AreChosen [] lines = lines ≡ []
AreChosen (Agreed ls ∷ os) lines = (more : List (List ℕ)) × (lines ≡ ls ++ more) × AreChosen os more
AreChosen (Conflict b o t ∷ os) lines = (some : SomeLines b o t lines) × AreChosen os some.more

abbrev clear : Section → Section
clear s = section_with_marks (λ _. false) s

abbrev taken-in : List Section → List (List ℕ)
taken-in ss = flat_map (section_lines true) (map section_with_texts ss)

-- ---- sections that differ in marks alone

record Rest (ss : List Section) (s : Section) (rest : List Section) : Type 0 where
  first : Section
  others : List Section
  sections_are : ss ≡ first ∷ others
  same_first : clear first ≡ clear s
  same_others : map clear others ≡ map clear rest

abbrev first-of : Section → List Section → Section
first-of d [] = d
first-of d (s ∷ ss) = s

unjoined : (ss : List Section) (s : Section) (rest : List Section) → map clear ss ≡ map clear (s ∷ rest) → Rest ss s rest
unjoined [] s rest e = cc
unjoined (k ∷ ks) s rest e = record {
  first = k;
  others = ks;
  sections_are = refl;
  same_first = ap (first-of (clear s)) e;
  same_others = ap (drop 1) e;
}

same-context : (s : Section) (ls : List (List ℕ)) → clear s ≡ clear (Unchanged ls) → section_lines true (section_with_texts s) ≡ ls
same-context (Unchanged ks) ls e = ap (section_lines true) e
same-context (Changed ks) ls e = cc
same-context (FileMode c m) ls e = cc
same-context (Binary c o n) ls e = cc

record AfterContext (ss : List Section) (ls : List (List ℕ)) (rest : List Section) : Type 0 where
  others : List Section
  lines_are : taken-in ss ≡ ls ++ taken-in others
  same_others : map clear others ≡ map clear rest

empty-lines : (ls : List (List ℕ)) → (length ls == 0) ≡ true → ls ≡ []
empty-lines [] e = refl
empty-lines (l ∷ ls) e = absurd (grind arith)

after-context : (ss : List Section) (ls : List (List ℕ)) (rest : List Section) → map clear ss ≡ map clear (context_sections ls ++ rest) → AfterContext ss ls rest
after-context ss ls rest e = at (length ls == 0) refl e
  where
    at : (t : Bool) → (length ls == 0) ≡ t → map clear ss ≡ map clear ((if t then [] else Unchanged ls ∷ []) ++ rest) → AfterContext ss ls rest
    at true f h = record {
      others = ss;
      lines_are = ap (λ xs. xs ++ taken-in ss) (sym (empty-lines ls f));
      same_others = h;
    }
    at false f h =
        let r = unjoined ss (Unchanged ls) rest h in
        record {
          others = r.others;
          lines_are = ap taken-in r.sections_are ∙ ap (λ xs. xs ++ taken-in r.others) (same-context r.first ls r.same_first);
          same_others = r.same_others;
        }

-- ---- some items of a version

abbrev clear-item : SectionChangedLine → SectionChangedLine
clear-item k = line_with_mark (λ _. false) k

item-texts : (ks : List SectionChangedLine) → map (λ (k : SectionChangedLine). k.line) (map clear-item ks) ≡ map (λ (k : SectionChangedLine). k.line) ks
item-texts [] = refl
item-texts (k ∷ ks) = ap (λ xs. k.line ∷ xs) (item-texts ks)

marked-texts : (m : Bool) (kind : ChangeType) (ls : List (List ℕ)) → map (λ (k : SectionChangedLine). k.line) (map (marked_line m kind) ls) ≡ ls
marked-texts m kind [] = refl
marked-texts m kind (l ∷ ls) = ap (λ xs. l ∷ xs) (marked-texts m kind ls)

abbrev has_byte : List ℕ → Bool
has_byte l = not (length l == 0)

with-bytes : (ks : List SectionChangedLine) → map (λ (k : SectionChangedLine). k.line) (filter has_text ks) ≡ filter has_byte (map (λ (k : SectionChangedLine). k.line) ks)
with-bytes [] = refl
with-bytes (k ∷ ks) = at (has_text k) (filter has_text ks) (with-bytes ks)
  where
    at : (b : Bool) (xs : List SectionChangedLine) → map (λ (j : SectionChangedLine). j.line) xs ≡ filter has_byte (map (λ (j : SectionChangedLine). j.line) ks) → map (λ (j : SectionChangedLine). j.line) (cond b (k ∷ xs) xs) ≡ cond b (k.line ∷ filter has_byte (map (λ (j : SectionChangedLine). j.line) ks)) (filter has_byte (map (λ (j : SectionChangedLine). j.line) ks))
    at true xs e = ap (λ (ls : List (List ℕ)). k.line ∷ ls) e
    at false xs e = e

all-bytes : (ls : List (List ℕ)) → AllByRecursion HasByte ls → filter has_byte ls ≡ ls
all-bytes [] h = refl
all-bytes (l ∷ ls) h = ap (λ b. cond (not b) (l ∷ filter has_byte ls) (filter has_byte ls)) h.0 ∙ ap (λ xs. l ∷ xs) (all-bytes ls h.1)

item-bytes : (ls : List (List ℕ)) → AllByRecursion HasByte ls → filter has_byte (items_of ls) ≡ ls
item-bytes [] h = refl
item-bytes (l ∷ ls) h = all-bytes (l ∷ ls) h

abbrev pick-of : SectionChangedLine → Pick
pick-of k = record { is_picked = takes true k; line = k.line }

picked-lines : (ks : List SectionChangedLine) → map (λ (p : Pick). p.line) (map pick-of ks) ≡ map (λ (k : SectionChangedLine). k.line) ks
picked-lines [] = refl
picked-lines (k ∷ ks) = ap (λ xs. k.line ∷ xs) (picked-lines ks)

picked-taken : (ks : List SectionChangedLine) → map (λ (p : Pick). p.line) (filter (λ (p : Pick). p.is_picked) (map pick-of ks)) ≡ map (λ (k : SectionChangedLine). k.line) (filter (takes true) ks)
picked-taken [] = refl
picked-taken (k ∷ ks) = at (takes true k) (picked-taken ks)
  where
    at : (b : Bool) → map (λ (p : Pick). p.line) (filter (λ (p : Pick). p.is_picked) (map pick-of ks)) ≡ map (λ (j : SectionChangedLine). j.line) (filter (takes true) ks) → map (λ (p : Pick). p.line) (cond b (pick-of k ∷ filter (λ (p : Pick). p.is_picked) (map pick-of ks)) (filter (λ (p : Pick). p.is_picked) (map pick-of ks))) ≡ map (λ (j : SectionChangedLine). j.line) (cond b (k ∷ filter (takes true) ks) (filter (takes true) ks))
    at true e = ap (λ (ls : List (List ℕ)). k.line ∷ ls) e
    at false e = e

abbrev section-items : Section → List SectionChangedLine
section-items (Unchanged ls) = []
section-items (Changed ks) = ks
section-items (FileMode c m) = []
section-items (Binary c o n) = []

version-picked : (s : Section) (m : Bool) (kind : ChangeType) (ls : List (List ℕ)) → AllByRecursion HasByte ls → clear s ≡ clear (version_section m kind ls) → ArePicked ls (section_lines true (section_with_texts s))
version-picked (Unchanged ks) m kind ls h e = cc
version-picked (FileMode c d) m kind ls h e = cc
version-picked (Binary c o n) m kind ls h e = cc
version-picked (Changed ks) m kind ls h e =
    let same : map clear-item ks ≡ map clear-item (map (marked_line m kind) (items_of ls)) = ap section-items e in
    let texts : map (λ (k : SectionChangedLine). k.line) ks ≡ items_of ls =
    sym (item-texts ks)
    ∙ ap (map (λ (k : SectionChangedLine). k.line)) same
    ∙ item-texts (map (marked_line m kind) (items_of ls))
    ∙ marked-texts m kind (items_of ls) in
    record {
      picks = map pick-of (filter has_text ks);
      all_lines = picked-lines (filter has_text ks) ∙ with-bytes ks ∙ ap (filter has_byte) texts ∙ item-bytes ls h;
      picked = picked-taken (filter has_text ks);
    }

-- ---- the lines of marked sections

record HasChosen (pending : List (List ℕ)) (os : List Outcome) (ss : List Section) : Type 0 where
  more : List (List ℕ)
  lines_are : taken-in ss ≡ pending ++ more
  chosen : AreChosen os more

no-section : (ss : List Section) → map clear ss ≡ [] → ss ≡ []
no-section [] e = refl
no-section (s ∷ ss) e = cc

all-chosen : (c : Choice) (pending : List (List ℕ)) (os : List Outcome) (ss : List Section) → AllByRecursion HasBytes os → map clear ss ≡ map clear (sections_from c pending os) → HasChosen pending os ss
all-chosen c pending [] ss h e =
    let a = after-context ss pending [] (e ∙ ap (map clear) (sym (append-nil (context_sections pending)))) in
    record {
      more = [];
      lines_are = a.lines_are ∙ ap (λ xs. pending ++ taken-in xs) (no-section a.others a.same_others);
      chosen = refl;
    }
all-chosen c pending (Agreed ls ∷ os) ss h e =
    let r = all-chosen c (pending ++ ls) os ss h.1 e in
    record {
      more = ls ++ r.more;
      lines_are = r.lines_are ∙ append_assoc pending ls r.more;
      chosen = (r.more, refl, r.chosen);
    }
all-chosen c pending (Conflict b o t ∷ os) ss h e =
    let a = after-context ss pending (conflict_sections c b o t ++ sections_from c [] os) e in
    let tail = sections_from c [] os in
    let base = version_section (not c.base) Removed b in
    let theirs = version_section c.theirs Added t in
    let first = unjoined a.others (version_section c.ours Added o) (base ∷ theirs ∷ tail) a.same_others in
    let second = unjoined first.others base (theirs ∷ tail) first.same_others in
    let third = unjoined second.others theirs tail second.same_others in
    let r = all-chosen c [] os third.others h.1 third.same_others in
    let x = section_lines true (section_with_texts first.first) in
    let y = section_lines true (section_with_texts second.first) in
    let z = section_lines true (section_with_texts third.first) in
    let lines : taken-in a.others ≡ (x ++ (y ++ z)) ++ r.more =
    ap taken-in (first.sections_are ∙ ap (λ ks. first.first ∷ ks) (second.sections_are ∙ ap (λ ks. second.first ∷ ks) third.sections_are))
    ∙ ap (λ ls. x ++ (y ++ (z ++ ls))) r.lines_are
    ∙ ap (λ ls. x ++ ls) (sym (append_assoc y z r.more))
    ∙ sym (append_assoc x (y ++ z) r.more) in
    record {
      more = (x ++ (y ++ z)) ++ r.more;
      lines_are = a.lines_are ∙ ap (λ ls. pending ++ ls) lines;
      chosen = (
        record {
          ours = x;
          base = y;
          theirs = z;
          more = r.more;
          lines_are = refl;
          our_lines = version-picked first.first c.ours Added o h.0.1 first.same_first;
          base_lines = version-picked second.first (not c.base) Removed b h.0.0 second.same_first;
          their_lines = version-picked third.first c.theirs Added t h.0.2 third.same_first;
        },
        r.chosen,
      );
    }

-- ---- the lines that are chosen are woven

record Split (os ps : List Outcome) (lines : List (List ℕ)) : Type 0 where
  front : List (List ℕ)
  back : List (List ℕ)
  lines_are : lines ≡ front ++ back
  front_chosen : AreChosen os front
  back_chosen : AreChosen ps back

chosen-split : (os ps : List Outcome) (lines : List (List ℕ)) → AreChosen (os ++ ps) lines → Split os ps lines
chosen-split [] ps lines h = record { front = []; back = lines; lines_are = refl; front_chosen = refl; back_chosen = h }
chosen-split (Agreed ls ∷ os) ps lines h =
    let r = chosen-split os ps h.0 h.2 in
    record {
      front = ls ++ r.front;
      back = r.back;
      lines_are = h.1 ∙ ap (λ xs. ls ++ xs) r.lines_are ∙ sym (append_assoc ls r.front r.back);
      front_chosen = (r.front, refl, r.front_chosen);
      back_chosen = r.back_chosen;
    }
chosen-split (Conflict b o t ∷ os) ps lines h =
    let s = h.0 in
    let r = chosen-split os ps s.more h.1 in
    let taken = s.ours ++ (s.base ++ s.theirs) in
    record {
      front = taken ++ r.front;
      back = r.back;
      lines_are = s.lines_are ∙ ap (λ xs. taken ++ xs) r.lines_are ∙ sym (append_assoc taken r.front r.back);
      front_chosen = (
        record {
          ours = s.ours;
          base = s.base;
          theirs = s.theirs;
          more = r.front;
          lines_are = refl;
          our_lines = s.our_lines;
          base_lines = s.base_lines;
          their_lines = s.their_lines;
        },
        r.front_chosen,
      );
      back_chosen = r.back_chosen;
    }

-- lines that both sides, or all three lists, have
same-woven : (b o t : List (List ℕ)) → IsWoven b o t o
same-woven b o t = woven-as b o t (o ++ ([] ++ [])) b o t o refl refl refl (append-nil o) (three-woven b o t o [] [] (every-line o) (no-line b) (no-line t))

their-woven : (b o t : List (List ℕ)) → IsWoven b o t t
their-woven b o t = three-woven b o t [] [] t (no-line o) (no-line b) (every-line t)

agreed-lines : (ls lines : List (List ℕ)) → AreChosen (Agreed ls ∷ []) lines → ls ≡ lines
agreed-lines ls lines h = sym (h.1 ∙ ap (λ xs. ls ++ xs) h.2 ∙ append-nil ls)

conflict-woven : (b o t lines : List (List ℕ)) → AreChosen (conflict_of (record { base = b; ours = o; theirs = t })) lines → IsWoven b o t lines
conflict-woven b o t lines h =
    let r = trimmed b o t in
    let g : AreChosen (Agreed r.before ∷ Conflict b r.ours r.theirs ∷ Agreed r.after ∷ []) lines = subst (λ os. AreChosen os lines) r.outcomes h in
    let s = g.2.0 in
    let taken = s.ours ++ (s.base ++ s.theirs) in
    let end = g.2.1 in
    let all : r.before ++ (taken ++ r.after) ≡ lines =
    sym (g.1 ∙ ap (λ xs. r.before ++ xs) (s.lines_are ∙ ap (λ xs. taken ++ xs) (sym (agreed-lines r.after s.more end)))) in
    woven-as ([] ++ (b ++ [])) (r.before ++ (r.ours ++ r.after)) (r.before ++ (r.theirs ++ r.after)) (r.before ++ (taken ++ r.after)) b o t lines (append-nil b) (sym r.our_lines) (sym r.their_lines) all
    (both-woven [] r.before r.before r.before (b ++ []) (r.ours ++ r.after) (r.theirs ++ r.after) (taken ++ r.after) (same-woven [] r.before r.before)
    (both-woven b r.ours r.theirs taken [] r.after r.after r.after (three-woven b r.ours r.theirs s.ours s.base s.theirs s.our_lines s.base_lines s.their_lines) (same-woven [] r.after r.after)))

part-woven : (b o t lines : List (List ℕ)) → AreChosen (outcomes_of (record { base = b; ours = o; theirs = t })) lines → IsWoven b o t lines
part-woven b o t lines h = at (same_lines o b) (same_lines t b) (same_lines o t) h
  where
    ours : AreChosen (Agreed o ∷ []) lines → IsWoven b o t lines
    ours g = woven-as b o t o b o t lines refl refl refl (agreed-lines o lines g) (same-woven b o t)

    at : (x y z : Bool) → AreChosen (if x then Agreed t ∷ [] else (if y then Agreed o ∷ [] else (if z then Agreed o ∷ [] else conflict_of (record { base = b; ours = o; theirs = t })))) lines → IsWoven b o t lines
    at true y z g = woven-as b o t t b o t lines refl refl refl (agreed-lines t lines g) (their-woven b o t)
    at false true z g = ours g
    at false false true g = ours g
    at false false false g = conflict-woven b o t lines g

common-woven : (b o t : List (List ℕ)) → b ≡ o → b ≡ t → IsWoven b o t b
common-woven b o t e f = woven-as b b b b b o t b refl e f refl (same-woven b b b)

all-woven : (base ours theirs : List (List ℕ)) (least i j k : ℕ) (rs : List Region) (lines : List (List ℕ)) → AreRegionsFrom base ours theirs least i j k rs → AreChosen (outcomes_from base ours theirs i rs) lines → IsWoven (drop i base) (drop j ours) (drop k theirs) lines
all-woven base ours theirs least i j k [] lines h g =
    woven-as (drop i base) (drop j ours) (drop k theirs) (drop i base) (drop i base) (drop j ours) (drop k theirs) lines refl refl refl (agreed-lines (drop i base) lines g)
    (common-woven (drop i base) (drop j ours) (drop k theirs) h.0 h.1)
all-woven base ours theirs least i j k (r ∷ rs) lines h g =
    let n = h.0 in
    let p = part_at base ours theirs r in
    let os = outcomes_from base ours theirs r.base_end rs in
    let s = chosen-split (outcomes_of p) os g.0 g.2 in
    let b = slice_range base i r.base_start in
    let o = slice_range ours j r.ours_start in
    let t = slice_range theirs k r.theirs_start in
    let ours_same : b ≡ o = common-slice base ours i j n.run r.base_start r.ours_start n.base_begins n.ours_begins n.ours_common in
    let theirs_same : b ≡ t = common-slice base theirs i k n.run r.base_start r.theirs_start n.base_begins n.theirs_begins n.theirs_common in
    woven-as (b ++ (p.base ++ drop r.base_end base)) (o ++ (p.ours ++ drop r.ours_end ours)) (t ++ (p.theirs ++ drop r.theirs_end theirs)) (b ++ (s.front ++ s.back)) (drop i base) (drop j ours) (drop k theirs) lines
    (two-slices base (drop r.base_end base) i r.base_start r.base_end (let e = n.base_begins in omega arith) n.base_order refl)
    (two-slices ours (drop r.ours_end ours) j r.ours_start r.ours_end (let e = n.ours_begins in omega arith) n.ours_order refl)
    (two-slices theirs (drop r.theirs_end theirs) k r.theirs_start r.theirs_end (let e = n.theirs_begins in omega arith) n.theirs_order refl)
    (sym (g.1 ∙ ap (λ xs. b ++ xs) s.lines_are))
    (both-woven b o t b (p.base ++ drop r.base_end base) (p.ours ++ drop r.ours_end ours) (p.theirs ++ drop r.theirs_end theirs) (s.front ++ s.back) (common-woven b o t ours_same theirs_same)
    (both-woven p.base p.ours p.theirs s.front (drop r.base_end base) (drop r.ours_end ours) (drop r.theirs_end theirs) s.back (part-woven p.base p.ours p.theirs s.front s.front_chosen)
    (all-woven base ours theirs 1 r.base_end r.ours_end r.theirs_end rs s.back h.1 s.back_chosen)))

-- ---- the lines of a merge

pub lines-woven : (path : List ℕ) (mode : Mode) (base ours theirs : List ℕ) (file marked : File) → IsMerge path mode base ours theirs file → unchecked marked ≡ unchecked file → IsWoven (lines_of base) (lines_of ours) (lines_of theirs) (side_lines true (file_with_texts marked))
lines-woven path mode base ours theirs file marked m same =
    let B = lines_of base in
    let O = lines_of ours in
    let T = lines_of theirs in
    let a = m.are_sections in
    let os = outcomes_from B O T 0 a.regions in
    let bytes = outcome-bytes B O T 0 a.regions (line-bytes B (lines_are_lines base)) (line-bytes O (lines_are_lines ours)) (line-bytes T (lines_are_lines theirs)) in
    let cleared : map clear marked.sections ≡ map clear (sections_from nothing_chosen [] os) = ap (λ (f : File). f.sections) same ∙ ap (map clear) a.sections_are in
    let r = all-chosen nothing_chosen [] os marked.sections bytes cleared in
    woven-as B O T r.more B O T (side_lines true (file_with_texts marked)) refl refl refl
    (sym r.lines_are ∙ ap (flat_map (section_lines true)) (sym (tail-all (map section_with_texts marked.sections) (none-binary file marked os a.sections_are same))))
    (all-woven B O T 0 0 0 0 a.regions r.more a.are_merged.are_regions r.chosen)
