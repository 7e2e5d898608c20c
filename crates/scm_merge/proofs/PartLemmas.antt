-- The sections of a merge, made part by part.
use Rattle.std.proofs.Common.{◌≡◌, ℕ, ◌+◌, ◌-◌, ◌<◌, ◌≤◌, Bool, true, false, if◌then◌else◌, List, [], ◌∷◌, ◌++◌, length, length-drop, take, drop, get_or, ap, sym, ◌∙◌, subst, arith, append_assoc}
use Rattle.std.specs.Prelude.{slice_range}
use Rattle.std.proofs.lemmas.List.{drop_more, drop_all, take_all}
use Rattle.scm_types.specs.declared.section.Section.{Section}
use Rattle.scm_diff.specs.Sections.{context_sections}
use Rattle.scm_merge.specs.declared.region.Region.{Region}
use Rattle.scm_merge.specs.Regions.{AreRegions, AreRegionsFrom, IsNextRegion}
use Rattle.scm_merge.specs.Parts.{Agreed, Conflict, Outcome, Part, conflict_of, conflict_within, outcomes_from, outcomes_of, part_at, same_lines, shared_end, shared_start}
use Rattle.scm_merge.specs.Sections.{Continues, IsRegionWithin, conflict_sections, nothing_chosen, sections_from}

-- ---- what becomes of a part

pub ours-kept : (b o t : List (List ℕ)) → same_lines o b ≡ true → outcomes_of (record { base = b; ours = o; theirs = t }) ≡ Agreed t ∷ []
ours-kept b o t e = ap (λ (x : Bool). if x then Agreed t ∷ [] else (if same_lines t b then Agreed o ∷ [] else (if same_lines o t then Agreed o ∷ [] else conflict_of (record { base = b; ours = o; theirs = t })))) e

pub theirs-kept : (b o t : List (List ℕ)) → same_lines o b ≡ false → same_lines t b ≡ true → outcomes_of (record { base = b; ours = o; theirs = t }) ≡ Agreed o ∷ []
theirs-kept b o t e f =
    ap (λ (x : Bool). if x then Agreed t ∷ [] else (if same_lines t b then Agreed o ∷ [] else (if same_lines o t then Agreed o ∷ [] else conflict_of (record { base = b; ours = o; theirs = t })))) e
    ∙ ap (λ (x : Bool). if x then Agreed o ∷ [] else (if same_lines o t then Agreed o ∷ [] else conflict_of (record { base = b; ours = o; theirs = t }))) f

pub both-same : (b o t : List (List ℕ)) → same_lines o b ≡ false → same_lines t b ≡ false → same_lines o t ≡ true → outcomes_of (record { base = b; ours = o; theirs = t }) ≡ Agreed o ∷ []
both-same b o t e f g =
    ap (λ (x : Bool). if x then Agreed t ∷ [] else (if same_lines t b then Agreed o ∷ [] else (if same_lines o t then Agreed o ∷ [] else conflict_of (record { base = b; ours = o; theirs = t })))) e
    ∙ ap (λ (x : Bool). if x then Agreed o ∷ [] else (if same_lines o t then Agreed o ∷ [] else conflict_of (record { base = b; ours = o; theirs = t }))) f
    ∙ ap (λ (x : Bool). if x then Agreed o ∷ [] else conflict_of (record { base = b; ours = o; theirs = t })) g

pub goes-alike : (os ps : List Outcome) (ss more : List Section) (p q : List (List ℕ)) → os ≡ ps → Continues ps ss more p q → Continues os ss more p q
goes-alike os ps ss more p q e c = record { goes_on = λ rest. c.goes_on rest ∙ ap (λ x. ss ++ sections_from nothing_chosen p (x ++ rest)) (sym e) }

-- lines, a conflict, and lines after it
pub goes-conflict : (x b u t y : List (List ℕ)) (ss half more : List Section) (p before q after : List (List ℕ)) → before ≡ p ++ x → half ≡ ss ++ context_sections before → q ≡ [] → more ≡ half ++ conflict_sections nothing_chosen b u t → after ≡ q ++ y → Continues (Agreed x ∷ Conflict b u t ∷ Agreed y ∷ []) ss more p after
goes-conflict x b u t y ss half more p before q after e h z m f = record {
  goes_on = λ rest.
      let new = conflict_sections nothing_chosen b u t in
      let tail = sections_from nothing_chosen y rest in
      ap (λ k. more ++ sections_from nothing_chosen k rest) (f ∙ ap (λ k. k ++ y) z)
      ∙ ap (λ k. k ++ tail) (m ∙ ap (λ k. k ++ new) (h ∙ ap (λ k. ss ++ context_sections k) e))
      ∙ append_assoc (ss ++ context_sections (p ++ x)) new tail
      ∙ append_assoc ss (context_sections (p ++ x)) (new ++ tail);
}

-- a conflict and the lines around it, as they are cut out of the two sides
pub goes-trimmed : (b o t : List (List ℕ)) (n m : ℕ) (ss half more : List Section) (p before q after : List (List ℕ)) → n ≡ shared_start o t → m ≡ shared_end (take (length o - n) (drop n o)) (take (length t - n) (drop n t)) → before ≡ p ++ take n o → half ≡ ss ++ context_sections before → q ≡ [] → more ≡ half ++ conflict_sections nothing_chosen b (slice_range o n (length o - m)) (slice_range t n (length t - m)) → after ≡ q ++ take (length o - (length o - m)) (drop (length o - m) o) → Continues (conflict_of (record { base = b; ours = o; theirs = t })) ss more p after
goes-trimmed b o t n m ss half more p before q after start end e h z c f =
    let part : Part = record { base = b; ours = o; theirs = t } in
    let u = slice_range o n (length o - m) in
    let v = slice_range t n (length t - m) in
    let ours_rest : take (length o - n) (drop n o) ≡ drop n o = take_all (length o - n) (drop n o) (simp length-drop (omega arith)) in
    let theirs_rest : take (length t - n) (drop n t) ≡ drop n t = take_all (length t - n) (drop n t) (simp length-drop (omega arith)) in
    let after_rest : take (length o - (length o - m)) (drop (length o - m) o) ≡ drop (length o - m) o = take_all (length o - (length o - m)) (drop (length o - m) o) (simp length-drop (omega arith)) in
    let last : m ≡ shared_end (drop n o) (drop n t) = end ∙ ap (λ x. shared_end x (take (length t - n) (drop n t))) ours_rest ∙ ap (λ x. shared_end (drop n o) x) theirs_rest in
    goes-alike (conflict_of part) (Agreed (take n o) ∷ Conflict b u v ∷ Agreed (drop (length o - m) o) ∷ []) ss more p after
    (ap (λ k. conflict_within part k (shared_end (drop k o) (drop k t))) (sym start) ∙ ap (λ k. conflict_within part n k) (sym last))
    (goes-conflict (take n o) b u v (drop (length o - m) o) ss half more p before q after e h z c (f ∙ ap (λ x. q ++ x) after_rest))

-- common lines, and then more outcomes
pub goes-both : (ls : List (List ℕ)) (os : List Outcome) (ss more : List Section) (p half q : List (List ℕ)) → half ≡ p ++ ls → Continues os ss more half q → Continues (Agreed ls ∷ os) ss more p q
goes-both ls os ss more p half q e c = record {
  goes_on = λ rest. c.goes_on rest ∙ ap (λ x. ss ++ sections_from nothing_chosen x (os ++ rest)) e;
}

-- ---- a walk over regions

-- The regions are those from line `i` of `base` on.
pub record HasRegions (base ours theirs : List (List ℕ)) (i : ℕ) (rs : List Region) : Type 0 where
  pub least : ℕ
  pub j : ℕ
  pub k : ℕ
  pub regions : AreRegionsFrom base ours theirs least i j k rs

pub has-all : (base ours theirs : List (List ℕ)) (rs : List Region) → AreRegions base ours theirs rs → HasRegions base ours theirs 0 rs
has-all base ours theirs rs h = record { least = 0; j = 0; k = 0; regions = h }

first-of : (rs : List Region) (k : ℕ) (r : Region) → k < length rs → r ≡ get_or rs k r → drop k rs ≡ r ∷ drop (k + 1) rs
first-of rs k r l e = drop_more rs k r l ∙ ap (λ x. x ∷ drop (k + 1) rs) (sym e)

within-of : (base ours theirs : List (List ℕ)) (least i j k : ℕ) (r : Region) → IsNextRegion base ours theirs least i j k r → IsRegionWithin base ours theirs i r
within-of base ours theirs least i j k r n = record {
  begins = let e = n.base_begins in omega arith;
  base_order = n.base_order;
  ours_order = n.ours_order;
  theirs_order = n.theirs_order;
  base_within = n.base_within;
  ours_within = n.ours_within;
  theirs_within = n.theirs_within;
}

pub next-within : (base ours theirs : List (List ℕ)) (i : ℕ) (rs : List Region) (k : ℕ) (r : Region) → k < length rs → r ≡ get_or rs k r → HasRegions base ours theirs i (drop k rs) → IsRegionWithin base ours theirs i r
next-within base ours theirs i rs k r l e h =
    let all : AreRegionsFrom base ours theirs h.least i h.j h.k (r ∷ drop (k + 1) rs) = subst (AreRegionsFrom base ours theirs h.least i h.j h.k) (first-of rs k r l e) h.regions in
    within-of base ours theirs h.least i h.j h.k r all.0

pub next-rest : (base ours theirs : List (List ℕ)) (i : ℕ) (rs : List Region) (k : ℕ) (r : Region) → k < length rs → r ≡ get_or rs k r → HasRegions base ours theirs i (drop k rs) → HasRegions base ours theirs r.base_end (drop (k + 1) rs)
next-rest base ours theirs i rs k r l e h =
    let all : AreRegionsFrom base ours theirs h.least i h.j h.k (r ∷ drop (k + 1) rs) = subst (AreRegionsFrom base ours theirs h.least i h.j h.k) (first-of rs k r l e) h.regions in
    record { least = 1; j = r.ours_end; k = r.theirs_end; regions = all.1 }

-- The sections and the context that is pending are those of the lines before line `i` of `base`.
pub record AreBuilt (base ours theirs : List (List ℕ)) (all : List Region) (i : ℕ) (rs : List Region) (ss : List Section) (pending : List (List ℕ)) : Type 0 where
  pub goes_on : ss ++ sections_from nothing_chosen pending (outcomes_from base ours theirs i rs) ≡ sections_from nothing_chosen [] (outcomes_from base ours theirs 0 all)

pub nothing-built : (base ours theirs : List (List ℕ)) (all : List Region) (ss : List Section) (pending : List (List ℕ)) → ss ≡ [] → pending ≡ [] → AreBuilt base ours theirs all 0 all ss pending
nothing-built base ours theirs all ss pending e f = record {
  goes_on =
      ap (λ x. x ++ sections_from nothing_chosen pending (outcomes_from base ours theirs 0 all)) e
      ∙ ap (λ x. sections_from nothing_chosen x (outcomes_from base ours theirs 0 all)) f;
}

pub more-built : (base ours theirs : List (List ℕ)) (all : List Region) (i k : ℕ) (r : Region) (ss more : List Section) (p q : List (List ℕ)) → k < length all → r ≡ get_or all k r → Continues (Agreed (slice_range base i r.base_start) ∷ outcomes_of (part_at base ours theirs r)) ss more p q → AreBuilt base ours theirs all i (drop k all) ss p → AreBuilt base ours theirs all r.base_end (drop (k + 1) all) more q
more-built base ours theirs all i k r ss more p q l e c b = record {
  goes_on =
      c.goes_on (outcomes_from base ours theirs r.base_end (drop (k + 1) all))
      ∙ ap (λ x. ss ++ sections_from nothing_chosen p (outcomes_from base ours theirs i x)) (sym (first-of all k r l e))
      ∙ b.goes_on;
}

pub all-built : (base ours theirs : List (List ℕ)) (all : List Region) (i k : ℕ) (ss more : List Section) (p q : List (List ℕ)) → length all ≤ k → q ≡ p ++ drop i base → more ≡ ss ++ context_sections q → AreBuilt base ours theirs all i (drop k all) ss p → more ≡ sections_from nothing_chosen [] (outcomes_from base ours theirs 0 all)
all-built base ours theirs all i k ss more p q l e m b =
    m ∙ ap (λ x. ss ++ context_sections x) e
    ∙ ap (λ x. ss ++ sections_from nothing_chosen p (outcomes_from base ours theirs i x)) (sym (drop_all k all l))
    ∙ b.goes_on
