-- What becomes of each part of three lists of lines.
use Rattle.std.specs.Prelude.{◌≡◌, ℕ, ◌-◌, Bool, true, false, nat_eq, ◌||◌, if◌then◌else◌, List, [], ◌∷◌, ◌++◌, drop, length, reverse, slice_range, take}
use Rattle.std.specs.Cmp.Lexicographic.{pointwise}
use Rattle.std.specs.List.{common_prefix_len}
use Rattle.scm_merge.specs.declared.region.Region.{Region}
use Rattle.scm_diff.specs.declared.hunk.Hunk.{Hunk}
use Rattle.scm_merge.specs.Regions.{AreLeast, AreLeastBy, AreRegions}

-- whether the lines are equal, one by one
abbrev pub same_lines : List (List ℕ) → List (List ℕ) → Bool
same_lines xs ys = pointwise (pointwise nat_eq) xs ys

-- how many lines the two lists share at their start
abbrev pub shared_start : List (List ℕ) → List (List ℕ) → ℕ
shared_start xs ys = common_prefix_len (pointwise nat_eq) xs ys

-- how many lines the two lists share at their end
abbrev pub shared_end : List (List ℕ) → List (List ℕ) → ℕ
shared_end xs ys = shared_start (reverse xs) (reverse ys)

-- A part of three lists of lines: the lines that each of them has there.
pub record Part : Type 0 where
  pub base : List (List ℕ)
  pub ours : List (List ℕ)
  pub theirs : List (List ℕ)

-- What becomes of a part: lines that are taken without asking, or a conflict of the lines of `base`,
-- of `ours` and of `theirs`.
pub data Outcome : Type 0 where
  Agreed : List (List ℕ) → Outcome
  Conflict : List (List ℕ) → List (List ℕ) → List (List ℕ) → Outcome

-- A conflict of the part without the first `start` and the last `end` lines of the two sides. They share
-- these lines, which are taken without asking.
abbrev pub conflict_within : Part → ℕ → ℕ → List Outcome
conflict_within p start end =
    Agreed (take start p.ours)
    ∷ Conflict p.base (slice_range p.ours start (length p.ours - end)) (slice_range p.theirs start (length p.theirs - end))
    ∷ Agreed (drop (length p.ours - end) p.ours)
    ∷ []

-- A conflict of the part, which begins and ends where the two sides differ.
abbrev pub conflict_of : Part → List Outcome
conflict_of p =
    conflict_within p (shared_start p.ours p.theirs)
    (shared_end (drop (shared_start p.ours p.theirs) p.ours) (drop (shared_start p.ours p.theirs) p.theirs))

-- A part that a side left as it was becomes what the other side made of it. A part of which both sides
-- made the same becomes that. Any other part is a conflict.
abbrev pub outcomes_of : Part → List Outcome
outcomes_of p =
    if same_lines p.ours p.base then Agreed p.theirs ∷ []
    else if same_lines p.theirs p.base then Agreed p.ours ∷ []
    else if same_lines p.ours p.theirs then Agreed p.ours ∷ []
    else conflict_of p

-- the part of the region
abbrev pub part_at : List (List ℕ) → List (List ℕ) → List (List ℕ) → Region → Part
part_at base ours theirs r = record {
  base = slice_range base r.base_start r.base_end;
  ours = slice_range ours r.ours_start r.ours_end;
  theirs = slice_range theirs r.theirs_start r.theirs_end;
}

-- what becomes of the lines from line `i` of `base` on: common lines, and the parts of the regions
abbrev pub outcomes_from : List (List ℕ) → List (List ℕ) → List (List ℕ) → ℕ → List Region → List Outcome
outcomes_from base ours theirs i [] = Agreed (drop i base) ∷ []
outcomes_from base ours theirs i (r ∷ rs) =
    Agreed (slice_range base i r.base_start) ∷ (outcomes_of (part_at base ours theirs r) ++ outcomes_from base ours theirs r.base_end rs)

-- Which lines of the conflicts are taken.
pub record Choice : Type 0 where
  pub ours : Bool
  pub base : Bool
  pub theirs : Bool

-- the lines, if `taken`
abbrev pub lines_if : Bool → List (List ℕ) → List (List ℕ)
lines_if taken lines = if taken then lines else []

-- the lines of a merge in which each conflict is settled by the choice
abbrev pub lines_by : Choice → List Outcome → List (List ℕ)
lines_by c [] = []
lines_by c (Agreed ls ∷ os) = ls ++ lines_by c os
lines_by c (Conflict b o t ∷ os) = (lines_if c.ours o ++ (lines_if c.base b ++ lines_if c.theirs t)) ++ lines_by c os

-- whether there is a conflict
abbrev pub has_conflict : List Outcome → Bool
has_conflict [] = false
has_conflict (Agreed ls ∷ os) = has_conflict os
has_conflict (Conflict b o t ∷ os) = true

-- whether two of the three lists are equal
abbrev pub are_two_same : List (List ℕ) → List (List ℕ) → List (List ℕ) → Bool
are_two_same base ours theirs = same_lines ours base || same_lines theirs base || same_lines ours theirs

-- the region of all lines
abbrev pub whole_region : List (List ℕ) → List (List ℕ) → List (List ℕ) → Region
whole_region base ours theirs = record {
  base_start = 0;
  base_end = length base;
  ours_start = 0;
  ours_end = length ours;
  theirs_start = 0;
  theirs_end = length theirs;
}

-- The regions are those that the merge is made of.
pub record AreMerged (base ours theirs : List (List ℕ)) (regions : List Region) : Type 0 where
  -- all other lines are equal in all three lists
  pub are_regions : AreRegions base ours theirs regions
  -- if two of the lists are equal, all lines are one part, so the merge is the third list
  pub whole : are_two_same base ours theirs ≡ true → regions ≡ whole_region base ours theirs ∷ []
  -- otherwise the regions are no greater than the differences ask for
  pub least : are_two_same base ours theirs ≡ false → AreLeast base ours theirs regions

-- The regions are those that the merge is made of, by these differences of both sides.
pub record AreMergedBy (base ours theirs : List (List ℕ)) (ours_hunks theirs_hunks : List Hunk) (regions : List Region) : Type 0 where
  pub are_regions : AreRegions base ours theirs regions
  pub whole : are_two_same base ours theirs ≡ true → regions ≡ whole_region base ours theirs ∷ []
  pub least : are_two_same base ours theirs ≡ false → AreLeastBy base ours theirs ours_hunks theirs_hunks regions
