-- Laws of the merge of three lists of lines.
use Rattle.std.specs.Prelude.{◌≡◌, ◌≢◌, ◌≤◌, ◌<◌, ◌+◌, ◌==◌, ℕ, true, false, if◌then◌else◌, List, [], ◌∷◌, ◌++◌, drop, length, slice_range}
use Rattle.std.specs.List.{AllByRecursion}
use Rattle.scm_types.specs.declared.file.File.{File}
use Rattle.scm_types.specs.declared.section.Section.{Section}
use Rattle.scm_embed.specs.Lines.{lines_of}
use Rattle.scm_diff.specs.Bytes.{bytes_of_text}
use Rattle.scm_diff.specs.Sides.{text_of}
use Rattle.scm_merge.specs.Markers.{bytes_with_markers, marker, opened}
use Rattle.scm_merge.specs.Merge.{merged_bytes}
use Rattle.scm_merge.specs.declared.labels.Labels.{Labels}
use Rattle.scm_merge.specs.declared.style.Style.{Style}
use Rattle.scm_merge.specs.declared.region.Region.{Region}
use Rattle.scm_merge.specs.Parts.{Agreed, AreMerged, Choice, Conflict, Outcome, Part, conflict_of, has_conflict, lines_by, outcomes_from, outcomes_of, part_at, same_lines, shared_end, shared_start}
use Rattle.scm_merge.specs.Sections.{sections_from}
use Rattle.scm_merge.specs.Style.{all_texts, marker_run, style_of}

-- the region with the sides exchanged
abbrev pub exchanged_region : Region → Region
exchanged_region r = record {
  base_start = r.base_start;
  base_end = r.base_end;
  ours_start = r.theirs_start;
  ours_end = r.theirs_end;
  theirs_start = r.ours_start;
  theirs_end = r.ours_end;
}

-- the outcome with the sides exchanged
abbrev pub exchanged : Outcome → Outcome
exchanged (Agreed ls) = Agreed ls
exchanged (Conflict b o t) = Conflict b t o

-- A part is a conflict exactly if no two of its three lists are equal.
pub record IsConflictOfThree (p : Part) : Type 0 where
  pub three : has_conflict (outcomes_of p) ≡ true → (p.ours ≢ p.base) × (p.theirs ≢ p.base) × (p.ours ≢ p.theirs)
  pub conflict : p.ours ≢ p.base → p.theirs ≢ p.base → p.ours ≢ p.theirs → has_conflict (outcomes_of p) ≡ true

-- A conflict of a part begins and ends where its two sides differ. The lines that they share before and
-- after it are taken without asking.
pub record IsTrimmed (p : Part) : Type 0 where
  pub before : List (List ℕ)
  pub ours : List (List ℕ)
  pub theirs : List (List ℕ)
  pub after : List (List ℕ)
  pub outcomes : conflict_of p ≡ Agreed before ∷ Conflict p.base ours theirs ∷ Agreed after ∷ []
  pub our_lines : p.ours ≡ before ++ (ours ++ after)
  pub their_lines : p.theirs ≡ before ++ (theirs ++ after)
  pub begins : shared_start ours theirs ≡ 0
  pub ends : shared_end ours theirs ≡ 0

-- The merge has no conflict, and is these lines, whatever is chosen.
pub record IsClean (os : List Outcome) (lines : List (List ℕ)) : Type 0 where
  pub no_conflict : has_conflict os ≡ false
  pub lines_are : (c : Choice) → lines_by c os ≡ lines

-- a part of lines that all three lists have
abbrev pub common_part : List (List ℕ) → Part
common_part lines = record { base = lines; ours = lines; theirs = lines }

-- the parts of three lists, from line `i` of `base` on: common lines and regions in turn
abbrev pub parts_from : List (List ℕ) → List (List ℕ) → List (List ℕ) → ℕ → List Region → List Part
parts_from base ours theirs i [] = common_part (drop i base) ∷ []
parts_from base ours theirs i (r ∷ rs) =
    common_part (slice_range base i r.base_start) ∷ part_at base ours theirs r ∷ parts_from base ours theirs r.base_end rs

-- our lines of the part, or their lines if we left the part as it was
abbrev pub ours_first : Part → List (List ℕ)
ours_first p = if same_lines p.ours p.base then p.theirs else p.ours

-- their lines of the part, or our lines if they left the part as it was
abbrev pub theirs_first : Part → List (List ℕ)
theirs_first p = if same_lines p.theirs p.base then p.ours else p.theirs

-- the choice of our lines in each conflict, and of their lines
abbrev pub all_ours : Choice
all_ours = record { ours = true; base = false; theirs = false }

abbrev pub all_theirs : Choice
all_theirs = record { ours = false; base = false; theirs = true }

-- the line has a byte, as each line of a text has
abbrev pub HasByte : List ℕ → Type 0
HasByte line = (length line == 0) ≡ false

-- each line of the outcome has a byte
abbrev pub HasBytes : Outcome → Type 0
HasBytes (Agreed ls) = AllByRecursion HasByte ls
HasBytes (Conflict b o t) = AllByRecursion HasByte b × AllByRecursion HasByte o × AllByRecursion HasByte t

-- the file with the sections of these outcomes, marked by the choice
abbrev pub file_by : File → Choice → List Outcome → File
file_by file c os = record file { sections = sections_from c [] os }

-- how many of the outcomes are conflicts
abbrev pub conflict_count : List Outcome → ℕ
conflict_count [] = 0
conflict_count (Agreed ls ∷ os) = conflict_count os
conflict_count (Conflict b o t ∷ os) = 1 + conflict_count os

-- If the marks of the file are those of a choice, its bytes are those of the merge by the choice.
pub record GivesBytesByChoice (base ours theirs : List ℕ) (file : File) : Type 0 where
  pub regions : List Region
  pub are_merged : AreMerged (lines_of base) (lines_of ours) (lines_of theirs) regions
  pub bytes : (c : Choice)
      → merged_bytes (file_by file c (outcomes_from (lines_of base) (lines_of ours) (lines_of theirs) 0 regions))
      ≡ bytes_of_text (text_of (lines_by c (outcomes_from (lines_of base) (lines_of ours) (lines_of theirs) 0 regions)))

-- a conflict of which nothing is taken, as it is written: each version behind its marker
abbrev pub conflict_lines : Style → Labels → List (List ℕ) → List (List ℕ) → List (List ℕ) → List (List ℕ)
conflict_lines style labels base ours theirs =
    opened style (60 ∷ []) labels.ours.now ours
    ++ (opened style (124 ∷ []) labels.base.now base
    ++ (opened style (61 ∷ []) [] theirs ++ marker style (62 ∷ []) labels.theirs.now ∷ []))

-- the lines of a merge with markers around each conflict
abbrev pub lines_with_markers : Style → Labels → List Outcome → List (List ℕ)
lines_with_markers style labels [] = []
lines_with_markers style labels (Agreed ls ∷ os) = ls ++ lines_with_markers style labels os
lines_with_markers style labels (Conflict b o t ∷ os) = conflict_lines style labels b o t ++ lines_with_markers style labels os

-- The bytes of a merge of which nothing is chosen show each conflict between markers.
pub record ShowsConflicts (least : ℕ) (labels : Labels) (base ours theirs : List ℕ) (file : File) : Type 0 where
  pub regions : List Region
  pub are_merged : AreMerged (lines_of base) (lines_of ours) (lines_of theirs) regions
  pub bytes : bytes_with_markers least labels file
      ≡ bytes_of_text (text_of (lines_with_markers (style_of least file.sections) labels
      (outcomes_from (lines_of base) (lines_of ours) (lines_of theirs) 0 regions)))

-- the line begins with fewer equal signs than a marker of `len` signs
abbrev pub IsShorter : ℕ → List ℕ → Type 0
IsShorter len line = marker_run line < len

-- A marker has at least `least` signs, and no line of the file can be taken for one.
pub record AreToldApart (least : ℕ) (sections : List Section) : Type 0 where
  pub long : least ≤ (style_of least sections).len
  pub shorter : AllByRecursion (IsShorter (style_of least sections).len) (all_texts sections)
