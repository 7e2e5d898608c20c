-- The merge of three texts, from bytes to bytes.
use Rattle.std.proofs.Common.{◌≡◌, ℕ, zero, suc, ◌-◌, Bool, true, false, if◌then◌else◌, List, [], ◌∷◌, ◌++◌, length, take, drop, map, filter, ◌||◌, refl, ap, sym, ◌∙◌, subst, arith}
use Rattle.std.specs.Prelude.{slice_range}
use Rattle.std.specs.List.{flat_map, list_any, AllByRecursion}
use Rattle.std.proofs.Math.Seq.{drop-length}
use Rattle.scm_types.specs.declared.file.File.{File}
use Rattle.scm_types.specs.declared.file_mode.FileMode.{FileMode as Mode}
use Rattle.scm_types.specs.declared.section.Section.{Section}
use Rattle.scm_types.specs.declared.section.Section.TheVariants.{Unchanged, Changed, FileMode, Binary}
use Rattle.scm_types.specs.Split.{is_binary, section_lines, side_lines, tail_of}
use Rattle.scm_types.specs.Laws.{is_in_side, line_text, lines_of_file}
use Rattle.scm_diff.specs.Change.{unchecked}
use Rattle.scm_diff.proofs.FileLineLemmas.{any-marked, side-texts}
use Rattle.scm_embed.specs.Lines.{lines_of}
use Rattle.scm_diff.specs.declared.hunk.Hunk.{Hunk}
use Rattle.scm_diff.specs.Hunks.{AreHunks}
use Rattle.scm_diff.specs.Bytes.{bytes_of_text}
use Rattle.scm_diff.specs.Sides.{IsLine, text_of}
use Rattle.scm_diff.proofs.LineLemmas.{lines_are_lines, text_of-lines_of}
use Rattle.scm_merge.specs.declared.region.Region.{Region}
use Rattle.scm_merge.specs.Regions.{AreRegions, AreRegionsBy, IsChangedRegion}
use Rattle.scm_merge.specs.Parts.{Agreed, AreMerged, AreMergedBy, Outcome, are_two_same, conflict_of, lines_by, outcomes_from, outcomes_of, part_at, same_lines, shared_end, shared_start, whole_region}
use Rattle.scm_merge.specs.Sections.{file_with_texts, nothing_chosen, section_with_texts, sections_from}
use Rattle.scm_merge.specs.Merge.{AreMergeSections, IsMerge, merged_bytes}
use Rattle.scm_merge.specs.Laws.{GivesBytesByChoice, HasByte, HasBytes, IsClean}
use Rattle.scm_merge.proofs.LawLemmas.{clean-ours-kept, clean-same, clean-theirs-kept}
use Rattle.scm_merge.proofs.MarkLemmas.{marked-lines, no-binary}

-- ---- the regions of a merge

pub merged-whole : (base ours theirs : List (List ℕ)) (rs : List Region) → are_two_same base ours theirs ≡ true → rs ≡ whole_region base ours theirs ∷ [] → AreMerged base ours theirs rs
merged-whole base ours theirs rs same e = record {
  are_regions = subst (AreRegions base ours theirs) (sym e) (
    record {
      run = 0;
      enough = omega arith;
      base_begins = refl;
      ours_begins = refl;
      theirs_begins = refl;
      ours_common = refl;
      theirs_common = refl;
      base_order = omega arith;
      ours_order = omega arith;
      theirs_order = omega arith;
      base_within = omega arith;
      ours_within = omega arith;
      theirs_within = omega arith;
    },
    (drop-length base ∙ sym (drop-length ours), drop-length base ∙ sym (drop-length theirs)),
  );
  whole = λ s. e;
  least = λ s. let wrong : true ≡ false = sym same ∙ s in cc;
}

pub merged-parts : (base ours theirs : List (List ℕ)) (rs : List Region) (hs ks : List Hunk) → are_two_same base ours theirs ≡ false → AreRegions base ours theirs rs → AreHunks base ours hs → AreHunks base theirs ks → AllByRecursion (IsChangedRegion hs ks) rs → AreRegionsBy hs ks 0 rs → AreMerged base ours theirs rs
merged-parts base ours theirs rs hs ks other h a b c m = record {
  are_regions = h;
  whole = λ s. let wrong : true ≡ false = sym s ∙ other in cc;
  least = λ s. record { ours_hunks = hs; theirs_hunks = ks; by = record { are_ours = a; are_theirs = b; made = m; changed = c } };
}

pub merged-parts-by : (base ours theirs : List (List ℕ)) (rs : List Region) (hs ks : List Hunk) → are_two_same base ours theirs ≡ false → AreRegions base ours theirs rs → AreHunks base ours hs → AreHunks base theirs ks → AllByRecursion (IsChangedRegion hs ks) rs → AreRegionsBy hs ks 0 rs → AreMergedBy base ours theirs hs ks rs
merged-parts-by base ours theirs rs hs ks other h a b c m = record {
  are_regions = h;
  whole = λ s. let wrong : true ≡ false = sym s ∙ other in cc;
  least = λ s. record { are_ours = a; are_theirs = b; made = m; changed = c };
}

pub merged-whole-by : (base ours theirs : List (List ℕ)) (rs : List Region) (hs ks : List Hunk) → are_two_same base ours theirs ≡ true → rs ≡ whole_region base ours theirs ∷ [] → AreMergedBy base ours theirs hs ks rs
merged-whole-by base ours theirs rs hs ks same e = record {
  are_regions = (merged-whole base ours theirs rs same e).are_regions;
  whole = λ s. e;
  least = λ s. let wrong : true ≡ false = sym same ∙ s in cc;
}

-- ---- each line has a byte

line-byte : (l : List ℕ) → IsLine l → HasByte l
line-byte [] h = cc
line-byte (b ∷ l) h = grind arith

pub line-bytes : (ls : List (List ℕ)) → AllByRecursion IsLine ls → AllByRecursion HasByte ls
line-bytes [] h = tt
line-bytes (l ∷ ls) h = (line-byte l h.0, line-bytes ls h.1)

all-take : (n : ℕ) (ls : List (List ℕ)) → AllByRecursion HasByte ls → AllByRecursion HasByte (take n ls)
all-take zero ls h = tt
all-take (suc n) [] h = tt
all-take (suc n) (l ∷ ls) h = (h.0, all-take n ls h.1)

all-drop : (n : ℕ) (ls : List (List ℕ)) → AllByRecursion HasByte ls → AllByRecursion HasByte (drop n ls)
all-drop zero ls h = h
all-drop (suc n) [] h = tt
all-drop (suc n) (l ∷ ls) h = all-drop n ls h.1

all-slice : (ls : List (List ℕ)) (i k : ℕ) → AllByRecursion HasByte ls → AllByRecursion HasByte (slice_range ls i k)
all-slice ls i k h = all-take (k - i) (drop i ls) (all-drop i ls h)

both-bytes : (os ps : List Outcome) → AllByRecursion HasBytes os → AllByRecursion HasBytes ps → AllByRecursion HasBytes (os ++ ps)
both-bytes [] ps h g = g
both-bytes (o ∷ os) ps h g = (h.0, both-bytes os ps h.1 g)

conflict-bytes : (b o t : List (List ℕ)) → AllByRecursion HasByte b → AllByRecursion HasByte o → AllByRecursion HasByte t → AllByRecursion HasBytes (conflict_of (record { base = b; ours = o; theirs = t }))
conflict-bytes b o t hb ho ht =
    let n = shared_start o t in
    let m = shared_end (drop n o) (drop n t) in
    (all-take n o ho, ((hb, all-slice o n (length o - m) ho, all-slice t n (length t - m) ht), (all-drop (length o - m) o ho, tt)))

part-bytes : (b o t : List (List ℕ)) → AllByRecursion HasByte b → AllByRecursion HasByte o → AllByRecursion HasByte t → AllByRecursion HasBytes (outcomes_of (record { base = b; ours = o; theirs = t }))
part-bytes b o t hb ho ht = at (same_lines o b) (same_lines t b) (same_lines o t)
  where
    at : (x y z : Bool) → AllByRecursion HasBytes (if x then Agreed t ∷ [] else (if y then Agreed o ∷ [] else (if z then Agreed o ∷ [] else conflict_of (record { base = b; ours = o; theirs = t }))))
    at true y z = (ht, tt)
    at false true z = (ho, tt)
    at false false true = (ho, tt)
    at false false false = conflict-bytes b o t hb ho ht

pub outcome-bytes : (b o t : List (List ℕ)) (i : ℕ) (rs : List Region) → AllByRecursion HasByte b → AllByRecursion HasByte o → AllByRecursion HasByte t → AllByRecursion HasBytes (outcomes_from b o t i rs)
outcome-bytes b o t i [] hb ho ht = (all-drop i b hb, tt)
outcome-bytes b o t i (r ∷ rs) hb ho ht =
    let first = part-bytes (slice_range b r.base_start r.base_end) (slice_range o r.ours_start r.ours_end) (slice_range t r.theirs_start r.theirs_end) (all-slice b r.base_start r.base_end hb) (all-slice o r.ours_start r.ours_end ho) (all-slice t r.theirs_start r.theirs_end ht) in
    (all-slice b i r.base_start hb, both-bytes (outcomes_of (part_at b o t r)) (outcomes_from b o t r.base_end rs) first (outcome-bytes b o t r.base_end rs hb ho ht))

-- ---- the bytes of a merge without a conflict

lines-merged : (file : File) (base ours theirs : List ℕ) (m : AreMergeSections (lines_of base) (lines_of ours) (lines_of theirs) file.sections) → side_lines true (file_with_texts file) ≡ lines_by nothing_chosen (outcomes_from (lines_of base) (lines_of ours) (lines_of theirs) 0 m.regions)
lines-merged file base ours theirs m =
    let os = outcomes_from (lines_of base) (lines_of ours) (lines_of theirs) 0 m.regions in
    ap (λ ss. flat_map (section_lines true) (tail_of (map section_with_texts ss))) m.sections_are
    ∙ marked-lines file nothing_chosen os (outcome-bytes (lines_of base) (lines_of ours) (lines_of theirs) 0 m.regions (line-bytes (lines_of base) (lines_are_lines base)) (line-bytes (lines_of ours) (lines_are_lines ours)) (line-bytes (lines_of theirs) (lines_are_lines theirs)))

clean-bytes : (file : File) (base ours theirs text : List ℕ) (m : AreMergeSections (lines_of base) (lines_of ours) (lines_of theirs) file.sections) → IsClean (outcomes_from (lines_of base) (lines_of ours) (lines_of theirs) 0 m.regions) (lines_of text) → merged_bytes file ≡ bytes_of_text text
clean-bytes file base ours theirs text m h = ap (λ ls. bytes_of_text (text_of ls)) (lines-merged file base ours theirs m ∙ h.lines_are nothing_chosen) ∙ ap bytes_of_text (text_of-lines_of text)

pub bytes-ours-kept : (path : List ℕ) (mode : Mode) (base ours theirs : List ℕ) (file : File) → IsMerge path mode base ours theirs file → ours ≡ base → merged_bytes file ≡ bytes_of_text theirs
bytes-ours-kept path mode base ours theirs file m e = clean-bytes file base ours theirs theirs m.are_sections (clean-ours-kept (lines_of base) (lines_of ours) (lines_of theirs) m.are_sections.regions m.are_sections.are_merged (ap lines_of e))

pub bytes-theirs-kept : (path : List ℕ) (mode : Mode) (base ours theirs : List ℕ) (file : File) → IsMerge path mode base ours theirs file → theirs ≡ base → merged_bytes file ≡ bytes_of_text ours
bytes-theirs-kept path mode base ours theirs file m e = clean-bytes file base ours theirs ours m.are_sections (clean-theirs-kept (lines_of base) (lines_of ours) (lines_of theirs) m.are_sections.regions m.are_sections.are_merged (ap lines_of e))

pub bytes-same : (path : List ℕ) (mode : Mode) (base ours theirs : List ℕ) (file : File) → IsMerge path mode base ours theirs file → ours ≡ theirs → merged_bytes file ≡ bytes_of_text ours
bytes-same path mode base ours theirs file m e = clean-bytes file base ours theirs ours m.are_sections (clean-same (lines_of base) (lines_of ours) (lines_of theirs) m.are_sections.regions m.are_sections.are_merged (ap lines_of e))

-- ---- any marks

binary-with-texts : (s : Section) → is_binary (section_with_texts s) ≡ is_binary s
binary-with-texts (Unchanged lines) = refl
binary-with-texts (Changed lines) = refl
binary-with-texts (FileMode c m) = refl
binary-with-texts (Binary c old new) = refl

pub any-with-texts : (ss : List Section) → list_any is_binary (map section_with_texts ss) ≡ list_any is_binary ss
any-with-texts [] = refl
any-with-texts (s ∷ ss) = ap (λ b. b || list_any is_binary (map section_with_texts ss)) (binary-with-texts s) ∙ ap (λ b. is_binary s || b) (any-with-texts ss)

pub none-binary : (file marked : File) (os : List Outcome) → file.sections ≡ sections_from nothing_chosen [] os → unchecked marked ≡ unchecked file → list_any is_binary (map section_with_texts marked.sections) ≡ false
none-binary file marked os e same =
    any-with-texts marked.sections
    ∙ sym (any-marked (λ _. false) marked.sections)
    ∙ ap (λ (f : File). list_any is_binary f.sections) same
    ∙ any-marked (λ _. false) file.sections
    ∙ ap (list_any is_binary) e
    ∙ sym (any-with-texts (sections_from nothing_chosen [] os))
    ∙ no-binary nothing_chosen [] os

pub taken-lines : (path : List ℕ) (mode : Mode) (base ours theirs : List ℕ) (file marked : File) → IsMerge path mode base ours theirs file → unchecked marked ≡ unchecked file → side_lines true (file_with_texts marked) ≡ map line_text (filter (is_in_side true) (lines_of_file (file_with_texts marked)))
taken-lines path mode base ours theirs file marked m same =
    let a = m.are_sections in
    side-texts (file_with_texts marked) true (none-binary file marked (outcomes_from (lines_of base) (lines_of ours) (lines_of theirs) 0 a.regions) a.sections_are same)

-- ---- the bytes of a choice

pub bytes-by-choice : (path : List ℕ) (mode : Mode) (base ours theirs : List ℕ) (file : File) → IsMerge path mode base ours theirs file → GivesBytesByChoice base ours theirs file
bytes-by-choice path mode base ours theirs file m =
    let B = lines_of base in
    let O = lines_of ours in
    let T = lines_of theirs in
    let rs = m.are_sections.regions in
    record {
      regions = rs;
      are_merged = m.are_sections.are_merged;
      bytes = λ c. ap (λ ls. bytes_of_text (text_of ls)) (marked-lines file c (outcomes_from B O T 0 rs) (outcome-bytes B O T 0 rs (line-bytes B (lines_are_lines base)) (line-bytes O (lines_are_lines ours)) (line-bytes T (lines_are_lines theirs))));
    }
