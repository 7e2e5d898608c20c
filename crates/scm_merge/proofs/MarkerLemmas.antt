-- The merge with markers around each open conflict.
use Rattle.std.proofs.Common.{◌≡◌, ℕ, ◌+◌, ◌≤◌, ◌==◌, ◌||◌, max, Bool, true, false, if◌then◌else◌, List, [], ◌∷◌, ◌++◌, length, length-append, map, replicate, refl, ap, sym, ◌∙◌, arith, append-nil, append_assoc}
use Rattle.std.specs.List.{AllByRecursion, flat_map, list_any}
use Rattle.std.proofs.Math.Nat.{le-max_left, le-max_right}
use Rattle.std.proofs.lemmas.Bool.Decides.{nat_tests}
use Rattle.std.proofs.lemmas.List.{length-replicate, replicate-append-replicate}
use Rattle.scm_types.specs.declared.line.ChangeType.{ChangeType}
use Rattle.scm_types.specs.declared.line.ChangeType.TheVariants.{Added, Removed}
use Rattle.scm_types.specs.declared.line.SectionChangedLine.{SectionChangedLine}
use Rattle.scm_types.specs.declared.file.File.{File}
use Rattle.scm_types.specs.declared.file_mode.FileMode.{FileMode as Mode}
use Rattle.scm_types.specs.declared.section.Section.{Section}
use Rattle.scm_types.specs.declared.section.Section.TheVariants.{Unchanged, Changed, FileMode, Binary}
use Rattle.scm_types.specs.Split.{is_binary, section_lines, tail_of}
use Rattle.scm_embed.specs.Lines.{lines_of}
use Rattle.scm_diff.specs.Bytes.{bytes_of_text, side_bytes}
use Rattle.scm_diff.specs.Sections.{context_sections}
use Rattle.scm_diff.specs.Sides.{text_of}
use Rattle.scm_merge.specs.declared.labels.Labels.{Labels}
use Rattle.scm_merge.specs.declared.roles.Role.{Role}
use Rattle.scm_merge.specs.declared.roles.Role.TheVariants.{Settled, Ours, Base, Theirs}
use Rattle.scm_merge.specs.declared.style.Style.{Style}
use Rattle.scm_merge.specs.Laws.{AreToldApart, IsShorter, ShowsConflicts, conflict_lines, lines_with_markers}
use Rattle.scm_merge.specs.Markers.{bytes_with_markers, marked_section, marked_sections, marker, version_lines}
use Rattle.scm_merge.specs.Merge.{IsMerge, merged_bytes}
use Rattle.scm_merge.specs.Open.{has_taken, open_from}
use Rattle.scm_merge.specs.Parts.{Agreed, Conflict, Outcome, outcomes_from}
use Rattle.scm_merge.specs.Roles.{conflict_roles, roles_from, roles_of}
use Rattle.scm_merge.specs.Sections.{conflict_sections, file_with_sections, items_of, marked_line, nothing_chosen, section_with_texts, sections_from, version_section}
use Rattle.scm_merge.specs.Style.{all_texts, marker_len, marker_run, style_of, texts_of}
use Rattle.scm_merge.proofs.MarkLemmas.{is-empty, no-binary, none-taken, tail-all}
use Rattle.scm_merge.proofs.MergeLemmas.{any-with-texts}

-- ---- roles

zero-more : (n : ℕ) → 0 + n ≡ n
zero-more n = omega arith

none-more : (n : ℕ) → n ≡ n + 0
none-more n = omega arith

settled-length : (seen n m : ℕ) (roles : List Role) → length roles ≡ n → seen + 1 + n ≡ m → length (replicate (seen + 1) Settled ++ roles) ≡ m
settled-length seen n m roles h g =
    let a = length-append (replicate (seen + 1) Settled) roles in
    let b = length-replicate (seen + 1) Settled in
    omega arith

three-more : (a b c : Role) (roles : List Role) → length (a ∷ b ∷ c ∷ roles) ≡ 3 + length roles
three-more a b c roles = omega arith

three-roles : (t : Bool) (roles : List Role) → length (conflict_roles t ++ roles) ≡ 3 + length roles
three-roles true roles = three-more Settled Settled Settled roles
three-roles false roles = three-more Ours Base Theirs roles

pub length-roles : (seen : ℕ) (taken : Bool) (ss : List Section) → length (roles_from seen taken ss) ≡ seen + length ss
length-roles seen taken [] = length-replicate seen Settled ∙ none-more seen
length-roles seen taken (Unchanged lines ∷ ss) = settled-length seen (length ss) (seen + length (Unchanged lines ∷ ss)) (roles_from 0 false ss) (length-roles 0 false ss ∙ zero-more (length ss)) (omega arith)
length-roles seen taken (Changed lines ∷ ss) = at (seen == 2) refl (length-roles 0 false ss) (length-roles (seen + 1) (taken || has_taken lines) ss)
  where
    at : (b : Bool) → (seen == 2) ≡ b → length (roles_from 0 false ss) ≡ 0 + length ss → length (roles_from (seen + 1) (taken || has_taken lines) ss) ≡ seen + 1 + length ss → length (if b then conflict_roles (taken || has_taken lines) ++ roles_from 0 false ss else roles_from (seen + 1) (taken || has_taken lines) ss) ≡ seen + length (Changed lines ∷ ss)
    at true e h g =
        let two : seen ≡ 2 = grind (arith, nat_tests) in
        let k : 3 + length (roles_from 0 false ss) ≡ seen + length (Changed lines ∷ ss) = omega (arith, h, two) in
        three-roles (taken || has_taken lines) (roles_from 0 false ss) ∙ k
    at false e h g =
        let k : seen + 1 + length ss ≡ seen + length (Changed lines ∷ ss) = omega arith in
        g ∙ k
length-roles seen taken (FileMode is_checked mode ∷ ss) = settled-length seen (length ss) (seen + length (FileMode is_checked mode ∷ ss)) (roles_from 0 false ss) (length-roles 0 false ss ∙ zero-more (length ss)) (omega arith)
length-roles seen taken (Binary is_checked old new ∷ ss) = settled-length seen (length ss) (seen + length (Binary is_checked old new ∷ ss)) (roles_from 0 false ss) (length-roles 0 false ss ∙ zero-more (length ss)) (omega arith)

pub roles_fit : (ss : List Section) (rs : List Role) → rs ≡ roles_of ss → length rs ≡ length ss
roles_fit ss rs e = ap length e ∙ length-roles 0 false ss ∙ zero-more (length ss)

-- ---- without an open conflict all sections are settled

more-settled : (seen n m : ℕ) (roles : List Role) → roles ≡ replicate n Settled → seen + 1 + n ≡ m → replicate (seen + 1) Settled ++ roles ≡ replicate m Settled
more-settled seen n m roles e g = ap (λ xs. replicate (seen + 1) Settled ++ xs) e ∙ replicate-append-replicate (seen + 1) n Settled ∙ ap (λ k. replicate k Settled) g

three-settled : (n : ℕ) → Settled ∷ Settled ∷ Settled ∷ replicate n Settled ≡ replicate (3 + n) Settled
three-settled n = replicate-append-replicate 3 n Settled

pub all-settled : (seen : ℕ) (taken : Bool) (ss : List Section) → open_from seen taken ss ≡ 0 → roles_from seen taken ss ≡ replicate (seen + length ss) Settled
all-settled seen taken [] h = let e : seen ≡ seen + 0 = omega arith in ap (λ n. replicate n Settled) e
all-settled seen taken (Unchanged lines ∷ ss) h = more-settled seen (length ss) (seen + length (Unchanged lines ∷ ss)) (roles_from 0 false ss) (all-settled 0 false ss h ∙ ap (λ n. replicate n Settled) (zero-more (length ss))) (omega arith)
all-settled seen taken (Changed lines ∷ ss) h = at (seen == 2) refl (taken || has_taken lines) (λ g. all-settled 0 false ss g) (λ t g. all-settled (seen + 1) t ss g) h
  where
    at : (b : Bool) → (seen == 2) ≡ b → (t : Bool) → (open_from 0 false ss ≡ 0 → roles_from 0 false ss ≡ replicate (0 + length ss) Settled) → ((t : Bool) → open_from (seen + 1) t ss ≡ 0 → roles_from (seen + 1) t ss ≡ replicate (seen + 1 + length ss) Settled) → (if b then (if t then 0 else 1) + open_from 0 false ss else open_from (seen + 1) t ss) ≡ 0 → (if b then conflict_roles t ++ roles_from 0 false ss else roles_from (seen + 1) t ss) ≡ replicate (seen + length (Changed lines ∷ ss)) Settled
    at true e true f g h =
        let two : seen ≡ 2 = grind (arith, nat_tests) in
        let rest : open_from 0 false ss ≡ 0 = omega arith in
        let k : 3 + length ss ≡ seen + length (Changed lines ∷ ss) = omega arith in
        ap (λ xs. Settled ∷ Settled ∷ Settled ∷ xs) (f rest ∙ ap (λ n. replicate n Settled) (zero-more (length ss))) ∙ three-settled (length ss) ∙ ap (λ m. replicate m Settled) k
    at true e false f g h = absurd (omega arith)
    at false e t f g h =
        let k : seen + 1 + length ss ≡ seen + length (Changed lines ∷ ss) = omega arith in
        g t h ∙ ap (λ m. replicate m Settled) k
all-settled seen taken (FileMode is_checked mode ∷ ss) h = more-settled seen (length ss) (seen + length (FileMode is_checked mode ∷ ss)) (roles_from 0 false ss) (all-settled 0 false ss h ∙ ap (λ n. replicate n Settled) (zero-more (length ss))) (omega arith)
all-settled seen taken (Binary is_checked old new ∷ ss) h = more-settled seen (length ss) (seen + length (Binary is_checked old new ∷ ss)) (roles_from 0 false ss) (all-settled 0 false ss h ∙ ap (λ n. replicate n Settled) (zero-more (length ss))) (omega arith)

settled-sections : (style : Style) (labels : Labels) (ss : List Section) → marked_sections style labels (replicate (length ss) Settled) ss ≡ map section_with_texts ss
settled-sections style labels [] = refl
settled-sections style labels (s ∷ ss) = ap (λ xs. section_with_texts s ∷ xs) (settled-sections style labels ss)

pub settled-bytes : (file : File) (labels : Labels) (least : ℕ) → open_from 0 false file.sections ≡ 0 → bytes_with_markers least labels file ≡ merged_bytes file
settled-bytes file labels least h =
    ap (λ ss. side_bytes true (file_with_sections file ss))
    (ap (λ rs. marked_sections (style_of least file.sections) labels rs file.sections) (all-settled 0 false file.sections h ∙ ap (λ n. replicate n Settled) (zero-more (length file.sections))) ∙ settled-sections (style_of least file.sections) labels file.sections)

-- ---- the length of markers

pub least-len : (least : ℕ) (ls : List (List ℕ)) → least ≤ marker_len least ls
least-len least [] = omega arith
least-len least (l ∷ ls) = let h = least-len least ls in let g = le-max_right (marker_run l + 1) (marker_len least ls) in omega arith

pub first-len : (least : ℕ) (ls : List (List ℕ)) → max least (marker_len least ls) ≡ marker_len least ls
first-len least ls =
    let h = least-len least ls in
    omega (arith, h)

shorter : (least n : ℕ) (ls : List (List ℕ)) → marker_len least ls ≤ n → AllByRecursion (IsShorter n) ls
shorter least n [] h = tt
shorter least n (l ∷ ls) h =
    let g = le-max_left (marker_run l + 1) (marker_len least ls) in
    let k = le-max_right (marker_run l + 1) (marker_len least ls) in
    (omega arith, shorter least n ls (omega arith))

pub told-apart : (least : ℕ) (ss : List Section) → AreToldApart least ss
told-apart least ss = record {
  long = least-len least (all_texts ss);
  shorter = shorter least (marker_len least (all_texts ss)) (all_texts ss) (omega arith);
}

-- ---- the sections of a merge of which nothing is chosen, as they are written

abbrev written : Style → Labels → List Section → List (List ℕ)
written style labels ss = flat_map (section_lines true) (marked_sections style labels (roles_from 0 false ss) ss)

context-written : (style : Style) (labels : Labels) (ls : List (List ℕ)) (ss : List Section) → written style labels (context_sections ls ++ ss) ≡ ls ++ written style labels ss
context-written style labels ls ss = at (length ls == 0) refl
  where
    at : (t : Bool) → (length ls == 0) ≡ t → written style labels ((if t then [] else Unchanged ls ∷ []) ++ ss) ≡ ls ++ written style labels ss
    at true e = ap (λ xs. xs ++ written style labels ss) (is-empty ls e)
    at false e = refl

texts-back : (m : Bool) (kind : ChangeType) (ls : List (List ℕ)) → map (λ (l : SectionChangedLine). l.line) (map (marked_line m kind) ls) ≡ ls
texts-back m kind [] = refl
texts-back m kind (l ∷ ls) = ap (λ xs. l ∷ xs) (texts-back m kind ls)

version-back : (crlf m : Bool) (kind : ChangeType) (ls : List (List ℕ)) → version_lines crlf (texts_of (version_section m kind ls)) ≡ version_lines crlf ls
version-back crlf m kind [] = refl
version-back crlf m kind (l ∷ ls) = ap (version_lines crlf) (texts-back m kind (l ∷ ls))

open-roles : (b o t : List (List ℕ)) (ss : List Section) → roles_from 0 false (conflict_sections nothing_chosen b o t ++ ss) ≡ Ours ∷ Base ∷ Theirs ∷ roles_from 0 false ss
open-roles b o t ss =
    ap (λ x. roles_from 1 x (version_section true Removed b ∷ version_section false Added t ∷ ss)) (none-taken false Added (items_of o) refl)
    ∙ ap (λ x. roles_from 2 x (version_section false Added t ∷ ss)) (none-taken true Removed (items_of b) refl)
    ∙ ap (λ x. conflict_roles x ++ roles_from 0 false ss) (none-taken false Added (items_of t) refl)

joined : (a b c d w : List (List ℕ)) → a ++ (b ++ ((c ++ d) ++ w)) ≡ (a ++ (b ++ (c ++ d))) ++ w
joined a b c d w = ap (λ x. a ++ x) (sym (append_assoc b (c ++ d) w)) ∙ sym (append_assoc a (b ++ (c ++ d)) w)

conflict-written : (style : Style) (labels : Labels) (b o t : List (List ℕ)) (ss : List Section) → written style labels (conflict_sections nothing_chosen b o t ++ ss) ≡ conflict_lines style labels b o t ++ written style labels ss
conflict-written style labels b o t ss =
    let w = written style labels ss in
    let last = marker style (62 ∷ []) labels.theirs.now ∷ [] in
    let first : List (List ℕ) → List (List ℕ) = λ ls. marker style (60 ∷ []) labels.ours.now ∷ ls in
    let second : List (List ℕ) → List (List ℕ) = λ ls. marker style (124 ∷ []) labels.base.now ∷ ls in
    let third : List (List ℕ) → List (List ℕ) = λ ls. marker style (61 ∷ []) [] ∷ ls in
    let O = version_lines style.is_crlf (texts_of (version_section false Added o)) in
    let B = version_lines style.is_crlf (texts_of (version_section true Removed b)) in
    let T = version_lines style.is_crlf (texts_of (version_section false Added t)) in
    let o2 = version_lines style.is_crlf o in
    let b2 = version_lines style.is_crlf b in
    ap (λ rs. flat_map (section_lines true) (marked_sections style labels rs (conflict_sections nothing_chosen b o t ++ ss))) (open-roles b o t ss)
    ∙ ap (λ x. first x ++ (second B ++ ((third T ++ last) ++ w))) (version-back style.is_crlf false Added o)
    ∙ ap (λ x. first o2 ++ (second x ++ ((third T ++ last) ++ w))) (version-back style.is_crlf true Removed b)
    ∙ ap (λ x. first o2 ++ (second b2 ++ ((third x ++ last) ++ w))) (version-back style.is_crlf false Added t)
    ∙ joined (first o2) (second b2) (third (version_lines style.is_crlf t)) last w

all-written : (style : Style) (labels : Labels) (pending : List (List ℕ)) (os : List Outcome) → written style labels (sections_from nothing_chosen pending os) ≡ pending ++ lines_with_markers style labels os
all-written style labels pending [] = ap (written style labels) (sym (append-nil (context_sections pending))) ∙ context-written style labels pending []
all-written style labels pending (Agreed ls ∷ os) = all-written style labels (pending ++ ls) os ∙ append_assoc pending ls (lines_with_markers style labels os)
all-written style labels pending (Conflict b o t ∷ os) =
    context-written style labels pending (conflict_sections nothing_chosen b o t ++ sections_from nothing_chosen [] os)
    ∙ ap (λ x. pending ++ x) (conflict-written style labels b o t (sections_from nothing_chosen [] os) ∙ ap (λ x. conflict_lines style labels b o t ++ x) (all-written style labels [] os))

-- ---- no section is binary

role-binary : (style : Style) (labels : Labels) (r : Role) (s : Section) → is_binary s ≡ false → is_binary (marked_section style labels r s) ≡ false
role-binary style labels Settled (Unchanged lines) e = refl
role-binary style labels Settled (Changed lines) e = refl
role-binary style labels Settled (FileMode c m) e = refl
role-binary style labels Settled (Binary c old new) e = cc
role-binary style labels Ours s e = refl
role-binary style labels Base s e = refl
role-binary style labels Theirs s e = refl

or-first : (x y : Bool) → (x || y) ≡ false → x ≡ false
or-first true y e = e
or-first false y e = refl

or-second : (x y : Bool) → (x || y) ≡ false → y ≡ false
or-second true y e = cc
or-second false y e = e

none-marked : (style : Style) (labels : Labels) (rs : List Role) (ss : List Section) → list_any is_binary ss ≡ false → list_any is_binary (marked_sections style labels rs ss) ≡ false
none-marked style labels [] ss e = refl
none-marked style labels (r ∷ rs) [] e = refl
none-marked style labels (r ∷ rs) (s ∷ ss) e =
    ap (λ b. b || list_any is_binary (marked_sections style labels rs ss)) (role-binary style labels r s (or-first (is_binary s) (list_any is_binary ss) e))
    ∙ none-marked style labels rs ss (or-second (is_binary s) (list_any is_binary ss) e)

-- ---- the bytes of a merge of which nothing is chosen

lines-shown : (style : Style) (labels : Labels) (os : List Outcome) → flat_map (section_lines true) (tail_of (marked_sections style labels (roles_of (sections_from nothing_chosen [] os)) (sections_from nothing_chosen [] os))) ≡ lines_with_markers style labels os
lines-shown style labels os =
    let ss = sections_from nothing_chosen [] os in
    let none = sym (any-with-texts ss) ∙ no-binary nothing_chosen [] os in
    ap (flat_map (section_lines true)) (tail-all (marked_sections style labels (roles_of ss) ss) (none-marked style labels (roles_of ss) ss none))
    ∙ all-written style labels [] os

pub conflicts-shown : (path : List ℕ) (mode : Mode) (base ours theirs : List ℕ) (file : File) (labels : Labels) (least : ℕ) → IsMerge path mode base ours theirs file → ShowsConflicts least labels base ours theirs file
conflicts-shown path mode base ours theirs file labels least m =
    let style = style_of least file.sections in
    let rs = m.are_sections.regions in
    let os = outcomes_from (lines_of base) (lines_of ours) (lines_of theirs) 0 rs in
    record {
      regions = rs;
      are_merged = m.are_sections.are_merged;
      bytes = ap (λ ls. bytes_of_text (text_of ls))
          (ap (λ ss. flat_map (section_lines true) (tail_of (marked_sections style labels (roles_of ss) ss))) m.are_sections.sections_are ∙ lines-shown style labels os);
    }
