-- From the limits of an accepted state: how many rows its document has, and that each text of it is narrow.
use Rattle.std.proofs.Common.{◌≡◌, ℕ, zero, suc, ◌+◌, ◌-◌, ◌*◌, ◌/◌, ◌%◌, ◌≤◌, ◌^◌, Bool, true, false, cond, ◌==◌, ℤ, List, [], ◌∷◌, ◌++◌, length, length-append, take, drop, map, refl, ap, ◌∙◌, arith}
use Rattle.std.specs.Prelude.{◌&&◌, if◌then◌else◌, nat_le, sum_by, Option, Some, None, codes, encode_utf8_all, decimal, option_map}
use Rattle.std.specs.Char.{encode_utf8, is_whitespace}
use Rattle.std.specs.Fmt.{digits, digits_onto, digit_glyph}
use Rattle.std.specs.List.{list_all, repeat, before_first, position_or_len}
use Rattle.std.specs.Str.{trim, trim_start, trim_end, chars, chars_after, skip_leading_whitespace, drop_trailing_whitespace, continuation_len, lead_bits}
use Rattle.std.proofs.lemmas.List.Sums.{sum_by-cons}
use Rattle.std.proofs.lemmas.List.{length-take}
use Rattle.std.proofs.lemmas.Str.{length-encode, len_utf8_bounds}
use Rattle.std.proofs.lemmas.Bool.Decides.{nat_tests}
use Rattle.std.proofs.lemmas.Bool.{cond_both, and_parts, leb-true}
use Rattle.scm_types.proofs.LimitLemmas.{items_room, scroll_room}
use Rattle.scm_types.specs.declared.file.File.{File}
use Rattle.scm_types.specs.declared.line.SectionChangedLine.{SectionChangedLine}
use Rattle.scm_types.specs.declared.line.ChangeType.{ChangeType}
use Rattle.scm_types.specs.declared.line.ChangeType.TheVariants.{Added, Removed}
use Rattle.scm_types.specs.declared.file_mode.FileMode.TheVariants as mode
use Rattle.scm_types.specs.declared.section.Section.{Section}
use Rattle.scm_types.specs.declared.section.Section.TheVariants.{Unchanged, Changed, FileMode, Binary}
use Rattle.scm_types.specs.declared.state.Commit.{Commit}
use Rattle.scm_types.specs.declared.tristate.Tristate.{Tristate}
use Rattle.scm_types.specs.declared.tristate.Tristate.TheVariants as tristate
use Rattle.scm_types.specs.Marks.{is_editable_section}
use Rattle.scm_types.specs.declared.file_mode.FileMode.{FileMode as AnyMode}
use Rattle.scm_types.specs.Limits.{is_short_text, is_short_option, has_short_texts, has_short_texts_in_file, is_accepted_state, section_size, file_size, state_size, max_items, max_text}
use Rattle.scm_cells.specs.Clusters.{text_width}
use Rattle.scm_cells.specs.Replaced.{line_pieces}
use Rattle.scm_cells.proofs.BoundLemmas.{text_width-le}
use Rattle.scm_cells.proofs.RectLemmas.{places}
use Rattle.scm_cells.proofs.ReplacedLemmas.{text_width-line_pieces}
use Rattle.scm_render.specs.Picture.{PictureInRange}
use Rattle.scm_render.specs.Canvas.{Sight}
use Rattle.scm_render.specs.Drawing.{texts_width}
use Rattle.scm_types.specs.declared.keys.FileKey.{FileKey}
use Rattle.scm_widgets.specs.declared.tristate_box.TristateIconStyle.{TristateIconStyle}
use Rattle.scm_widgets.specs.declared.tristate_box.TristateIconStyle.TheVariants.{Check, Expand}
use Rattle.scm_document.specs.declared.section_view.SectionView.{SectionView}
use Rattle.scm_document.specs.declared.commit_view.CommitView.{CommitView}
use Rattle.scm_widgets.specs.Texts.{icon_text, bracketed, box_text}
use Rattle.scm_document.specs.Texts.{path_text, section_text, mode_change_text, binary_text, number_text, sign_text, dots_text, message_text}
use Rattle.scm_rows.specs.Context.{first_below, has_dots, lines_above}
use Rattle.scm_rows.specs.Heights.{is_section_visible}
use Rattle.scm_document.specs.Rows.{Document, Heading, DocRow, DotsRow, BlankRow, ShownSection, line_texts, line_box, section_box, rows_below, shown_lines, context_rows, rows_of_lines, changed_rows, numbered_rows, rows_of, section_rows, is_open, is_first_open, shown_section, shown_sections, sections_rows, shown_file, lent_text, file_rows, document_of, line_number, section_heading, place_of}
use Rattle.scm_widgets.specs.Boxes.{IdBox, is_fold_open}
use Rattle.scm_document.specs.FilesRows.{files_rows}
use Rattle.scm_document.specs.Pictures.{commit_picture}
use Rattle.scm_types.specs.Keys.{section_key_of}
use Rattle.scm_rows.specs.Lines.{old_lines}
use Rattle.scm_rows.proofs.HeightLemmas.{height-le}
use Rattle.scm_view.specs.ViewState.{ViewState, Shows, borrow_of, Totals, totals_of, section_view_of, section_views_of, file_view_of, file_views_of, commit_at, commit_view_of}
use Rattle.scm_document.specs.ScrollBounds.{IsInScrollBounds, SightIsInScrollBounds}
use Rattle.scm_widgets.specs.DrawBounds.{IsInDrawBounds}
use Rattle.scm_document.specs.DrawBounds.{SightIsInDrawBounds}
use Rattle.scm_document.proofs.Near.{IsNarrow, IsNarrowBox, IsNarrowHeading, AreNarrow, AreNarrowSections, IsNarrowFile, AreNarrowFiles, IsNarrowMessage, IsNarrowDocument}
use Rattle.scm_document.proofs.SectionsLemmas.{height-of, length-sections}
use Rattle.scm_document.proofs.NearLemmas.{document-near}
use Rattle.scm_document.specs.declared.file_view.FileView.{FileView}

-- ---- tests that pass

all-take : {X : Type 0} (p : X → Bool) (n : ℕ) (xs : List X) → list_all p xs ≡ true → list_all p (take n xs) ≡ true
all-take p (suc n) (x ∷ xs) h = rw (and_parts (p x) (list_all p xs) h).0 (all-take p n xs (and_parts (p x) (list_all p xs) h).1)
all-take p _ _ h = refl

all-drop : {X : Type 0} (p : X → Bool) (n : ℕ) (xs : List X) → list_all p xs ≡ true → list_all p (drop n xs) ≡ true
all-drop p zero xs h = h
all-drop p (suc n) [] h = refl
all-drop p (suc n) (x ∷ xs) h = all-drop p n xs (and_parts (p x) (list_all p xs) h).1

-- ---- lengths of texts

length-digits_onto : (k base : ℕ) (upper : Bool) (n : ℕ) (acc : List ℕ) → length (digits_onto k base upper n acc) ≤ k + length acc
length-digits_onto zero base upper n acc = omega arith
length-digits_onto (suc k) base upper n acc = go (n / base == 0) (length-digits_onto k base upper (n / base) (digit_glyph upper (n % base) ∷ acc))
  where
    go : (b : Bool) → length (digits_onto k base upper (n / base) (digit_glyph upper (n % base) ∷ acc)) ≤ k + suc (length acc) → length (if b then digit_glyph upper (n % base) ∷ acc else digits_onto k base upper (n / base) (digit_glyph upper (n % base) ∷ acc)) ≤ suc k + length acc
    go true h = omega arith
    go false h = omega (arith, h)

length-digits : (base : ℕ) (upper : Bool) (n : ℕ) → length (digits base upper n) ≤ 64
unfolding digits
length-digits base upper n = omega (arith, length-digits_onto 64 base upper n [])

length-chars_after : (n c : ℕ) (bs : List ℕ) → length (chars_after n c bs) ≤ length bs + 1
length-chars_after zero c (b ∷ bs) = omega (arith, length-chars_after (continuation_len b) (lead_bits b) bs)
length-chars_after (suc n) c (b ∷ bs) = omega (arith, length-chars_after n (c * 64 + (b - 128)) bs)
length-chars_after _ c _ = omega arith

length-chars : (bs : List ℕ) → length (chars bs) ≤ length bs
unfolding chars
length-chars [] = omega arith
length-chars (b ∷ bs) = omega (arith, length-chars_after (continuation_len b) (lead_bits b) bs)

length-encoded : (cs : List ℕ) → length (encode_utf8_all cs) ≤ 4 * length cs
length-encoded [] = omega arith
length-encoded (c ∷ cs) = omega (arith, length-append (encode_utf8 c) (encode_utf8_all cs), length-encode c, (len_utf8_bounds c).1, length-encoded cs)

length-skipped : (cs : List ℕ) → length (skip_leading_whitespace cs) ≤ length cs
length-skipped [] = omega arith
length-skipped (c ∷ cs) = (elim (is_whitespace c) as (λ b. length (skip_leading_whitespace cs) ≤ length cs → length (cond b (skip_leading_whitespace cs) (c ∷ cs)) ≤ suc (length cs)) [ true ↦ (λ h. omega (arith, h)) | false ↦ (λ h. omega arith) ]) (length-skipped cs)

length-dropped : (cs : List ℕ) → length (drop_trailing_whitespace cs) ≤ length cs
length-dropped [] = omega arith
length-dropped (c ∷ cs) = go (is_whitespace c && length (drop_trailing_whitespace cs) == 0) (length-dropped cs)
  where
    go : (b : Bool) → length (drop_trailing_whitespace cs) ≤ length cs → length (cond b [] (c ∷ drop_trailing_whitespace cs)) ≤ suc (length cs)
    go true h = omega arith
    go false h = omega (arith, h)

length-trim : (bs : List ℕ) → length (trim bs) ≤ 16 * length bs
unfolding trim_start trim_end
length-trim bs =
    let cs = skip_leading_whitespace (chars bs) in
    let ds = drop_trailing_whitespace (chars (encode_utf8_all cs)) in
    omega (arith, length-encoded ds, length-dropped (chars (encode_utf8_all cs)), length-chars (encode_utf8_all cs), length-encoded cs, length-skipped (chars bs), length-chars bs)

length-before : (p : ℕ → Bool) (bs : List ℕ) → length (before_first p bs) ≤ length bs
length-before p bs = omega (arith, length-take (position_or_len p bs) bs)

length-spaces : (n : ℕ) → length (repeat n (codes " ")) ≡ n
length-spaces zero = refl
length-spaces (suc n) = ap suc (length-spaces n)

-- ---- narrow texts

narrow : (t : List ℕ) → length t ≤ 2 ^ 50 → text_width t ≤ 2 ^ 60
narrow t h = omega (arith, text_width-le t)

narrow-one : (t : List ℕ) → length t ≤ 2 ^ 50 → IsNarrow (t ∷ [])
unfolding texts_width
narrow-one t h = omega (arith, text_width-le t)

length-icon : (unicode : Bool) (style : TristateIconStyle) (t : Tristate) → length (icon_text unicode style t) ≤ 3
unfolding encode_utf8
length-icon true Check tristate.False = omega arith
length-icon false Check tristate.False = omega arith
length-icon true Check tristate.Partial = omega arith
length-icon false Check tristate.Partial = omega arith
length-icon true Check tristate.True = omega arith
length-icon false Check tristate.True = omega arith
length-icon true Expand tristate.False = omega arith
length-icon false Expand tristate.False = omega arith
length-icon true Expand tristate.Partial = omega arith
length-icon false Expand tristate.Partial = omega arith
length-icon true Expand tristate.True = omega arith
length-icon false Expand tristate.True = omega arith

length-bracketed : (read_only focused : Bool) (t : List ℕ) → length (bracketed read_only focused t) ≡ length t + 2
length-bracketed true focused t = omega (arith, length-append t (codes ">"))
length-bracketed false true t = omega (arith, length-append t (codes ")"))
length-bracketed false false t = omega (arith, length-append t (codes "]"))

pub box-narrow : (b : IdBox) → IsNarrowBox b
box-narrow b =
    let icon = icon_text b.use_unicode b.icon_style b.tristate in
    narrow (box_text b) (omega (arith, length-bracketed b.is_read_only b.is_focused icon, length-icon b.use_unicode b.icon_style b.tristate))

section-narrow : (n m : ℕ) → IsNarrow (section_text n m ∷ [])
section-narrow n m =
    narrow-one (section_text n m) (omega (arith, length-append (codes "Section ") (decimal n ++ (codes "/" ++ decimal m)), length-append (decimal n) (codes "/" ++ decimal m), length-digits 10 false n, length-digits 10 false m))

mode-narrow : (m : AnyMode) → IsNarrow (mode_change_text m ∷ [])
mode-narrow (mode.Unix bits) = narrow-one (mode_change_text (mode.Unix bits)) (omega (arith, length-append (codes "File mode set to ") (digits 8 false bits), length-digits 8 false bits))
mode-narrow mode.Absent = narrow-one (mode_change_text mode.Absent) (omega arith)

pub short : (t : List ℕ) → is_short_text t ≡ true → length t ≤ max_text
short t h = leb-true (length t) max_text h

binary-narrow : (old new : Option (List ℕ)) → is_short_option old ≡ true → is_short_option new ≡ true → IsNarrow (binary_text old new ∷ [])
binary-narrow (Some old) (Some new) p q =
    let all = codes "(binary contents: " ++ (old ++ (codes " -> " ++ (new ++ codes ")"))) in
    narrow-one all (omega (arith, length-append (codes "(binary contents: ") (old ++ (codes " -> " ++ (new ++ codes ")"))), length-append old (codes " -> " ++ (new ++ codes ")")), length-append new (codes ")"), short old p, short new q))
binary-narrow (Some old) None p q =
    narrow-one (codes "(binary contents: " ++ (old ++ codes ")")) (omega (arith, length-append (codes "(binary contents: ") (old ++ codes ")"), length-append old (codes ")"), short old p))
binary-narrow None (Some new) p q =
    narrow-one (codes "(binary contents: " ++ (new ++ codes ")")) (omega (arith, length-append (codes "(binary contents: ") (new ++ codes ")"), length-append new (codes ")"), short new q))
binary-narrow None None p q = narrow-one (codes "(binary contents )") (omega arith)

pub path-narrow : (old : Option (List ℕ)) (path : List ℕ) → is_short_option old ≡ true → is_short_text path ≡ true → IsNarrow (path_text old path ∷ [])
path-narrow None path p q = narrow-one path (omega (arith, short path q))
path-narrow (Some old) path p q =
    narrow-one (old ++ (codes " => " ++ path)) (omega (arith, length-append old (codes " => " ++ path), short old p, short path q))

pub line-narrow : (front line : List ℕ) → length front ≤ 200 → is_short_text line ≡ true → IsNarrow (line_texts front line)
unfolding texts_width
line-narrow front line h p =
    omega (arith, sum_by-cons text_width front (line_pieces line), text_width-le front, text_width-line_pieces line, short line p)

pub length-sign : (c : ChangeType) → length (sign_text c) ≤ 200
length-sign Added = omega arith
length-sign Removed = omega arith

pub length-number : (n : ℕ) → length (number_text n) ≤ 200
length-number n =
    omega (arith, length-append (repeat (5 - length (decimal n)) (codes " ")) (decimal n ++ codes " "), length-spaces (5 - length (decimal n)), length-append (decimal n) (codes " "), length-digits 10 false n)

dots-narrow : (unicode : Bool) → text_width (dots_text unicode) ≤ 2 ^ 60
unfolding encode_utf8
dots-narrow true = narrow (dots_text true) (omega arith)
dots-narrow false = narrow (dots_text false) (omega arith)

pub message-narrow : (m : Option (List ℕ)) → is_short_option m ≡ true → IsNarrowMessage m
unfolding message_text
message-narrow None h = tt
message-narrow (Some m) h =
    let line = before_first (λ b. b == 10) m in
    go (length (trim line) == 0) (omega (arith, length-trim line, length-before (λ b. b == 10) m, short m h))
  where
    go : (b : Bool) → length (trim (before_first (λ b. b == 10) m)) ≤ 16 * max_text → IsNarrow ((if b then codes "(no message)" else trim (before_first (λ b. b == 10) m)) ∷ [])
    go true k = narrow-one (codes "(no message)") (omega arith)
    go false k = narrow-one (trim (before_first (λ b. b == 10) m)) (omega (arith, k))

-- ---- narrow rows

narrow-append : (rs qs : List DocRow) → AreNarrow rs → AreNarrow qs → AreNarrow (rs ++ qs)
narrow-append [] qs p q = q
narrow-append (r ∷ rs) qs p q = (p.0, narrow-append rs qs p.1 q)

numbered-narrow : (v : SectionView) (i : ℕ) (ls : List (List ℕ)) → list_all is_short_text ls ≡ true → AreNarrow (numbered_rows v i ls)
unfolding rows_of_lines
numbered-narrow v i [] h = tt
numbered-narrow v i (l ∷ ls) h = (
  line-narrow (number_text (line_number v.line_start_num i)) l (length-number (line_number v.line_start_num i)) (and_parts (is_short_text l) (list_all is_short_text ls) h).0,
  numbered-narrow v (suc i) ls (and_parts (is_short_text l) (list_all is_short_text ls) h).1,
)

changed-narrow : (v : SectionView) (i : ℕ) (ls : List SectionChangedLine) → list_all (λ (l : SectionChangedLine). is_short_text l.line) ls ≡ true → AreNarrow (changed_rows v i ls)
unfolding rows_of_lines
changed-narrow v i [] h = tt
changed-narrow v i (l ∷ ls) h = (
  (box-narrow (line_box v i l.is_checked), line-narrow (sign_text l.change_type) l.line (length-sign l.change_type) (and_parts (is_short_text l.line) (list_all (λ (k : SectionChangedLine). is_short_text k.line) ls) h).0),
  changed-narrow v (suc i) ls (and_parts (is_short_text l.line) (list_all (λ (k : SectionChangedLine). is_short_text k.line) ls) h).1,
)

dots_row-narrow : (b : Bool) (v : SectionView) → AreNarrow (if b then DotsRow (dots_text v.use_unicode) ∷ [] else [])
dots_row-narrow true v = (dots-narrow v.use_unicode, tt)
dots_row-narrow false v = tt

context-narrow : (v : SectionView) (ls : List (List ℕ)) → list_all is_short_text ls ≡ true → AreNarrow (context_rows v ls)
unfolding context_rows
context-narrow v ls h = go (length ls == 0)
  where
    shown : AreNarrow (shown_lines v ls)
    shown =
        narrow-append (numbered_rows v 0 (take (lines_above (place_of v) (length ls)) ls)) (rows_below v ls) (numbered-narrow v 0 (take (lines_above (place_of v) (length ls)) ls) (all-take is_short_text (lines_above (place_of v) (length ls)) ls h))
        (narrow-append (if has_dots (place_of v) (length ls) then DotsRow (dots_text v.use_unicode) ∷ [] else []) (numbered_rows v (first_below (place_of v) (length ls)) (drop (first_below (place_of v) (length ls)) ls)) (dots_row-narrow (has_dots (place_of v) (length ls)) v)
        (numbered-narrow v (first_below (place_of v) (length ls)) (drop (first_below (place_of v) (length ls)) ls) (all-drop is_short_text (first_below (place_of v) (length ls)) ls h)))

    go : (b : Bool) → AreNarrow (if b then BlankRow ∷ [] else shown_lines v ls)
    go true = (tt, tt)
    go false = shown

pub heading-narrow : (h : Heading) → IsNarrow (h.title ∷ []) → IsNarrowHeading h
heading-narrow h w = record { toggle = box-narrow h.toggle; fold = box-narrow h.fold; title = w }

pub rows-narrow : (v : SectionView) (section : Section) → has_short_texts section ≡ true → AreNarrow (rows_of v section)
rows-narrow v (Unchanged ls) h = context-narrow v ls h
rows-narrow v (Changed ls) h =
    (heading-narrow (section_heading v) (section-narrow v.editable_section_num v.total_num_editable_sections), cond_both (is_fold_open v.expand_box) (changed_rows v 0 ls) [] AreNarrow (λ _. changed-narrow v 0 ls h) (λ _. tt))
rows-narrow v (FileMode checked m) h = ((box-narrow (section_box v checked), mode-narrow m), tt)
rows-narrow v (Binary checked old new) h = ((box-narrow (section_box v checked), binary-narrow old new (and_parts (is_short_option old) (is_short_option new) h).0 (and_parts (is_short_option old) (is_short_option new) h).1), tt)

-- ---- narrow sections and files

pub sections-append : (ps qs : List ShownSection) → AreNarrowSections ps → AreNarrowSections qs → AreNarrowSections (ps ++ qs)
sections-append [] qs p q = q
sections-append (a ∷ ps) qs p q = (p.0, sections-append ps qs p.1 q)

pub shown-narrow : (b : Bool) (v : SectionView) → has_short_texts v.section.now ≡ true → AreNarrowSections (shown_section b v)
unfolding section_rows
shown-narrow true v h = (rows-narrow v v.section.now h, tt)
shown-narrow false v h = tt

abbrev pub texts_of : SectionView → Bool
texts_of v = has_short_texts v.section.now

sections-narrow : (before : Bool) (vs : List SectionView) → list_all texts_of vs ≡ true → AreNarrowSections (shown_sections before vs)
unfolding shown_sections
sections-narrow before [] h = tt
sections-narrow before (v ∷ vs) h =
    sections-append (shown_section _ v) _ (shown-narrow _ v (and_parts (texts_of v) (list_all texts_of vs) h).0) (sections-narrow (is_open v) vs (and_parts (texts_of v) (list_all texts_of vs) h).1)

pub file-narrow : (v : FileView) → is_short_option (lent_text v.old_path) ≡ true → is_short_text v.path.now ≡ true → list_all texts_of v.section_views ≡ true → IsNarrowFile (shown_file v)
unfolding shown_file
file-narrow v old path texts = record {
  heading = heading-narrow (shown_file v).heading (path-narrow (lent_text v.old_path) v.path.now old path);
  sections = cond_both (is_fold_open v.expand_box) (shown_sections false v.section_views) [] AreNarrowSections (λ _. sections-narrow false v.section_views texts) (λ _. tt);
}

texts-same : (s : ViewState) (totals : Totals) (k : FileKey) (i editable line : ℕ) (sections : List Section) → list_all texts_of (section_views_of s totals k i editable line sections) ≡ list_all has_short_texts sections
unfolding section_views_of
texts-same s totals k i editable line [] = refl
texts-same s totals k i editable line (section ∷ more) =
    ap (λ b. has_short_texts section && b) (texts-same s totals k (suc i) (if is_editable_section section then editable + 1 else editable) (line + old_lines section) more)

session-file : (s : ViewState) (k : FileKey) (f : File) → has_short_texts_in_file f ≡ true → IsNarrowFile (shown_file (file_view_of s k f))
session-file s k f h =
    let paths = (and_parts (is_short_option f.old_path && is_short_text f.path) (list_all has_short_texts f.sections) h).0 in
    let texts = (and_parts (is_short_option f.old_path && is_short_text f.path) (list_all has_short_texts f.sections) h).1 in
    file-narrow (file_view_of s k f) (old f.old_path (and_parts (is_short_option f.old_path) (is_short_text f.path) paths).0) (and_parts (is_short_option f.old_path) (is_short_text f.path) paths).1
    (texts-same s (totals_of f.sections) k 0 0 0 f.sections ∙ texts)
  where
    old : (o : Option (List ℕ)) → is_short_option o ≡ true → is_short_option (option_map (λ b. b.now) (option_map borrow_of o)) ≡ true
    old None h = refl
    old (Some t) h = h

files-narrow : (s : ViewState) (commit i : ℕ) (fs : List File) → list_all has_short_texts_in_file fs ≡ true → AreNarrowFiles (map shown_file (file_views_of s commit i fs))
unfolding file_views_of
files-narrow s commit i [] h = tt
files-narrow s commit i (f ∷ fs) h =
    (session-file s (record { commit_idx = commit; file_idx = i }) f (and_parts (has_short_texts_in_file f) (list_all has_short_texts_in_file fs) h).0, files-narrow s commit (suc i) fs (and_parts (has_short_texts_in_file f) (list_all has_short_texts_in_file fs) h).1)

-- ---- numbers of rows

pub shown-few : (b : Bool) (v : SectionView) → length (sections_rows (shown_section b v)) ≤ 2 * section_size v.section.now + 1
unfolding sections_rows section_rows
shown-few true v = omega (arith, length-append (rows_of v v.section.now) [], height-of v v.section.now, height-le (place_of v) (is_fold_open v.expand_box) v.section.now)
shown-few false v = omega arith

abbrev pub size_of : SectionView → ℕ
size_of v = section_size v.section.now

sections-few : (before : Bool) (vs : List SectionView) → length (sections_rows (shown_sections before vs)) ≤ 2 * sum_by size_of vs + length vs
unfolding shown_sections sections_rows
sections-few before [] = omega arith
sections-few before (v ∷ vs) =
    let b = is_section_visible before v.section.now (is_first_open vs) in
    omega (arith, length-sections (shown_section b v) (shown_sections (is_open v) vs), shown-few b v, sections-few (is_open v) vs, sum_by-cons size_of v vs)

pub file-few : (v : FileView) → length (file_rows (shown_file v)) ≤ 1 + (2 * sum_by size_of v.section_views + length v.section_views)
unfolding file_rows shown_file sections_rows
file-few v = go (is_fold_open v.expand_box) (sections-few false v.section_views)
  where
    go : (b : Bool) → length (sections_rows (shown_sections false v.section_views)) ≤ 2 * sum_by size_of v.section_views + length v.section_views
        → suc (length (sections_rows (if b then shown_sections false v.section_views else []))) ≤ 1 + (2 * sum_by size_of v.section_views + length v.section_views)
    go true h = omega (arith, h)
    go false h = omega arith

-- the views of a session have its sections
sizes-same : (s : ViewState) (totals : Totals) (k : FileKey) (i editable line : ℕ) (sections : List Section)
    → 2 * sum_by size_of (section_views_of s totals k i editable line sections) + length (section_views_of s totals k i editable line sections) ≡ 2 * sum_by section_size sections + length sections
unfolding section_views_of
sizes-same s totals k i editable line [] = refl
sizes-same s totals k i editable line (section ∷ more) =
    let v = section_view_of s totals (section_key_of k i) editable line section in
    let vs = section_views_of s totals k (suc i) (if is_editable_section section then editable + 1 else editable) (line + old_lines section) more in
    let rest = sizes-same s totals k (suc i) (if is_editable_section section then editable + 1 else editable) (line + old_lines section) more in
    omega (arith, sum_by-cons size_of v vs, sum_by-cons section_size section more, rest)

files-few : (s : ViewState) (commit i : ℕ) (fs : List File) → length (files_rows (map shown_file (file_views_of s commit i fs))) ≤ 2 * sum_by file_size fs + length fs
unfolding file_views_of files_rows
files-few s commit i [] = omega arith
files-few s commit i (f ∷ fs) =
    let k : FileKey = record { commit_idx = commit; file_idx = i } in
    omega (arith, length-append (file_rows (shown_file (file_view_of s k f))) (files_rows (map shown_file (file_views_of s commit (suc i) fs))), file-few (file_view_of s k f), sizes-same s (totals_of f.sections) k 0 0 0 f.sections, files-few s commit (suc i) fs, sum_by-cons file_size f fs)

-- ---- an accepted state

short-commit : (n : ℕ) (cs : List Commit) → list_all (λ (c : Commit). is_short_option c.message) cs ≡ true → is_short_option (commit_at n cs).message ≡ true
unfolding commit_at
short-commit n [] h = refl
short-commit zero (c ∷ cs) h = (and_parts (is_short_option c.message) (list_all (λ (c : Commit). is_short_option c.message) cs) h).0
short-commit (suc n) (c ∷ cs) h = short-commit n cs (and_parts (is_short_option c.message) (list_all (λ (c : Commit). is_short_option c.message) cs) h).1

-- close places are here
pub close-here : (z : ℤ) → IsInScrollBounds z → IsInDrawBounds z
close-here z c = record { low = omega (arith, places, c.low); high = omega (arith, places, c.high, scroll_room) }

pub sight-here : (s : Sight) → SightIsInScrollBounds s → SightIsInDrawBounds s
sight-here s c = record { x = close-here _ c.x; end_x = close-here _ c.end_x; mask_x = close-here _ c.mask_x; mask_y = close-here _ c.mask_y }

-- an accepted state has few files, sections and lines
pub state-few : (shown : ViewState) → is_accepted_state shown.state ≡ true → state_size shown.state ≤ max_items
state-few shown a = grind (arith, nat_tests)

-- the texts of an accepted state are narrow
pub session-narrow : (shown : ViewState) (commit : ℕ) → is_accepted_state shown.state ≡ true → IsNarrowDocument (document_of (commit_view_of shown commit))
session-narrow shown commit a =
    let cs = shown.state.commits in
    let fs = shown.state.files in
    let messages = list_all (λ (c : Commit). is_short_option c.message) cs in
    let size = nat_le (state_size shown.state) max_items in
    let texts = list_all has_short_texts_in_file fs in
    let two = nat_le (length cs) 2 in
    let first = (and_parts ((two && messages) && size) texts a).0 in
    record { message = message-narrow _ (short-commit commit cs (and_parts two messages (and_parts (two && messages) size first).0).1); files = files-narrow shown commit 0 fs (and_parts ((two && messages) && size) texts a).1 }

pub commits-in-range : (shown : ViewState) (commit : ℕ) (v : CommitView) (s : Sight) (x y : ℤ) → is_accepted_state shown.state ≡ true → Shows v shown commit
    → SightIsInScrollBounds s → IsInScrollBounds x → IsInScrollBounds y → PictureInRange (commit_picture v s x y)
unfolding commit_picture
commits-in-range shown commit v s x y a e c p q =
    let few = state-few shown a in
    rw e (document-near (document_of (commit_view_of shown commit)) s x y (sight-here s c) (close-here x p) (close-here y q)
    (omega (arith, files-few shown commit 0 shown.state.files, few, items_room)) (session-narrow shown commit a))

-- an accepted state has few rows
pub few-rows : (shown : ViewState) (commit : ℕ) (v : CommitView) → is_accepted_state shown.state ≡ true → Shows v shown commit → length (files_rows (document_of v).files) ≤ 2 ^ 42
few-rows shown commit v a e =
    let few = state-few shown a in
    let same = ap (λ (d : Document). length (files_rows d.files)) e in
    omega (arith, same, files-few shown commit 0 shown.state.files, few, items_room)
