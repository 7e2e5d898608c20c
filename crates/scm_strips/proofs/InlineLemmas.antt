-- On all columns of a screen, that is from column 0 on, the rows of an area are their strips: they show the same, and have the same owners.
use Rattle.std.proofs.Common.{◌≡◌, ℕ, ◌+◌, ◌-◌, ◌<◌, ◌≤◌, max, Bool, true, false, List, [], ◌∷◌, ◌++◌, length, map, refl, ap, ap₂, ◌∙◌, arith, Option, Some, None, cond}
use Rattle.std.specs.Prelude.{ℤ, pos, ◌+ℤ◌, ◌-ℤ◌, ◌≤ℤ◌, nat_le, if◌then◌else◌, ◌||◌, ◌==◌, fold}
use Rattle.std.specs.Int.{int_min}
use Rattle.std.specs.List.{AllZip}
use Rattle.std.specs.Ordering.{int_eq}
use Rattle.std.proofs.lemmas.Bool.Decides.{nat_tests}
use Rattle.std.proofs.lemmas.Int.{ints, clamps}
use Rattle.scm_cells.specs.Clusters.{text_width}
use Rattle.scm_render.specs.Canvas.{Row}
use Rattle.scm_render.specs.Centring.{centred_gap}
use Rattle.scm_render.specs.Drawing.{texts_width}
use Rattle.scm_render.specs.Hits.{first_of_two}
use Rattle.scm_render.specs.Lines.{line}
use Rattle.scm_widgets.specs.declared.ids.ComponentId.{ComponentId}
use Rattle.scm_widgets.specs.declared.ids.ComponentId.TheVariants as ids
use Rattle.scm_widgets.specs.Layers.{Strip, Layer, owned, clear, is_among, shown_by, owned_by, strip_at}
use Rattle.scm_widgets.proofs.OverlayRectLemmas.{within-among}
use Rattle.scm_document.specs.Rows.{DocRow, HeaderRow, SectionRow, LineRow, MarkRow, ContextRow, DotsRow, BlankRow, ShownSection, ShownFile, Document, file_id, section_id, line_id, file_rows}
use Rattle.scm_document.specs.Strips as strips
use Rattle.scm_document.specs.Strips.{row_strip, message_strip, no_files_strip, only_shows, everywhere, is_whole, is_wide, is_of_section, is_over}
use Rattle.scm_strips.specs.Shows.{AreaRow, FileRow, MessageRow, MarginRow, WordsRow, whole, shows}
use Rattle.scm_strips.specs.Parts.{Part, owner_in, row_from, row_reach, heading_from, end_of_texts, is_between, has_column}
use Rattle.scm_strips.specs.Laws.{strip_of}
use Rattle.scm_strips.specs.AreaStrips.{area_strip, owned_in, section_part, file_part, area_section, area_sections, area_file, area_header, area_files, area_pinned, area_message, area_words, area_bare, area_filled, area_document, area_pinned_layer}

-- ---- what rows show

fold-whole : (w : ℕ) → 3 ≤ w → pos w -ℤ pos 3 ≡ pos (w - 3)
fold-whole w h = omega (arith, ints, h)

from-zero : (n : ℕ) → 0 + n ≡ n
from-zero n = omega arith

pub shows-whole : (w : ℕ) (d : AreaRow) (row : Row) → 3 ≤ w → shows (whole w) d row ≡ (strip_of w d).shows row
unfolding row_strip
shows-whole w (FileRow (HeaderRow key h)) row wide = rw (from-zero w, from-zero (w - 3), fold-whole w wide) refl
shows-whole w (FileRow (SectionRow selected h)) row wide = rw (from-zero w, from-zero (w - 3), fold-whole w wide) refl
shows-whole w (FileRow (LineRow key b ts)) row wide = rw (from-zero w) refl
shows-whole w (FileRow (MarkRow selected b t)) row wide = rw (from-zero w) refl
shows-whole w (FileRow (ContextRow key ts)) row wide = rw (from-zero w) refl
shows-whole w (FileRow (DotsRow t)) row wide = rw (from-zero w) refl
shows-whole w (FileRow BlankRow) row wide = rw (from-zero w) refl
shows-whole w (MessageRow k message) row wide = rw (from-zero w) refl
shows-whole w MarginRow row wide = rw (from-zero w) refl
shows-whole w WordsRow row wide = rw (from-zero w, from-zero (centred_gap w 29 50)) refl

-- ---- who owns their columns

-- columns c..c + n as a test of a column of the screen
span-among : (c n x : ℕ) → is_between (pos c) (pos c +ℤ pos n) (pos x -ℤ pos 0) ≡ is_among c n x
span-among c n x = let same : pos x -ℤ pos 0 ≡ pos x = omega (arith, ints) in ap (λ z. is_between (pos c) (pos c +ℤ pos n) z) same ∙ within-among c n x

fold-among : (w x : ℕ) → 3 ≤ w → is_between (pos w -ℤ pos 3) ((pos w -ℤ pos 3) +ℤ pos 3) (pos x -ℤ pos 0) ≡ is_among (w - 3) 3 x
fold-among w x h = ap (λ c. is_between c (c +ℤ pos 3) (pos x -ℤ pos 0)) (fold-whole w h) ∙ span-among (w - 3) 3 x

-- columns that hold all of a screen's
covers : (from : ℤ) (to w x : ℕ) → from ≤ℤ pos 0 → w ≤ to → x < w → is_between from (pos to) (pos x -ℤ pos 0) ≡ true
covers from to w x a b h = grind (arith, ints, nat_tests, a, b, h)

header-begins : (w width : ℕ) → heading_from w 0 width ≤ℤ pos 0
header-begins w width = omega (arith, ints, clamps)

-- two boxes, and what owns the rest
two-boxes : (t u : Bool) (i j k : ComponentId) → ◌≡◌ {A = Option ComponentId}
    (if t then Some i else if u then Some j else Some k)
    (first_of_two (first_of_two None (first_of_two (cond t (Some i) None) (first_of_two None (cond u (Some j) None)))) (Some k))
two-boxes true u i j k = refl
two-boxes false true i j k = refl
two-boxes false false i j k = refl

only-boxes : (t u : Bool) (i j : ComponentId) → ◌≡◌ {A = Option ComponentId}
    (if t then Some i else if u then Some j else None)
    (first_of_two None (first_of_two (cond t (Some i) None) (first_of_two None (cond u (Some j) None))))
only-boxes true u i j = refl
only-boxes false true i j = refl
only-boxes false false i j = refl

one-box : (t : Bool) (i k : ComponentId) → ◌≡◌ {A = Option ComponentId} (if t then Some i else Some k) (first_of_two (first_of_two None (cond t (Some i) None)) (Some k))
one-box true i k = refl
one-box false i k = refl

box-alone : (t : Bool) (i : ComponentId) → ◌≡◌ {A = Option ComponentId} (if t then Some i else None) (first_of_two None (cond t (Some i) None))
box-alone true i = refl
box-alone false i = refl

button-alone : (t : Bool) (i : ComponentId) → ◌≡◌ {A = Option ComponentId} (if t then Some i else None) (first_of_two None (first_of_two None (cond t (Some i) None)))
button-alone true i = refl
button-alone false i = refl

pub owner-whole : (w x : ℕ) (d : AreaRow) → 3 ≤ w → x < w → (area_strip (whole w) d).owner x ≡ (strip_of w d).owner x
unfolding row_strip owner_in
owner-whole w x (FileRow (HeaderRow key h)) wide within =
    let end : w ≤ max 3 (max w (end_of_texts 4 (text_width h.title))) = omega arith in
    rw (span-among 0 3 x, fold-among w x wide, covers (heading_from w 0 (text_width h.title)) _ w x (header-begins w (text_width h.title)) end within)
    (two-boxes (is_among 0 3 x) (is_among (w - 3) 3 x) h.toggle.id h.fold.id (ids.FileViewHeader key))
owner-whole w x (FileRow (SectionRow selected h)) wide within =
    rw (span-among 2 3 x, fold-among w x wide) (only-boxes (is_among 2 3 x) (is_among (w - 3) 3 x) h.toggle.id h.fold.id)
owner-whole w x (FileRow (LineRow key b ts)) wide within =
    let end : w ≤ max 7 (max w (end_of_texts 8 (texts_width ts))) = omega arith in
    let begin : pos 0 ≤ℤ pos 0 = omega (arith, ints) in
    rw (span-among 4 3 x, covers (pos 0) _ w x begin end within) (one-box (is_among 4 3 x) b.id (line_id key))
owner-whole w x (FileRow (MarkRow selected b t)) wide within = rw (span-among 2 3 x) (box-alone (is_among 2 3 x) b.id)
owner-whole w x (FileRow (ContextRow key ts)) wide within =
    let end : w ≤ max w (end_of_texts 4 (texts_width ts)) = omega arith in
    let begin : pos 0 ≤ℤ pos 0 = omega (arith, ints) in
    rw (covers (pos 0) _ w x begin end within) refl
owner-whole w x (FileRow (DotsRow t)) wide within = refl
owner-whole w x (FileRow BlankRow) wide within = refl
owner-whole w x (MessageRow k message) wide within = rw (span-among 0 14 x) (button-alone (is_among 0 14 x) (ids.CommitEditMessageButton k))
owner-whole w x MarginRow wide within = refl
owner-whole w x WordsRow wide within = refl

-- ---- strips that are the same on w columns

pub record IsSame (w : ℕ) (s t : Strip ComponentId) : Type 0 where
  pub shows : (row : Row) → s.shows row ≡ t.shows row
  pub owner : (x : ℕ) → x < w → s.owner x ≡ t.owner x

abbrev pub AreSame : ℕ → List (Strip ComponentId) → List (Strip ComponentId) → Type 0
AreSame w ss ts = AllZip (IsSame w) ss ts

row-same : (w : ℕ) (d : AreaRow) → 3 ≤ w → IsSame w (area_strip (whole w) d) (strip_of w d)
row-same w d h = record { shows = λ row. shows-whole w d row h; owner = λ x p. owner-whole w x d h p }

same-append : (w : ℕ) (ps qs cs ds : List (Strip ComponentId)) → AreSame w ps qs → AreSame w cs ds → AreSame w (ps ++ cs) (qs ++ ds)
same-append w [] [] cs ds h k = k
same-append w [] (q ∷ qs) cs ds h k = absurd h
same-append w (p ∷ ps) [] cs ds h k = absurd h
same-append w (p ∷ ps) (q ∷ qs) cs ds h k = (h.0, same-append w ps qs cs ds h.1 k)

-- a part owns what it has
owned-same : (w : ℕ) (p : Part) (i : ComponentId) (test : ℕ → Bool) (s t : Strip ComponentId) → p.id ≡ i
    → ((x : ℕ) → x < w → has_column p (pos x -ℤ pos 0) ≡ test x) → IsSame w s t → IsSame w (owned_in (whole w) p s) (owned i test t)
unfolding owner_in
owned-same w p i test s t e k h = record {
  shows = h.shows;
  owner = λ x within. ap₂ (λ (a b : Option ComponentId). first_of_two a b) (h.owner x within) (ap₂ (λ (b : Bool) (j : ComponentId). cond b (Some j) None) (k x within) e);
}

all-owned : (w : ℕ) (p : Part) (i : ComponentId) (test : ℕ → Bool) (ss ts : List (Strip ComponentId)) → p.id ≡ i
    → ((x : ℕ) → x < w → has_column p (pos x -ℤ pos 0) ≡ test x) → AreSame w ss ts → AreSame w (map (owned_in (whole w) p) ss) (map (owned i test) ts)
all-owned w p i test [] [] e k h = h
all-owned w p i test [] (t ∷ ts) e k h = absurd h
all-owned w p i test (s ∷ ss) [] e k h = absurd h
all-owned w p i test (s ∷ ss) (t ∷ ts) e k h = (owned-same w p i test s t e k h.0, all-owned w p i test ss ts e k h.1)

-- ---- the columns of sections and files

max-most : (m : ℕ) (xs : List ℕ) → m ≤ fold max m xs
max-most m [] = omega arith
max-most m (x ∷ xs) = let more = max-most (max m x) xs in omega (arith, more)

from-least : (v : ℕ) (d : DocRow) → 10 ≤ v → pos 0 ≤ℤ row_from v d
from-least v (HeaderRow key h) wide = header-least v (text_width h.title) wide
  where
    header-least : (v width : ℕ) → 10 ≤ v → pos 0 ≤ℤ heading_from v 0 width
    header-least v width wide = grind (arith, ints, clamps, wide)
from-least v (SectionRow selected h) wide = title-least v (text_width h.title) wide
  where
    title-least : (v width : ℕ) → 10 ≤ v → pos 0 ≤ℤ heading_from v 2 width
    title-least v width wide = grind (arith, ints, clamps, wide)
from-least v (LineRow key b ts) wide = omega (arith, ints)
from-least v (MarkRow selected b t) wide = omega (arith, ints)
from-least v (ContextRow key ts) wide = omega (arith, ints)
from-least v (DotsRow t) wide = omega (arith, ints)
from-least v BlankRow wide = omega (arith, ints)

from-two : (v : ℕ) (d : DocRow) → 10 ≤ v → is_whole d ≡ false → pos 2 ≤ℤ row_from v d
from-two v (HeaderRow key h) wide e = absurd (cc e)
from-two v (SectionRow selected h) wide e = title-two v (text_width h.title) wide
  where
    title-two : (v width : ℕ) → 10 ≤ v → pos 2 ≤ℤ heading_from v 2 width
    title-two v width wide = grind (arith, ints, clamps, wide)
from-two v (LineRow key b ts) wide e = absurd (cc e)
from-two v (MarkRow selected b t) wide e = omega (arith, ints)
from-two v (ContextRow key ts) wide e = absurd (cc e)
from-two v (DotsRow t) wide e = omega (arith, ints)
from-two v BlankRow wide e = omega (arith, ints)

least-stays : (z y : ℤ) → z ≤ℤ y → int_min z y ≡ z
least-stays z y h = omega (arith, ints, clamps, h)

begins-first : (v : ℕ) (ds : List DocRow) → 10 ≤ v → fold int_min (pos 0) (map (row_from v) ds) ≡ pos 0
begins-first v [] wide = refl
begins-first v (d ∷ ds) wide =
    ap (λ z. fold int_min z (map (row_from v) ds)) (least-stays (pos 0) (row_from v d) (from-least v d wide)) ∙ begins-first v ds wide

begins-third : (v : ℕ) (ds : List DocRow) → 10 ≤ v → is_wide ds ≡ false → fold int_min (pos 2) (map (row_from v) ds) ≡ pos 2
begins-third v [] wide e = refl
begins-third v (d ∷ ds) wide e =
    let each = any-none d ds e in
    ap (λ z. fold int_min z (map (row_from v) ds)) (least-stays (pos 2) (row_from v d) (from-two v d wide each.0)) ∙ begins-third v ds wide each.1
  where
    either : (a b : Bool) → (a || b) ≡ false → (a ≡ false) × (b ≡ false)
    either true b h = absurd (cc h)
    either false b h = (refl, h)

    any-none : (d : DocRow) (ds : List DocRow) → is_wide (d ∷ ds) ≡ false → (is_whole d ≡ false) × (is_wide ds ≡ false)
    any-none d ds h = either (is_whole d) (is_wide ds) h

third-on : (to w x : ℕ) → w ≤ to → x < w → is_between (pos 2) (pos to) (pos x -ℤ pos 0) ≡ nat_le 2 x
third-on to w x a h = go (nat_le 2 x) refl
  where
    go : (t : Bool) → nat_le 2 x ≡ t → is_between (pos 2) (pos to) (pos x -ℤ pos 0) ≡ t
    go true e = grind (arith, ints, nat_tests, a, h, e)
    go false e = grind (arith, ints, nat_tests, a, h, e)

section-has : (w : ℕ) (p : ShownSection) (x : ℕ) → 10 ≤ w → x < w → has_column (section_part w p) (pos x -ℤ pos 0) ≡ is_of_section p.rows x
section-has w p x wide within = go (is_wide p.rows) refl
  where
    to : ℕ
    to = fold max w (map row_reach p.rows)

    go : (b : Bool) → is_wide p.rows ≡ b → is_between (fold int_min (if is_wide p.rows then pos 0 else pos 2) (map (row_from w) p.rows)) (pos to) (pos x -ℤ pos 0) ≡ (is_wide p.rows || nat_le 2 x)
    go true e =
        let begin : pos 0 ≤ℤ pos 0 = omega (arith, ints) in
        rw (e, begins-first w p.rows wide) (covers (pos 0) to w x begin (max-most w (map row_reach p.rows)) within)
    go false e = rw (e, begins-third w p.rows wide e) (third-on to w x (max-most w (map row_reach p.rows)) within)

file-has : (w : ℕ) (f : ShownFile) (x : ℕ) → 10 ≤ w → x < w → has_column (file_part w f) (pos x -ℤ pos 0) ≡ everywhere x
file-has w f x wide within =
    let begin : pos 0 ≤ℤ pos 0 = omega (arith, ints) in
    rw (begins-first w (file_rows f) wide) (covers (pos 0) (fold max w (map row_reach (file_rows f))) w x begin (max-most w (map row_reach (file_rows f))) within)

-- ---- sections, files, messages

pub section-same : (w : ℕ) (p : ShownSection) → 10 ≤ w → AreSame w (area_section (whole w) p) (strips.section_strips w p)
unfolding area_section strips.section_strips
section-same w p wide = go p.rows
  where
    go : (ds : List DocRow) → AreSame w (map (λ d. owned_in (whole w) (section_part w p) (area_strip (whole w) (FileRow d))) ds)
        (map (owned (section_id p.key) (is_of_section p.rows)) (map (row_strip w) ds))
    go [] = tt
    go (d ∷ ds) = (
      owned-same w (section_part w p) (section_id p.key) (is_of_section p.rows) (area_strip (whole w) (FileRow d)) (row_strip w d) refl
          (λ x within. section-has w p x wide within) (row-same w (FileRow d) (omega (arith, wide))),
      go ds,
    )

pub sections-same : (w : ℕ) (ps : List ShownSection) → 10 ≤ w → AreSame w (area_sections (whole w) ps) (strips.sections_strips w ps)
unfolding area_sections strips.sections_strips
sections-same w [] wide = tt
sections-same w (p ∷ ps) wide =
    same-append w (area_section (whole w) p) (strips.section_strips w p) (area_sections (whole w) ps) (strips.sections_strips w ps) (section-same w p wide) (sections-same w ps wide)

header-same : (w : ℕ) (pinned : Bool) (f : ShownFile) → 10 ≤ w
    → IsSame w (cond pinned (only_shows (area_header (whole w) f).shows) (area_header (whole w) f)) (strips.header_strip w pinned f)
header-same w true f wide = record { shows = λ row. shows-whole w (FileRow (HeaderRow f.key f.heading)) row (omega (arith, wide)); owner = λ x within. refl }
header-same w false f wide = row-same w (FileRow (HeaderRow f.key f.heading)) (omega (arith, wide))

pub file-same : (w : ℕ) (pinned : Bool) (f : ShownFile) → 10 ≤ w → AreSame w (area_file (whole w) pinned f) (strips.file_strips w pinned f)
unfolding area_file strips.file_strips
file-same w pinned f wide =
    all-owned w (file_part w f) (file_id f.key) everywhere
    (cond pinned (only_shows (area_header (whole w) f).shows) (area_header (whole w) f) ∷ area_sections (whole w) f.sections)
    (strips.header_strip w pinned f ∷ strips.sections_strips w f.sections)
    refl (λ x within. file-has w f x wide within) (header-same w pinned f wide, sections-same w f.sections wide)

pub files-same : (w m top : ℕ) (fs : List ShownFile) → 10 ≤ w → AreSame w (area_files (whole w) m top fs) (strips.files_strips w m top fs)
unfolding area_files strips.files_strips
files-same w m top [] wide = tt
files-same w m top (f ∷ fs) wide =
    same-append w (area_file (whole w) (is_over m top f) f) (strips.file_strips w (is_over m top f) f)
    (area_files (whole w) m (top + length (file_rows f)) fs) (strips.files_strips w m (top + length (file_rows f)) fs)
    (file-same w (is_over m top f) f wide) (files-same w m (top + length (file_rows f)) fs wide)

pub pinned-same : (w m top : ℕ) (fs : List ShownFile) → 10 ≤ w → AreSame w (area_pinned (whole w) m top fs) (strips.pinned_strips w m top fs)
unfolding area_pinned strips.pinned_strips
pinned-same w m top [] wide = tt
pinned-same w m top (f ∷ fs) wide = go (is_over m top f) (pinned-same w m (top + length (file_rows f)) fs wide)
  where
    go : (b : Bool) → AreSame w (area_pinned (whole w) m (top + length (file_rows f)) fs) (strips.pinned_strips w m (top + length (file_rows f)) fs)
        → AreSame w (cond b (area_header (whole w) f ∷ []) (area_pinned (whole w) m (top + length (file_rows f)) fs))
        (cond b (row_strip w (HeaderRow f.key f.heading) ∷ []) (strips.pinned_strips w m (top + length (file_rows f)) fs))
    go true rest = (row-same w (FileRow (HeaderRow f.key f.heading)) (omega (arith, wide)), tt)
    go false rest = rest

pub message-same : (w k : ℕ) (message : Option (List ℕ)) → 10 ≤ w → AreSame w (area_message (whole w) k message) (strips.message_strips w k message)
unfolding area_message strips.message_strips
message-same w k None wide = tt
message-same w k (Some message) wide =
    let narrow : 3 ≤ w = omega (arith, wide) in (row-same w MarginRow narrow, (row-same w (MessageRow k message) narrow, (row-same w MarginRow narrow, tt)))

message-rows : (w k : ℕ) (message : Option (List ℕ)) → length (area_message (whole w) k message) ≡ length (strips.message_strips w k message)
unfolding area_message strips.message_strips
message-rows w k None = refl
message-rows w k (Some message) = refl

-- ---- layers

pub record IsSameLayer (w : ℕ) (l k : Layer ComponentId) : Type 0 where
  pub first : l.first ≡ k.first
  pub strips : AreSame w l.strips k.strips

abbrev pub AreSameLayers : ℕ → List (Layer ComponentId) → List (Layer ComponentId) → Type 0
AreSameLayers w ls ks = AllZip (IsSameLayer w) ls ks

pub layers-append : (w : ℕ) (ps qs cs ds : List (Layer ComponentId)) → AreSameLayers w ps qs → AreSameLayers w cs ds → AreSameLayers w (ps ++ cs) (qs ++ ds)
layers-append w [] [] cs ds h k = k
layers-append w [] (q ∷ qs) cs ds h k = absurd h
layers-append w (p ∷ ps) [] cs ds h k = absurd h
layers-append w (p ∷ ps) (q ∷ qs) cs ds h k = (h.0, layers-append w ps qs cs ds h.1 k)

same-self : (w : ℕ) (ss : List (Strip ComponentId)) → AreSame w ss ss
same-self w [] = tt
same-self w (s ∷ ss) = (record { shows = λ row. refl; owner = λ x within. refl }, same-self w ss)

pub layers-self : (w : ℕ) (ls : List (Layer ComponentId)) → AreSameLayers w ls ls
layers-self w [] = tt
layers-self w (l ∷ ls) = (record { first = refl; strips = same-self w l.strips }, layers-self w ls)

words-same : (w h top : ℕ) → 10 ≤ w → IsSameLayer w (area_words (whole w) h top) (strips.no_files_layer w h top)
words-same w h top wide = record { first = refl; strips = (row-same w WordsRow (omega (arith, wide)), tt) }

bare-same : (w h top k : ℕ) (message : Option (List ℕ)) → 10 ≤ w → AreSameLayers w (area_bare (whole w) h top k message) (strips.no_files_layers w h top k message)
bare-same w h top k None wide = (words-same w h top wide, tt)
bare-same w h top k (Some message) wide = (record { first = refl; strips = message-same w k (Some message) wide }, (words-same w h top wide, tt))

filled-same : (w m top : ℕ) (d : Document) → 10 ≤ w → IsSameLayer w (area_filled (whole w) m top d) (strips.files_layer w m top d)
filled-same w m top d wide = record {
  first = refl;
  strips = same-append w (area_message (whole w) d.commit d.message) (strips.message_strips w d.commit d.message)
      (area_files (whole w) m (top + length (area_message (whole w) d.commit d.message)) d.files)
      (strips.files_strips w m (top + length (strips.message_strips w d.commit d.message)) d.files)
      (message-same w d.commit d.message wide)
      (rw (message-rows w d.commit d.message) (files-same w m (top + length (strips.message_strips w d.commit d.message)) d.files wide));
}

pub document-same : (w h m top : ℕ) (d : Document) → 10 ≤ w → AreSameLayers w (area_document (whole w) h m top d) (strips.document_layers w h m top d)
document-same w h m top d wide = go (length d.files == 0)
  where
    go : (b : Bool) → AreSameLayers w (cond b (area_bare (whole w) h top d.commit d.message) (area_filled (whole w) m top d ∷ []))
        (cond b (strips.no_files_layers w h top d.commit d.message) (strips.files_layer w m top d ∷ []))
    go true = bare-same w h top d.commit d.message wide
    go false = (filled-same w m top d wide, tt)

pub pinned_layer-same : (w m top : ℕ) (d : Document) → 10 ≤ w → IsSameLayer w (area_pinned_layer (whole w) m top d) (strips.pinned_layer w m top d)
pinned_layer-same w m top d wide = record {
  first = refl;
  strips = rw (message-rows w d.commit d.message) (pinned-same w m (top + length (strips.message_strips w d.commit d.message)) d.files wide);
}

-- ---- what layers show, and their owners

line-same : (w : ℕ) (ss ts : List (Strip ComponentId)) (y z : ℤ) → AreSame w ss ts → IsSame w (line clear ss y z) (line clear ts y z)
unfolding line
line-same w [] [] y z h = record { shows = λ row. refl; owner = λ x within. refl }
line-same w [] (t ∷ ts) y z h = absurd h
line-same w (s ∷ ss) [] y z h = absurd h
line-same w (s ∷ ss) (t ∷ ts) y z h = go (int_eq z y) (line-same w ss ts (y +ℤ pos 1) z h.1)
  where
    go : (b : Bool) → IsSame w (line clear ss (y +ℤ pos 1) z) (line clear ts (y +ℤ pos 1) z)
        → IsSame w (cond b s (line clear ss (y +ℤ pos 1) z)) (cond b t (line clear ts (y +ℤ pos 1) z))
    go true rest = h.0
    go false rest = rest

strip-same : (w z : ℕ) (l k : Layer ComponentId) → IsSameLayer w l k → IsSame w (strip_at z l) (strip_at z k)
strip-same w z l k h = rw h.first (line-same w l.strips k.strips (pos k.first) (pos z) h.strips)

pub shown-same : (w z : ℕ) (ls ks : List (Layer ComponentId)) (row : Row) → AreSameLayers w ls ks → shown_by ls z row ≡ shown_by ks z row
unfolding shown_by
shown-same w z [] [] row h = refl
shown-same w z [] (k ∷ ks) row h = absurd h
shown-same w z (l ∷ ls) [] row h = absurd h
shown-same w z (l ∷ ls) (k ∷ ks) row h =
    ap (shown_by ls z) ((strip-same w z l k h.0).shows row) ∙ shown-same w z ls ks ((strip_at z k).shows row) h.1

pub owned-by-same : (w z x : ℕ) (ls ks : List (Layer ComponentId)) → x < w → AreSameLayers w ls ks → owned_by ls z x ≡ owned_by ks z x
unfolding owned_by
owned-by-same w z x [] [] within h = refl
owned-by-same w z x [] (k ∷ ks) within h = absurd h
owned-by-same w z x (l ∷ ls) [] within h = absurd h
owned-by-same w z x (l ∷ ls) (k ∷ ks) within h =
    ap₂ (λ (a b : Option ComponentId). first_of_two a b) (owned-by-same w z x ls ks within h.1) ((strip-same w z l k h.0).owner x within)
