-- On which rows the box of a document lies that is drawn in an area: those of its layers.
use Rattle.std.proofs.Common.{◌≡◌, ℕ, suc, ◌+◌, ◌<◌, ◌≤◌, ◌==◌, min, max, Bool, true, false, List, [], ◌∷◌, length, length-append, append-nil, map, refl, sym, ap, ap₂, ◌∙◌, arith, ◌⊎◌, inl, inr}
use Rattle.std.specs.Prelude.{ℤ, pos, ◌+ℤ◌, ◌-ℤ◌, ◌≤ℤ◌, ◌<ℤ◌, int_lt, Option, Some, None, if◌then◌else◌}
use Rattle.std.specs.Int.{int_min, int_max}
use Rattle.std.proofs.lemmas.Int.{ints, clamps}
use Rattle.scm_cells.specs.Rect.{end_x_of, end_y_of, is_empty}
use Rattle.scm_cells.specs.declared.rect.Rect.{Rect}
use Rattle.scm_cells.proofs.RectLemmas.{places}
use Rattle.scm_render.specs.Around.{join, no_rect}
use Rattle.scm_render.specs.Canvas.{Sight, under}
use Rattle.scm_render.specs.Centring.{centred_rect, centred_gap}
use Rattle.scm_render.specs.Drawing.{reach, row_rect, span_picture, text_picture}
use Rattle.scm_render.specs.Picture.{nothing, followed_by, part, box_rect}
use Rattle.scm_render.proofs.AroundLemmas.{is_empty-in}
use Rattle.scm_render.proofs.SpanLemmas.{IsIn, empty_cases, in_more, join_empty_left, join_none}
use Rattle.scm_rows.specs.Heights.{message_height}
use Rattle.scm_widgets.specs.declared.ids.ComponentId.{ComponentId}
use Rattle.scm_widgets.specs.declared.ids.ComponentId.TheVariants as ids
use Rattle.scm_widgets.specs.Layers.{end_of}
use Rattle.scm_widgets.specs.Pictures.{blank_rest, button_picture, to_end}
use Rattle.scm_widgets.specs.Texts.{button_text}
use Rattle.scm_widgets.proofs.DrawsStrips.{box-followed, box-part}
use Rattle.scm_widgets.proofs.MenuLemmas.{not-empty}
use Rattle.scm_document.specs.FilesRows.{files_rows}
use Rattle.scm_document.specs.Pictures.{beside_button, button_row_picture, document_picture, edit_button, file_mask, files_picture, mask_row, message_picture, no_files_picture, one_file_picture, pinned_header, pinned_mask, pinned_picture, shown_file_picture}
use Rattle.scm_document.specs.Rows.{ShownFile, Document, file_id, file_rows}
use Rattle.scm_document.specs.Strips.{is_over, no_files_gap}
use Rattle.scm_document.specs.Texts.{divider_text, message_text, no_files_text}
use Rattle.scm_document.proofs.BoxLemmas.{span-in, text-in}
use Rattle.scm_document.proofs.DocumentLemmas.{over-below}
use Rattle.scm_document.proofs.FilesOf.{IsFileOf, AreFilesOf, HasItsIds}
use Rattle.scm_document.proofs.RunLemmas.{Runs, highest, lowest, runs_as, runs_more}
use Rattle.scm_strips.specs.declared.area.Area.{Area}
use Rattle.scm_strips.specs.AreaStrips.{area_document, area_file, area_files, area_filled, area_message}
use Rattle.scm_strips.specs.Parts.{row_reach}
use Rattle.scm_beside_laws.proofs.AreaBoxLemmas.{Lies, farthest, file-lies, header-lies, max-least}
use Rattle.scm_beside_laws.proofs.DocumentOwnerLemmas.{message-long}
use Rattle.scm_beside_laws.proofs.DocumentPaintLemmas.{made, sections-inner}
use Rattle.scm_beside_laws.proofs.DrawnWidthLemmas.{box-blank, box-empty, no-message, words-box}
use Rattle.scm_beside_laws.proofs.FileOwnerLemmas.{length-file}
use Rattle.scm_beside_laws.proofs.KeyLemmas.{some-rows}
use Rattle.scm_beside_laws.proofs.SeenLemmas.{IsSeen, under-seen}

-- ---- runs of rows

-- the rectangle is empty, or on rows from i to before j
record Inside (r : Rect) (i j : ℤ) : Type 0 where
  top : (0 < r.width) → (0 < r.height) → i ≤ℤ r.y
  end : (0 < r.width) → (0 < r.height) → end_y_of r ≤ℤ j

runs-lies : (r : Rect) (y : ℤ) (n : ℕ) (f t : ℤ) → 0 < n → f <ℤ t → Lies r y n f t → Runs r y (y +ℤ pos n)
runs-lies r y n f t some wide h = record {
  some = is_empty-in r (omega (arith, ints, wide, h.left, h.right)) (omega (arith, some, h.rows));
  top = h.top;
  end = omega (arith, ints, h.top, h.rows);
}

-- with a rectangle within its rows
runs-inside : (a b : Rect) (i j : ℤ) → Runs a i j → Inside b i j → Runs (join a b) i j
runs-inside a b i j ha hb = go (empty_cases b)
  where
    go : (is_empty b ≡ true) ⊎ ((is_empty b ≡ false) × (0 < b.width) × (0 < b.height)) → Runs (join a b) i j
    go (inl e) = rw (join_none a b e) ha
    go (inr q) =
        let low = hb.top q.1 q.2 in
        let high = hb.end q.1 q.2 in
        runs_as (join a b) (int_min i b.y) (int_max j (end_y_of b)) i j (omega (arith, ints, clamps, low)) (omega (arith, ints, clamps, high))
        (runs_more a b i j b.y (end_y_of b) ha (record { some = q.0; top = refl; end = refl }))

-- a rectangle, one that is within the rows of all, and a last one
runs-around : (a r b : Rect) (i j k l : ℤ) → i ≤ℤ k → j ≤ℤ l → Runs a i j → Inside r i l → Runs b k l → Runs (join a (join r b)) i l
runs-around a r b i j k l low high ha hr hb = go (empty_cases r)
  where
    both : Runs (join a b) i l
    both = runs_as (join a b) (int_min i k) (int_max j l) i l (omega (arith, ints, clamps, low)) (omega (arith, ints, clamps, high)) (runs_more a b i j k l ha hb)

    go : (is_empty r ≡ true) ⊎ ((is_empty r ≡ false) × (0 < r.width) × (0 < r.height)) → Runs (join a (join r b)) i l
    go (inl e) = rw (join_empty_left r b e hb.some) both
    go (inr q) =
        let top = hr.top q.1 q.2 in
        let end = hr.end q.1 q.2 in
        let rest = runs_more r b r.y (end_y_of r) k l (record { some = q.0; top = refl; end = refl }) hb in
        runs_as _ (int_min i (int_min r.y k)) (int_max j (int_max (end_y_of r) l)) i l (omega (arith, ints, clamps, low, top)) (omega (arith, ints, clamps, high, end))
        (runs_more a (join r b) i j (int_min r.y k) (int_max (end_y_of r) l) ha rest)

inside-in : (r : Rect) (y : ℤ) (n : ℕ) (l i j : ℤ) → i ≤ℤ y → (y +ℤ pos n) ≤ℤ j → IsIn r y n l → Inside r i j
inside-in r y n l i j low high h = record {
  top = λ a b. let t = h.top a b in omega (arith, ints, low, t);
  end = λ a b. let t = h.end a b in omega (arith, ints, high, t);
}

inside-nothing : (i j : ℤ) → Inside no_rect i j
inside-nothing i j = record { top = λ p q. absurd (omega (arith, p)); end = λ p q. absurd (omega (arith, p)) }

row-runs : (x y : ℤ) (n : ℕ) → 0 < n → Runs (row_rect x y n) y (y +ℤ pos 1)
row-runs x y n some = record { some = is_empty-in (row_rect x y n) some (omega arith); top = refl; end = refl }

blank-runs : (s : Sight) (x y : ℤ) → 0 < to_end s x → Runs (box_rect (blank_rest s x y)) y (y +ℤ pos 1)
blank-runs s x y some = rw (box-blank s (row_rect x y (to_end s x)), not-empty x y (to_end s x) some) (row-runs x y (to_end s x) some)

-- ---- messages

message-runs : (commit : ℕ) (message : List ℕ) (s : Sight) (w : ℕ) (a : Area) (top : ℕ) → 10 ≤ a.width → IsSeen s w a
    → Runs (box_rect (message_picture commit (Some message) s (pos a.left) (pos top))) (pos top) (pos (top + 3))
unfolding message_picture button_row_picture beside_button button_picture
message-runs commit message s w a top fits o =
    let x = pos a.left in
    let y = pos top in
    let z = y +ℤ pos 1 in
    let n : to_end s x ≡ a.width = omega (arith, places, o.low, o.columns) in
    let some : 0 < to_end s x = omega (arith, n, fits) in
    let upper = blank_rest s x y in
    let lower = blank_rest s x (y +ℤ pos 2) in
    let button = span_picture {K = ComponentId} s x z (button_text (edit_button commit)) in
    let divider = span_picture {K = ComponentId} s (x +ℤ pos 15) z divider_text in
    let text = text_picture {K = ComponentId} s (x +ℤ pos 19) z (message_text message ∷ []) in
    let last : (y +ℤ pos 2) +ℤ pos 1 ≡ pos (top + 3) = omega (arith, ints) in
    rw (
      box-followed upper (followed_by (followed_by (part (edit_button commit).id button) (followed_by divider text)) lower),
      box-followed (followed_by (part (edit_button commit).id button) (followed_by divider text)) lower,
      box-followed (part (edit_button commit).id button) (followed_by divider text),
      box-followed divider text,
      box-part (edit_button commit).id button,
    )
    (runs-around _ _ _ y (y +ℤ pos 1) (y +ℤ pos 2) (pos (top + 3)) (omega (arith, ints)) (omega (arith, ints)) (blank-runs s x y some)
    (inside-in _ z 1 (pos 0) y (pos (top + 3)) (omega (arith, ints)) (omega (arith, ints))
    (in_more _ _ z 1 (pos 0) (span-in s x z (pos 0) (button_text (edit_button commit)) (omega (arith, ints)))
    (in_more _ _ z 1 (pos 0) (span-in s (x +ℤ pos 15) z (pos 0) divider_text (omega (arith, ints)))
    (text-in s (x +ℤ pos 19) z (pos 0) (message_text message ∷ []) (omega (arith, ints)) (omega (arith, ints, o.low, o.columns, fits))))))
    (runs_as _ (y +ℤ pos 2) ((y +ℤ pos 2) +ℤ pos 1) (y +ℤ pos 2) (pos (top + 3)) refl last (blank-runs s x (y +ℤ pos 2) (rw n (omega (arith, fits))))))

-- ---- files

over-above : (m top : ℕ) (f : ShownFile) → is_over m top f ≡ true → top < m
over-above m top f h = grind (arith, h)

pinned-inside : (f : ShownFile) (b : Bool) (s : Sight) (w : ℕ) (a : Area) (m top n : ℕ) → (b ≡ true → (top < m) × (m < top + n)) → 10 ≤ a.width → IsSeen s w a
    → Inside (box_rect (if b then pinned_header f s (pos a.left) (pos m) else nothing)) (pos top) (pos (top + n))
pinned-inside f true s w a m top n within fits o =
    let k = within refl in
    let lies = header-lies f (under (pinned_mask s (pos a.left) (pos m)) s) w a (pos m) fits (under-seen s w a (pos m) (Some 1) o) in
    record { top = λ p q. omega (arith, ints, lies.top, k.0); end = λ p q. omega (arith, ints, lies.top, lies.rows, k.1) }
pinned-inside f false s w a m top n within fits o = rw box-empty (inside-nothing (pos top) (pos (top + n)))

one_file-runs : (commit i : ℕ) (f : ShownFile) (s : Sight) (w : ℕ) (a : Area) (m top : ℕ) → 10 ≤ a.width → IsSeen s w a → mask_row s ≡ pos m → IsFileOf commit i f
    → Runs (box_rect (one_file_picture f s (pos a.left) (pos top))) (pos top) (pos (top + length (file_rows f)))
unfolding one_file_picture pinned_picture
one_file-runs commit i f s w a m top fits o row e =
    let l = pos a.left in
    let t = under (file_mask s l (pos top)) s in
    let b = is_over m top f in
    let inner = shown_file_picture f t l (pos top) in
    let n = length (file_rows f) in
    let lies = file-lies f t w a (pos top) fits (under-seen s w a (pos top) None o) (sections-inner f.key 0 f.sections e.sections) e.rows in
    let far = max-least a.width (map row_reach (file_rows f)) in
    rw (row, box-followed (part (file_id f.key) inner) (if b then pinned_header f s l (pos m) else nothing), box-part (file_id f.key) inner)
    (runs-inside _ _ (pos top) (pos (top + n)) (runs-lies (box_rect inner) (pos top) n (pos (a.left + 0)) (pos (a.left + farthest a.width (file_rows f))) (some-rows f) (omega (arith, ints, far, fits)) lies)
    (pinned-inside f b s w a m top n (λ q. (over-above m top f q, over-below m top f q)) fits o))

any : (f : ShownFile) (fs : List ShownFile) → 0 < length (files_rows (f ∷ fs))
unfolding files_rows
any f fs = let a = length-append (file_rows f) (files_rows fs) in let b = some-rows f in omega (arith, a, b)

-- files one below another
files-runs : (commit i : ℕ) (f : ShownFile) (fs : List ShownFile) (s : Sight) (w : ℕ) (a : Area) (m top : ℕ) → 10 ≤ a.width → IsSeen s w a → mask_row s ≡ pos m → AreFilesOf commit i (f ∷ fs)
    → Runs (box_rect (files_picture (f ∷ fs) s (pos a.left) (pos top))) (pos top) (pos (top + length (files_rows (f ∷ fs))))
unfolding files_picture files_rows
files-runs commit i f [] s w a m top fits o row e =
    let one = one_file_picture f s (pos a.left) (pos top) in
    rw (box-followed one nothing, box-empty, join_none (box_rect one) no_rect refl, append-nil (file_rows f)) (one_file-runs commit i f s w a m top fits o row e.0)
files-runs commit i f (g ∷ fs) s w a m top fits o row e =
    let l = pos a.left in
    let n = length (file_rows f) in
    let k = length (files_rows (g ∷ fs)) in
    let below = top + n in
    let first = one_file-runs commit i f s w a m top fits o row e.0 in
    let rest = files-runs commit (suc f.key.file_idx) g fs s w a m below fits o row e.1 in
    rw (box-followed (one_file_picture f s l (pos top)) (files_picture (g ∷ fs) s l (pos below)), length-append (file_rows f) (files_rows (g ∷ fs)))
    (runs_as _ (int_min (pos top) (pos below)) (int_max (pos below) (pos (below + k))) (pos top) (pos (top + (n + k))) (omega (arith, ints, clamps)) (omega (arith, ints, clamps))
    (runs_more _ _ (pos top) (pos below) (pos below) (pos (below + k)) first rest))

-- ---- the empty-state text

words-runs : (s : Sight) (x y : ℤ) → Runs (box_rect (text_picture {K = ComponentId} s x y (no_files_text ∷ []))) y (y +ℤ pos 1)
words-runs s x y = rw (words-box s x y) (go (int_lt (end_x_of (reach s)) (x +ℤ pos 29)))
  where
    first : Runs (row_rect x y 29) y (y +ℤ pos 1)
    first = row-runs x y 29 (omega arith)

    go : (b : Bool) → Runs (join (row_rect x y 29) (if b then row_rect (end_x_of (reach s) -ℤ pos 1) y 1 else no_rect)) y (y +ℤ pos 1)
    go true =
        runs_as _ (int_min y y) (int_max (y +ℤ pos 1) (y +ℤ pos 1)) y (y +ℤ pos 1) (omega (arith, ints, clamps)) (omega (arith, ints, clamps))
        (runs_more (row_rect x y 29) (row_rect (end_x_of (reach s) -ℤ pos 1) y 1) y (y +ℤ pos 1) y (y +ℤ pos 1) first (row-runs (end_x_of (reach s) -ℤ pos 1) y 1 (omega arith)))
    go false = rw (join_none (row_rect x y 29) no_rect refl) first

no_files-runs : (s : Sight) (x : ℤ) (h top : ℕ) → (reach s).height ≡ h → h ≤ 65535 → Runs (box_rect (no_files_picture s x (pos top))) (pos (top + no_files_gap h)) (pos (top + no_files_gap h + 1))
unfolding no_files_picture centred_rect
no_files-runs s x h top high q =
    let height : min (reach s).height 65535 ≡ h = omega (arith, high, q) in
    let y = pos top +ℤ (pos 0 +ℤ pos (centred_gap (min (reach s).height 65535) 1 50)) in
    let row : y ≡ pos (top + no_files_gap h) = ap (λ k. pos top +ℤ (pos 0 +ℤ pos (centred_gap k 1 50))) height ∙ omega (arith, ints) in
    runs_as _ y (y +ℤ pos 1) (pos (top + no_files_gap h)) (pos (top + no_files_gap h + 1)) row (omega (arith, ints, row)) (words-runs s (x +ℤ (pos 0 +ℤ pos (centred_gap (min (reach s).width 65535) 29 50))) y)

-- ---- documents

-- with another run of rows, as the least run around both
runs-with : (m r : Rect) (y z a b : ℕ) → Runs m (pos y) (pos z) → Runs r (pos a) (pos b) → Runs (join m r) (pos (min a y)) (pos (max b z))
runs-with m r y z a b p q = runs_as _ (int_min (pos y) (pos a)) (int_max (pos z) (pos b)) (pos (min a y)) (pos (max b z)) (omega (arith, ints, clamps)) (omega (arith, ints, clamps)) (runs_more m r (pos y) (pos z) (pos a) (pos b) p q)

length-files : (a : Area) (m top : ℕ) (fs : List ShownFile) → length (area_files a m top fs) ≡ length (files_rows fs)
unfolding area_files files_rows
length-files a m top [] = refl
length-files a m top (f ∷ fs) =
    length-append (area_file a (is_over m top f) f) (area_files a m (top + length (file_rows f)) fs)
    ∙ ap₂ (λ (i j : ℕ). i + j) (length-file a (is_over m top f) f) (length-files a m (top + length (file_rows f)) fs)
    ∙ sym (length-append (file_rows f) (files_rows fs))

-- the row below the last of a message and files
last-row : (a : Area) (m top commit : ℕ) (message : Option (List ℕ)) (fs : List ShownFile) → top + (message_height message + length (files_rows fs)) ≡ end_of (area_filled a m top (made commit message fs))
last-row a m top commit message fs =
    let above = area_message a commit message in
    let rest = area_files a m (top + length above) fs in
    ap (λ n. top + n) (sym (length-append above rest ∙ ap₂ (λ (i j : ℕ). i + j) (message-long a commit message) (length-files a m (top + length above) fs)))

-- a message's box, if there is one, and one below it
below-message : (commit : ℕ) (message : Option (List ℕ)) (s : Sight) (w : ℕ) (a : Area) (top n : ℕ) (r : Rect) → 10 ≤ a.width → IsSeen s w a → Runs r (pos (top + message_height message)) (pos (top + message_height message + n))
    → Runs (join (box_rect (message_picture commit message s (pos a.left) (pos top))) r) (pos top) (pos (top + (message_height message + n)))
below-message commit None s w a top n r fits o h =
    rw (no-message commit s (pos a.left) (pos top), join_empty_left no_rect r refl h.some)
    (runs_as r (pos (top + 0)) (pos (top + 0 + n)) (pos top) (pos (top + (0 + n))) (ap pos (omega arith)) (ap pos (omega arith)) h)
below-message commit (Some message) s w a top n r fits o h =
    runs_as _ (int_min (pos top) (pos (top + 3))) (int_max (pos (top + 3)) (pos (top + 3 + n))) (pos top) (pos (top + (3 + n))) (omega (arith, ints, clamps)) (omega (arith, ints, clamps))
    (runs_more _ r (pos top) (pos (top + 3)) (pos (top + 3)) (pos (top + 3 + n)) (message-runs commit message s w a top fits o) h)

-- the box of a document, around another run of rows
abbrev RunsDocument : ℕ → ℕ → Area → Document → Sight → Type 0
RunsDocument h m a d s =
    (r : Rect) (i j : ℕ) → Runs r (pos i) (pos j)
    → Runs (join (box_rect (document_picture d s (pos a.left) (pos 1))) r) (pos (lowest i (area_document a h m 1 d))) (pos (highest j (area_document a h m 1 d)))

bare-runs : (commit : ℕ) (message : Option (List ℕ)) (s : Sight) (w h m : ℕ) (a : Area) → 10 ≤ a.width → IsSeen s w a → (reach s).height ≡ h → h ≤ 65535 → RunsDocument h m a (made commit message []) s
unfolding document_picture
bare-runs commit None s w h m a fits o high q r i j run =
    let l = pos a.left in
    let said = message_picture commit None s l (pos 1) in
    let words = no_files-runs s l h 1 high q in
    rw (
      box-followed (part ids.CommitMessageView said) (no_files_picture s l (pos 1)),
      box-part ids.CommitMessageView said,
      no-message commit s l (pos 1),
      join_empty_left no_rect (box_rect (no_files_picture s l (pos 1))) refl words.some,
    )
    (runs-with _ r (1 + no_files_gap h) (1 + no_files_gap h + 1) i j words run)
bare-runs commit (Some message) s w h m a fits o high q r i j run =
    let l = pos a.left in
    let said = message_picture commit (Some message) s l (pos 1) in
    let words = no_files-runs s l h 1 high q in
    let c = 1 + no_files_gap h in
    let upper = message-runs commit message s w a 1 fits o in
    let both = runs-with _ _ 1 (1 + 3) c (c + 1) upper words in
    let three : length (area_message a commit (Some message)) ≡ 3 = message-long a commit (Some message) in
    rw (
      box-followed (part ids.CommitMessageView said) (no_files_picture s l (pos 1)),
      box-part ids.CommitMessageView said,
    )
    (runs_as _ _ _ _ _ (ap pos (least c)) (ap pos (rw three (most c))) (runs-with _ r (min c 1) (max (c + 1) (1 + 3)) i j both run))
  where
    least : (c : ℕ) → min i (min c 1) ≡ min (min i 1) c
    least c = omega arith

    most : (c : ℕ) → max j (max (c + 1) (1 + 3)) ≡ max (max j (1 + 3)) (c + 1)
    most c = omega arith

filled-runs : (commit : ℕ) (message : Option (List ℕ)) (f : ShownFile) (fs : List ShownFile) (s : Sight) (w h m : ℕ) (a : Area) → 10 ≤ a.width → IsSeen s w a → mask_row s ≡ pos m → AreFilesOf commit 0 (f ∷ fs)
    → RunsDocument h m a (made commit message (f ∷ fs)) s
unfolding document_picture
filled-runs commit message f fs s w h m a fits o row e r i j run =
    let l = pos a.left in
    let n = length (files_rows (f ∷ fs)) in
    let k = message_height message in
    let said = message_picture commit message s l (pos 1) in
    let some : (length (f ∷ fs) == 0) ≡ false = grind arith in
    let files = files-runs commit 0 f fs s w a m (1 + k) fits o row e in
    let own = below-message commit message s w a 1 n _ fits o files in
    rw (
      some,
      box-followed (part ids.CommitMessageView said) (files_picture (f ∷ fs) s l (pos (1 + k))),
      box-part ids.CommitMessageView said,
    )
    (runs_as _ _ _ _ _ refl (ap (λ t. pos (max j t)) (last-row a m 1 commit message (f ∷ fs))) (runs-with _ r 1 (1 + (k + n)) i j own run))

by-parts : (commit : ℕ) (message : Option (List ℕ)) (fs : List ShownFile) (s : Sight) (w h m : ℕ) (a : Area) → 10 ≤ a.width → IsSeen s w a → (reach s).height ≡ h → h ≤ 65535 → mask_row s ≡ pos m → AreFilesOf commit 0 fs
    → RunsDocument h m a (made commit message fs) s
by-parts commit message [] s w h m a fits o high q row e = bare-runs commit message s w h m a fits o high q
by-parts commit message (f ∷ fs) s w h m a fits o high q row e = filled-runs commit message f fs s w h m a fits o row e

pub document-runs : (d : Document) (s : Sight) (w h m : ℕ) (a : Area) → 10 ≤ a.width → IsSeen s w a → (reach s).height ≡ h → h ≤ 65535 → mask_row s ≡ pos m → HasItsIds d → RunsDocument h m a d s
document-runs d s w h m a fits o high q row e = by-parts d.commit d.message d.files s w h m a fits o high q row e
