-- On which rows the box of a document lies: those of its layers.
use Rattle.std.proofs.Common.{◌≡◌, ℕ, suc, ◌+◌, ◌-◌, ◌<◌, ◌≤◌, ◌==◌, min, max, Bool, true, false, List, [], ◌∷◌, length, length-append, append-nil, refl, sym, ap, ap₂, ◌∙◌, arith, ◌⊎◌, inl, inr}
use Rattle.std.specs.Prelude.{ℤ, pos, ◌+ℤ◌, ◌-ℤ◌, ◌≤ℤ◌, ◌<ℤ◌, int_lt, Option, Some, None, if◌then◌else◌}
use Rattle.std.specs.Int.{int_min, int_max}
use Rattle.std.proofs.lemmas.Int.{ints, clamps}
use Rattle.scm_cells.specs.Clusters.{text_width}
use Rattle.scm_cells.specs.Row.{ellipsis}
use Rattle.scm_cells.specs.Rect.{end_x_of, is_empty, end_y_of}
use Rattle.scm_cells.specs.declared.rect.Rect.{Rect}
use Rattle.scm_cells.proofs.WidthLemmas.{width-ellipsis}
use Rattle.scm_cells.proofs.PrintableLemmas.{text_width-printable}
use Rattle.scm_render.specs.Picture.{nothing, followed_by, part, box_rect}
use Rattle.scm_render.specs.Around.{join, no_rect}
use Rattle.scm_render.specs.Canvas.{Sight, under}
use Rattle.scm_render.specs.Centring.{centred_rect, centred_gap}
use Rattle.scm_render.specs.Drawing.{reach, row_rect, span_picture, line_picture, text_picture, texts_width}
use Rattle.scm_render.proofs.AroundLemmas.{is_empty-in}
use Rattle.scm_render.proofs.SpanLemmas.{Spans, IsIn, in_more, spans_in, spans_more, spans_not_empty, join_none, join_empty_left, join-x, join-y, join-end_x, join-end_y, not_empty, empty_cases}
use Rattle.scm_widgets.specs.declared.ids.ComponentId.{ComponentId}
use Rattle.scm_widgets.specs.declared.ids.ComponentId.TheVariants as ids
use Rattle.scm_document.specs.OpenSights.{IsOpen}
use Rattle.scm_widgets.specs.Layers.{end_of}
use Rattle.scm_widgets.specs.Texts.{button_text}
use Rattle.scm_document.specs.Texts.{divider_text, message_text, no_files_text}
use Rattle.scm_document.proofs.FilesOf.{IsFileOf, AreFilesOf, HasItsIds}
use Rattle.scm_rows.specs.Heights.{message_height}
use Rattle.scm_document.specs.Rows.{file_id, HeaderRow, ShownFile, Document, file_rows}
use Rattle.scm_document.specs.FilesRows.{files_rows}
use Rattle.scm_document.specs.Pictures.{edit_button, beside_button, message_picture, shown_file_picture, file_mask, mask_row, pinned_header, pinned_mask, pinned_picture, one_file_picture, files_picture, no_files_picture, document_picture, button_row_picture}
use Rattle.scm_widgets.specs.Pictures.{button_picture, blank_rest}
use Rattle.scm_document.specs.Strips.{file_strips, is_over, files_strips, message_strips, no_files_gap, files_layer, document_layers}
use Rattle.scm_document.specs.DocumentRows.{rows_layers}
use Rattle.scm_widgets.proofs.DrawsStrips.{box-followed, box-part}
use Rattle.scm_widgets.proofs.MenuLemmas.{not-empty, in-nothing}
use Rattle.scm_document.proofs.StripLemmas.{under-open, length-file_strips}
use Rattle.scm_document.proofs.BoxLemmas.{box-none, box-span, box-line, span-in, text-in, row-spans, blank-spans}
use Rattle.scm_document.proofs.DocumentLemmas.{over-below, length-message}
use Rattle.scm_document.proofs.FileBoxLemmas.{file-span}
use Rattle.scm_document.proofs.DocumentOwnerLemmas.{document_part}
use Rattle.scm_document.proofs.WindowLemmas.{body_sight, open-below, row-below, reach-below}
use Rattle.scm_document.proofs.RunLemmas.{Runs, runs_more, runs_as, runs_of, lowest, highest}

-- ---- messages

-- within rows that lie around these
in-around : (r : Rect) (y k : ℤ) (n m : ℕ) (l : ℤ) → y ≤ℤ k → (k +ℤ pos n) ≤ℤ (y +ℤ pos m) → IsIn r k n l → IsIn r y m l
in-around r y k n m l p q h = record {
  top = λ a b. let t = h.top a b in omega (arith, ints, p, t);
  end = λ a b. let t = h.end a b in omega (arith, ints, q, t);
  left = h.left;
}

-- the first of three rows, a part within them, and the last of them
spans_around : (a r b : Rect) (y : ℤ) (w : ℕ) → 0 < w → Spans a y 1 (pos 0) w → IsIn r y 3 (pos 0) → Spans b (y +ℤ pos 2) 1 (pos 0) w → Spans (join a (join r b)) y 3 (pos 0) w
spans_around a r b y w some ha hr hb = go (empty_cases r)
  where
    p : is_empty a ≡ false
    p = spans_not_empty a y 1 (pos 0) w (omega arith) (omega (arith, ints, some)) ha

    q : is_empty b ≡ false
    q = spans_not_empty b (y +ℤ pos 2) 1 (pos 0) w (omega arith) (omega (arith, ints, some)) hb

    over : (c : Rect) → is_empty c ≡ false → y ≤ℤ c.y → end_y_of c ≡ y +ℤ pos 3 → c.x ≡ pos 0 → pos w ≤ℤ end_x_of c → Spans (join a c) y 3 (pos 0) w
    over c n t e l k =
        let ex = join-x a c p n in
        let ey = join-y a c p n in
        let fx = join-end_x a c p n in
        let fy = join-end_y a c p n in
        record {
          top = omega (arith, ints, clamps, ey, ha.top, t);
          rows = omega (arith, ints, clamps, ey, fy, ha.top, ha.rows, t, e);
          left = rw (ex, ha.left, l) refl;
          right = rw fx (omega (arith, ints, clamps, ha.right));
        }

    go : (is_empty r ≡ true) ⊎ ((is_empty r ≡ false) × (0 < r.width) × (0 < r.height)) → Spans (join a (join r b)) y 3 (pos 0) w
    go (inl e) = rw (join_empty_left r b e q) (over b q (omega (arith, ints, hb.top)) (omega (arith, ints, hb.top, hb.rows)) hb.left hb.right)
    go (inr n) =
        let ex = join-x r b n.0 q in
        let ey = join-y r b n.0 q in
        let fx = join-end_x r b n.0 q in
        let fy = join-end_y r b n.0 q in
        let t = hr.top n.1 n.2 in
        let e = hr.end n.1 n.2 in
        let l = hr.left n.1 n.2 in
        let left : (join r b).x ≡ pos 0 = omega (arith, ints, clamps, ex, hb.left, l) in
        let top : y ≤ℤ (join r b).y = omega (arith, ints, clamps, ey, hb.top, t) in
        let below : (join r b).y ≤ℤ (y +ℤ pos 2) = omega (arith, ints, clamps, ey, hb.top) in
        let end : end_y_of (join r b) ≡ y +ℤ pos 3 = omega (arith, ints, clamps, fy, hb.top, hb.rows, e) in
        let right : pos w ≤ℤ end_x_of (join r b) = rw fx (omega (arith, ints, clamps, hb.right)) in
        over (join r b) (not_empty (join r b) (omega (arith, ints, left, right, some)) (omega (arith, ints, below, end))) top end left right

-- the message's box has all columns of its three rows
pub message-span : (commit : ℕ) (message : List ℕ) (s : Sight) (w : ℕ) (y : ℤ) → 10 ≤ w → IsOpen s w → Spans (box_rect (message_picture commit (Some message) s (pos 0) y)) y 3 (pos 0) w
unfolding message_picture button_row_picture beside_button button_picture
message-span commit message s w y fits o =
    let upper = blank_rest s (pos 0) y in
    let lower = blank_rest s (pos 0) (y +ℤ pos 2) in
    let button = span_picture {K = ComponentId} s (pos 0) (y +ℤ pos 1) (button_text (edit_button commit)) in
    let divider = span_picture {K = ComponentId} s (pos 15) (y +ℤ pos 1) divider_text in
    let text = text_picture {K = ComponentId} s (pos 19) (y +ℤ pos 1) (message_text message ∷ []) in
    rw (
      box-followed upper (followed_by (followed_by (part (edit_button commit).id button) (followed_by divider text)) lower),
      box-followed (followed_by (part (edit_button commit).id button) (followed_by divider text)) lower,
      box-followed (part (edit_button commit).id button) (followed_by divider text),
      box-followed divider text,
      box-part (edit_button commit).id button,
    )
    (spans_around _ _ _ y w (omega (arith, fits)) (blank-spans s w 0 y (omega (arith, fits)) o)
    (in-around _ y (y +ℤ pos 1) 1 3 (pos 0) (omega (arith, ints)) (omega (arith, ints))
    (in_more _ _ (y +ℤ pos 1) 1 (pos 0) (span-in s (pos 0) (y +ℤ pos 1) (pos 0) (button_text (edit_button commit)) (omega (arith, ints)))
    (in_more _ _ (y +ℤ pos 1) 1 (pos 0) (span-in s (pos 15) (y +ℤ pos 1) (pos 0) divider_text (omega (arith, ints)))
    (text-in s (pos 19) (y +ℤ pos 1) (pos 0) (message_text message ∷ []) (omega (arith, ints)) (omega (arith, ints, o.low, o.columns, fits))))))
    (blank-spans s w 0 (y +ℤ pos 2) (omega (arith, fits)) o))

-- ---- files

in-spans : (r : Rect) (y k : ℤ) (n : ℕ) (w : ℕ) → y ≤ℤ k → k <ℤ (y +ℤ pos n) → Spans r k 1 (pos 0) w → IsIn r y n (pos 0)
in-spans r y k n w p q h = record {
  top = λ a b. omega (arith, ints, p, h.top);
  end = λ a b. omega (arith, ints, q, h.top, h.rows);
  left = λ a b. omega (arith, ints, h.left);
}

pinned-in : (f : ShownFile) (b : Bool) (s : Sight) (w m top n : ℕ) → (b ≡ true → (top < m) × (m < top + n)) → 10 ≤ w → IsOpen s w
    → IsIn (box_rect (if b then pinned_header f s (pos 0) (pos m) else nothing)) (pos top) n (pos 0)
pinned-in f true s w m top n within fits o =
    let k = within refl in
    in-spans _ (pos top) (pos m) n w (omega (arith, ints, k.0)) (omega (arith, ints, k.1))
    (row-spans (HeaderRow f.key f.heading) (under (pinned_mask s (pos 0) (pos m)) s) w (pos m) fits (under-open s w (pos m) (Some 1) o))
pinned-in f false s w m top n within fits o = rw box-none (in-nothing (pos top) n (pos 0))

over-above : (m top : ℕ) (f : ShownFile) → is_over m top f ≡ true → top < m
over-above m top f h = grind (arith, h)

some-rows : (f : ShownFile) → 0 < length (file_rows f)
unfolding file_rows
some-rows f = omega arith

one_file-span : (commit n : ℕ) (f : ShownFile) (s : Sight) (w m top : ℕ) → 10 ≤ w → IsOpen s w → mask_row s ≡ pos m → IsFileOf commit n f
    → Spans (box_rect (one_file_picture f s (pos 0) (pos top))) (pos top) (length (file_rows f)) (pos 0) w
unfolding one_file_picture pinned_picture
one_file-span commit n f s w m top fits o row e =
    let t = under (file_mask s (pos 0) (pos top)) s in
    let b = is_over m top f in
    let inner = shown_file_picture f t (pos 0) (pos top) in
    rw (row, box-followed (part (file_id f.key) inner) (if b then pinned_header f s (pos 0) (pos m) else nothing), box-part (file_id f.key) inner)
    (spans_in _ _ (pos top) (length (file_rows f)) (pos 0) w (some-rows f) (omega (arith, ints, fits))
    (file-span commit n f t w (pos top) fits (under-open s w (pos top) None o) e)
    (pinned-in f b s w m top (length (file_rows f)) (λ q. (over-above m top f q, over-below m top f q)) fits o))

spans-rows : (r : Rect) (y k : ℤ) (n m : ℕ) (l : ℤ) (w : ℕ) → y ≡ k → n ≡ m → Spans r y n l w → Spans r k m l w
spans-rows r y k n m l w p q h = rw (p, q) at h

any : (f : ShownFile) (fs : List ShownFile) → 0 < length (files_rows (f ∷ fs))
unfolding files_rows
any f fs = let a = length-append (file_rows f) (files_rows fs) in let b = some-rows f in omega (arith, a, b)

-- files one below another, each with all columns
files-span : (commit n : ℕ) (f : ShownFile) (fs : List ShownFile) (s : Sight) (w m top : ℕ) → 10 ≤ w → IsOpen s w → mask_row s ≡ pos m → AreFilesOf commit n (f ∷ fs)
    → Spans (box_rect (files_picture (f ∷ fs) s (pos 0) (pos top))) (pos top) (length (files_rows (f ∷ fs))) (pos 0) w
unfolding files_picture files_rows
files-span commit n f [] s w m top fits o row e =
    rw (box-followed (one_file_picture f s (pos 0) (pos top)) nothing, box-none, join_none (box_rect (one_file_picture f s (pos 0) (pos top))) no_rect refl, append-nil (file_rows f))
    (one_file-span commit n f s w m top fits o row e.0)
files-span commit n f (g ∷ fs) s w m top fits o row e =
    let below = top + length (file_rows f) in
    let first = one_file-span commit n f s w m top fits o row e.0 in
    let rest = files-span commit (suc f.key.file_idx) g fs s w m below fits o row e.1 in
    rw (box-followed (one_file_picture f s (pos 0) (pos top)) (files_picture (g ∷ fs) s (pos 0) (pos below)), length-append (file_rows f) (files_rows (g ∷ fs)))
    (spans_more _ _ (pos top) (length (file_rows f)) (length (files_rows (g ∷ fs))) (pos 0) (pos 0) w (some-rows f) (any g fs) (omega (arith, ints, fits)) (omega (arith, ints, fits)) first rest)

length-files_strips : (w m top : ℕ) (fs : List ShownFile) → length (files_strips w m top fs) ≡ length (files_rows fs)
unfolding files_strips files_rows
length-files_strips w m top [] = refl
length-files_strips w m top (f ∷ fs) =
    length-append (file_strips w (is_over m top f) f) (files_strips w m (top + length (file_rows f)) fs)
    ∙ ap₂ (λ a b. a + b) (length-file_strips w (is_over m top f) f) (length-files_strips w m (top + length (file_rows f)) fs)
    ∙ sym (length-append (file_rows f) (files_rows fs))

-- ---- the words that there are no files

words-columns : texts_width (no_files_text ∷ []) ≡ 29
unfolding texts_width
words-columns = rw (text_width-printable no_files_text refl) refl

row-runs : (c : ℤ) (y n : ℕ) → 0 < n → Runs (join no_rect (row_rect c (pos y) n)) (pos y) (pos (y + 1))
row-runs c y n some = rw (not-empty c (pos y) n some) (record { some = is_empty-in (row_rect c (pos y) n) some (omega arith); top = refl; end = refl })

same-run : (a b : Rect) (y z : ℤ) → Runs a y z → Runs b y z → Runs (join a b) y z
same-run a b y z p q = runs_as _ (int_min y y) (int_max z z) y z (omega (arith, ints, clamps)) (omega (arith, ints, clamps)) (runs_more a b y z y z p q)

words-run : (s : Sight) (x : ℤ) (y : ℕ) → Runs (box_rect (text_picture {K = ComponentId} s x (pos y) (no_files_text ∷ []))) (pos y) (pos (y + 1))
unfolding text_picture
words-run s x y = rw (box-followed (line_picture {K = ComponentId} s x (pos y) (no_files_text ∷ [])) _) (go (int_lt (end_x_of (reach s)) (x +ℤ pos (texts_width (no_files_text ∷ [])))))
  where
    first : Runs (box_rect (line_picture {K = ComponentId} s x (pos y) (no_files_text ∷ []))) (pos y) (pos (y + 1))
    first = rw (box-line s x (pos y) (no_files_text ∷ [])) (row-runs x y (texts_width (no_files_text ∷ [])) (omega (arith, words-columns)))

    go : (b : Bool) → Runs (join (box_rect (line_picture {K = ComponentId} s x (pos y) (no_files_text ∷ []))) (box_rect (if b then span_picture {K = ComponentId} s (end_x_of (reach s) -ℤ pos 1) (pos y) ellipsis else nothing))) (pos y) (pos (y + 1))
    go true = same-run _ _ (pos y) (pos (y + 1)) first (rw (box-span s (end_x_of (reach s) -ℤ pos 1) (pos y) ellipsis) (row-runs (end_x_of (reach s) -ℤ pos 1) y (text_width ellipsis) (omega (arith, width-ellipsis))))
    go false = rw (box-none, join_none (box_rect (line_picture {K = ComponentId} s x (pos y) (no_files_text ∷ []))) no_rect refl) first

no_files-run : (s : Sight) (h top : ℕ) → (reach s).height ≡ h → h ≤ 65535 → Runs (box_rect (no_files_picture s (pos 0) (pos top))) (pos (top + no_files_gap h)) (pos (top + no_files_gap h + 1))
unfolding no_files_picture centred_rect
no_files-run s h top high q =
    let height : min (reach s).height 65535 ≡ h = omega (arith, high, q) in
    let row : pos top +ℤ (pos 0 +ℤ pos (centred_gap (min (reach s).height 65535) 1 50)) ≡ pos (top + no_files_gap h) = ap (λ k. pos top +ℤ (pos 0 +ℤ pos (centred_gap k 1 50))) height ∙ sum-of top (no_files_gap h) in
    rw row (words-run s (pos 0 +ℤ (pos 0 +ℤ pos (centred_gap (min (reach s).width 65535) 29 50))) (top + no_files_gap h))
  where
    sum-of : (n g : ℕ) → pos n +ℤ (pos 0 +ℤ pos g) ≡ pos (n + g)
    sum-of n g = omega (arith, ints)

-- ---- documents

-- with another run of rows, as the least run around both
runs-with : (m r : Rect) (y z a b : ℕ) → Runs m (pos y) (pos z) → Runs r (pos a) (pos b) → Runs (join m r) (pos (min a y)) (pos (max b z))
runs-with m r y z a b p q = runs_as _ (int_min (pos y) (pos a)) (int_max (pos z) (pos b)) (pos (min a y)) (pos (max b z)) (omega (arith, ints, clamps)) (omega (arith, ints, clamps)) (runs_more m r (pos y) (pos z) (pos a) (pos b) p q)

no-message : (commit : ℕ) (s : Sight) (y : ℤ) → box_rect (message_picture commit None s (pos 0) y) ≡ no_rect
unfolding message_picture
no-message commit s y = box-none

-- the message's box, and one below it that has all columns
below-message : (commit : ℕ) (message : Option (List ℕ)) (s : Sight) (w top n : ℕ) (r : Rect) → 10 ≤ w → IsOpen s w → 0 < n → Spans r (pos (top + message_height message)) n (pos 0) w
    → Spans (join (box_rect (message_picture commit message s (pos 0) (pos top))) r) (pos top) (message_height message + n) (pos 0) w
below-message commit None s w top n r fits o some h =
    rw (no-message commit s (pos top), join_empty_left no_rect r refl (spans_not_empty r (pos (top + 0)) n (pos 0) w some (omega (arith, ints, fits)) h))
    (spans-rows r (pos (top + 0)) (pos top) n (0 + n) (pos 0) w (ap pos (omega arith)) (omega arith) h)
below-message commit (Some message) s w top n r fits o some h =
    spans_more _ r (pos top) 3 n (pos 0) (pos 0) w (omega arith) some (omega (arith, ints, fits)) (omega (arith, ints, fits)) (message-span commit message s w (pos top) fits o) h

-- the row below the last of a message and files
last-row : (w m top commit : ℕ) (message : Option (List ℕ)) (fs : List ShownFile)
    → top + (message_height message + length (files_rows fs)) ≡ end_of (files_layer w m top (record { commit = commit; message = message; files = fs }))
last-row w m top commit message fs =
    let above = message_strips w commit message in
    let rest = files_strips w m (top + length above) fs in
    ap (λ n. top + n) (sym (length-append above rest ∙ ap₂ (λ a b. a + b) (length-message w commit message) (length-files_strips w m (top + length above) fs)))

message-run : (commit : ℕ) (message : List ℕ) (s : Sight) (w top : ℕ) → 10 ≤ w → IsOpen s w → Runs (box_rect (message_picture commit (Some message) s (pos 0) (pos top))) (pos top) (pos (top + 3))
message-run commit message s w top fits o = runs_of _ (pos top) 3 (pos 0) w (omega arith) (omega (arith, ints, fits)) (message-span commit message s w (pos top) fits o)

body-run : (commit : ℕ) (message : Option (List ℕ)) (fs : List ShownFile) (s : Sight) (w h m top : ℕ) → 10 ≤ w → IsOpen s w → (reach s).height ≡ h → h ≤ 65535 → mask_row s ≡ pos m → AreFilesOf commit 0 fs
    → (r : Rect) (a b : ℕ) → Runs r (pos a) (pos b)
    → Runs (join (box_rect (document_picture (record { commit = commit; message = message; files = fs }) s (pos 0) (pos top))) r)
    (pos (lowest a (document_layers w h m top (record { commit = commit; message = message; files = fs })))) (pos (highest b (document_layers w h m top (record { commit = commit; message = message; files = fs }))))
unfolding document_picture
body-run commit None [] s w h m top fits o high q row e r a b run =
    let words = no_files-run s h top high q in
    rw (
      box-followed (part ids.CommitMessageView (message_picture commit None s (pos 0) (pos top))) (no_files_picture s (pos 0) (pos top)),
      box-part ids.CommitMessageView (message_picture commit None s (pos 0) (pos top)),
      no-message commit s (pos top),
      join_empty_left no_rect (box_rect (no_files_picture s (pos 0) (pos top))) refl words.some,
    )
    (runs-with _ r (top + no_files_gap h) (top + no_files_gap h + 1) a b words run)
body-run commit (Some message) [] s w h m top fits o high q row e r a b run =
    let words = no_files-run s h top high q in
    let said = message-run commit message s w top fits o in
    let c = top + no_files_gap h in
    let both = runs-with _ _ top (top + 3) c (c + 1) said words in
    let three : length (message_strips w commit (Some message)) ≡ 3 = length-message w commit (Some message) in
    rw (
      box-followed (part ids.CommitMessageView (message_picture commit (Some message) s (pos 0) (pos top))) (no_files_picture s (pos 0) (pos top)),
      box-part ids.CommitMessageView (message_picture commit (Some message) s (pos 0) (pos top)),
    )
    (runs_as _ _ _ _ _ (ap pos (least c)) (ap pos (rw three (most c))) (runs-with _ r (min c top) (max (c + 1) (top + 3)) a b both run))
  where
    least : (c : ℕ) → min a (min c top) ≡ min (min a top) c
    least c = omega arith

    most : (c : ℕ) → max b (max (c + 1) (top + 3)) ≡ max (max b (top + 3)) (c + 1)
    most c = omega arith
body-run commit message (f ∷ fs) s w h m top fits o high q row e r a b run =
    let n = length (files_rows (f ∷ fs)) in
    let k = message_height message in
    let some : (length (f ∷ fs) == 0) ≡ false = grind arith in
    let files = files-span commit 0 f fs s w m (top + k) fits o row e in
    let all = below-message commit message s w top n _ fits o (any f fs) files in
    let own = runs_of _ (pos top) (k + n) (pos 0) w (omega (arith, any f fs)) (omega (arith, ints, fits)) all in
    rw (
      some,
      box-followed (part ids.CommitMessageView (message_picture commit message s (pos 0) (pos top))) (files_picture (f ∷ fs) s (pos 0) (pos (top + k))),
      box-part ids.CommitMessageView (message_picture commit message s (pos 0) (pos top)),
    )
    (runs_as _ _ _ _ _ refl (ap (λ j. pos (max b j)) (last-row w m top commit message (f ∷ fs))) (runs-with _ r top (top + (k + n)) a b own run))

pub body-runs : (d : Document) (w h s : ℕ) → 10 ≤ w → h ≤ 65535 → HasItsIds d
    → (r : Rect) (a b : ℕ) → Runs r (pos a) (pos b) → Runs (join (box_rect (document_part d w h s)) r) (pos (lowest a (rows_layers w h s d))) (pos (highest b (rows_layers w h s d)))
body-runs d w h s fits q e r a b run =
    rw (box-part ids.AppFiles (document_picture d (body_sight w h s) (pos 0) (pos 1)))
    (body-run d.commit d.message d.files (body_sight w h s) w (h - 1) (s + 1) 1 fits (open-below w h s) (ap (λ (k : Rect). k.height) (reach-below w h s)) (omega (arith, q)) (row-below w h s) e r a b run)
