-- The status row shows the same of the selected item and of its end.
use Rattle.std.proofs.Common.{◌≡◌, ℕ, ◌+◌, ◌-◌, ◌≤◌, min, List, [], ◌∷◌, refl, sym, ap, subst, ◌∙◌, arith, inl, ⊎_elim}
use Rattle.std.specs.Prelude.{if◌then◌else◌, codes, ◌++◌, pos, ◌-ℤ◌, ℤ, slice_index_or, slice_set}
use Rattle.scm_cells.specs.Cell.{Cell}
use Rattle.scm_cells.specs.Clusters.{text_width}
use Rattle.scm_cells.specs.Row.{put}
use Rattle.scm_cells.specs.Screen.{Screen, blank_screen, put_on}
use Rattle.scm_terminal.specs.StyledCell.{StyledCell, picture}
use Rattle.scm_record.specs.Marked.{checked_lines}
use Rattle.scm_selection.specs.Counts.{changed_count}
use Rattle.scm_front.specs.declared.layer.Front.{Front}
use Rattle.scm_front_paint.specs.Capped.{capped}
use Rattle.scm_front_paint.specs.LineEnds.{IsShownEnd, ShowsEnd}
use Rattle.scm_front_paint.specs.declared.status.LeftKind.{LeftKind}
use Rattle.scm_front_paint.specs.declared.status.LeftKind.TheVariants.{Typed, Said, Item}
use Rattle.scm_front_paint.specs.declared.status.LeftText.{LeftText}
use Rattle.scm_front_paint.specs.Status.{ShowsLeft, ShowsText, columns_before, fit_or, is_item, left_column, on_left, right_of, right_text, said_or, status_picture, status_screen, status_style, tail_column}
use Rattle.scm_front_paint.proofs.PutEndLemmas.{end-width, put-end}

-- ---- what is shown on the left

text-same : (kind : LeftKind) (columns : ℕ) (text : List ℕ) → ShowsText kind columns text text
text-same Typed columns text = refl
text-same Said columns text = refl
text-same Item columns text = inl refl

pub left_same : (columns : ℕ) (l whole : LeftText) → l ≡ whole → ShowsLeft columns l whole
left_same columns l whole e = subst (λ (m : LeftText). ShowsLeft columns l m) e (record { kind = refl; text = text-same l.kind columns l.text })

-- nothing is said: the end of the item stands for the item
pub item_shown : (columns : ℕ) (said text item : List ℕ) (l : LeftText) → said ≡ [] → l ≡ on_left Item text → ShowsEnd columns text item
    → ShowsLeft columns l (said_or said item)
item_shown columns said text item l none is shows =
    subst (λ (s : List ℕ). ShowsLeft columns l (said_or s item)) (sym none)
    (subst (λ (m : LeftText). ShowsLeft columns m (on_left Item item)) (sym is) (record { kind = refl; text = shows }))

-- ---- columns and rows

before-text : (kind : LeftKind) (columns : ℕ) (text whole : List ℕ) → ShowsText kind columns text whole
    → (if is_item kind then 0 else text_width text) ≡ (if is_item kind then 0 else text_width whole)
before-text Typed columns text whole e = ap text_width e
before-text Said columns text whole e = ap text_width e
before-text Item columns text whole e = refl

before-same : (columns : ℕ) (l whole : LeftText) → ShowsLeft columns l whole → columns_before l ≡ columns_before whole
before-same columns l whole s = ap (λ (k : LeftKind). if is_item k then 0 else text_width l.text) s.kind ∙ before-text whole.kind columns l.text whole.text s.text

-- so the right side has the same room
pub right-same : (columns : ℕ) (l whole : LeftText) (f : Front) (width x : ℕ) (accept : List ℕ) → ShowsLeft columns l whole
    → right_of f width l x accept ≡ right_of f width whole x accept
right-same columns l whole f width x accept s =
    ap
    (λ (n : ℕ).
    if f.beneath.session.shown.is_help_open then fit_or (width - n) (codes "  " ++ accept) []
    else right_text (width - n) x (capped (checked_lines f.beneath.session.shown.state.files)) (changed_count f.beneath.session.shown.state) accept)
    (before-same columns l whole s)

-- the row with a text on the left
abbrev left_put : LeftKind → List Cell → List ℕ → ℕ → List Cell
left_put kind row text room = put row (left_column kind (text_width text - room)) text 0 room

put-shown : (kind : LeftKind) (columns room : ℕ) (row : List Cell) (text whole : List ℕ) → room ≤ columns → ShowsText kind columns text whole
    → left_put kind row text room ≡ left_put kind row whole room
put-shown Typed columns room row text whole fits e = ap (λ (t : List ℕ). left_put Typed row t room) e
put-shown Said columns room row text whole fits e = ap (λ (t : List ℕ). left_put Said row t room) e
put-shown Item columns room row text whole fits shows = ⊎_elim (λ e. ap (λ (t : List ℕ). left_put Item row t room) e) short shows
  where
    at : List ℕ → ℤ
    at t = pos 0 -ℤ pos (text_width t - room)

    short : IsShownEnd columns text whole → left_put Item row text room ≡ left_put Item row whole room
    short s =
        let narrow = s.narrow in
        let wide = s.wide in
        let sum = end-width s.front text whole s.clusters_are in
        let long : min (text_width whole - room) 1000000000 ≡ text_width whole - room = omega (arith, narrow) in
        let less : min (text_width text - room) 1000000000 ≡ text_width text - room = omega (arith, narrow, sum) in
        ap (λ (n : ℕ). put row (pos 0 -ℤ pos n) text 0 room) less
        ∙ sym (put-end row s.front text whole room s.clusters_are (omega (arith, wide, fits)))
        ∙ sym (ap (λ (n : ℕ). put row (pos 0 -ℤ pos n) whole 0 room) long)

-- so the screens of the status row are the same
pub screen-same : (columns width height : ℕ) (l whole : LeftText) (right : List ℕ) → width ≤ columns → ShowsLeft columns l whole
    → status_screen width height l right ≡ status_screen width height whole right
screen-same columns width height l whole right fits s =
    let room = width - text_width right in
    let blanks = blank_screen width (height + 1) in
    let row = slice_index_or blanks.rows height [] in
    let narrow : room ≤ columns = omega (arith, fits) in
    let cells = ap (λ (k : LeftKind). left_put k row l.text room) s.kind ∙ put-shown whole.kind columns room row l.text whole.text narrow s.text in
    ap (λ (cs : List Cell). put_on (record blanks { rows = slice_set blanks.rows height cs }) height (pos room) right 0 width) cells

pub picture-same : (columns width height : ℕ) (l whole : LeftText) (right : List ℕ) → width ≤ columns → ShowsLeft columns l whole
    → status_picture width height l right ≡ status_picture width height whole right
picture-same columns width height l whole right fits s = ap (picture (status_style height)) (screen-same columns width height l whole right fits s)
