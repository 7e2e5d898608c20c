-- Painting all that is shown on a cleared screen leaves the window.
use Rattle.std.proofs.Common.{◌≡◌, ℕ, zero, suc, ◌+◌, ◌-◌, ◌<◌, ◌≤◌, true, List, [], ◌∷◌, ◌++◌, length, replicate, refl, sym, ap, ap₂, subst, ◌∙◌, arith, ⊎_elim}
use Rattle.std.specs.Prelude.{pos, ◌+ℤ◌, int_le, int_lt}
use Rattle.std.proofs.lemmas.Int.{ints}
use Rattle.std.proofs.lemmas.Bool.{cases_lt}
use Rattle.std.proofs.lemmas.List.{length-replicate}
use Rattle.scm_cells.specs.declared.rect.Rect.{Rect}
use Rattle.scm_cells.proofs.SpaceLemmas.{put-spaces_whole}
use Rattle.scm_render.specs.Canvas.{Row, paint, paint_rows}
use Rattle.scm_render.specs.Picture.{Picture, followed_by, part}
use Rattle.scm_render.specs.Drawing.{reach, has_row}
use Rattle.scm_render.proofs.PaintLemmas.{paint-append}
use Rattle.scm_render.proofs.LineLemmas.{line-below}
use Rattle.scm_widgets.specs.declared.ids.ComponentId.{ComponentId}
use Rattle.scm_widgets.specs.declared.ids.ComponentId.TheVariants as ids
use Rattle.scm_view.specs.declared.app_view.AppView.{AppView}
use Rattle.scm_overlay.specs.declared.menu_bar.MenuBar.{MenuBar}
use Rattle.scm_document.specs.Rows.{Document}
use Rattle.scm_document.specs.Pictures.{document_picture, commit_picture}
use Rattle.scm_view.specs.ViewState.{ViewState, commit_view_of}
use Rattle.scm_widgets.specs.Blanks.{blank_row, blanked}
use Rattle.scm_widgets.specs.Layers.{Strip, Layer, clear, strip_at, shown_by}
use Rattle.scm_document.specs.Strips.{pinned_layer}
use Rattle.scm_overlay.specs.Menus.{headers_strip, menu_layer}
use Rattle.scm_overlay.specs.Tables.{menus_with}
use Rattle.scm_overlay.specs.Overlays.{quit_layers, help_layers, overlays}
use Rattle.scm_overlay.proofs.OverlaysPicture.{overlays_picture}
use Rattle.scm_widgets.specs.Screens.{screen, sight}
use Rattle.scm_widgets.specs.Clicks.{is_clickable}
use Rattle.scm_view.specs.AppView.{app_view_of, app_picture}
use Rattle.scm_view.specs.Window.{inline_document, body_layers, layers, rows_from, window, IsPlain, AppsShowWindows}
use Rattle.scm_document.specs.DocumentRows.{rows_layers}
use Rattle.scm_view.proofs.AppShapeLemmas.{app-inline}
use Rattle.scm_view.proofs.AlikeLemmas.{app-alike, view-shows}
use Rattle.scm_widgets.proofs.DrawsStrips.{length-paint}
use Rattle.scm_document.proofs.DocumentLemmas.{commits-painted}
use Rattle.scm_document.proofs.KeepLemmas.{document-keeps}
use Rattle.scm_overlay.proofs.OverlayLemmas.{shown-append, overlays_draw, bar_at}
use Rattle.scm_widgets.proofs.SameLemmas.{same_component, same_component-lawful}
use Rattle.scm_document.proofs.WindowLemmas.{body_sight, reach-below, open-below, row-below}

abbrev pub body_drawn : ℕ → ℕ → ℕ → ViewState → Picture ComponentId
body_drawn w h s shown = document_picture (inline_document shown) (body_sight w h s) (pos 0) (pos 1)

abbrev pub over_drawn : ℕ → ℕ → ℕ → ViewState → Picture ComponentId
over_drawn w h s shown = overlays_picture w h s shown.open_menu shown.quit_dialog shown.is_help_open

pub app-is : (shown : ViewState) (a : AppView) (w h s : ℕ) → IsPlain a shown w h
    → app_picture a (sight w h s) (pos 0) (pos 0) ≡ followed_by (part ids.AppFiles (body_drawn w h s shown)) (over_drawn w h s shown)
unfolding commit_picture
app-is shown a w h s plain =
    app-alike shown a (sight w h s) (pos 0) (pos 0) plain.shows
    ∙ app-inline (app_view_of shown) shown (commit_view_of shown 0) (commit_view_of shown 1 ∷ []) w h s (pos 0) (view-shows shown) plain.view_mode refl

pub has_row-below : (w h s z : ℕ) → s < z → z < s + h → has_row (reach (body_sight w h s)) (pos z) ≡ true
has_row-below w h s z a b =
    let p : int_le (pos (s + 1)) (pos z) ≡ true = grind (arith, ints) in
    let q : int_lt (pos z) (pos (s + 1) +ℤ pos (h - 1)) ≡ true = grind (arith, ints) in
    rw (reach-below w h s, p, q) refl

-- each row below the menu bar becomes what the document and its pinned header say
body-paints : (shown : ViewState) (w h s z : ℕ) (row : Row) → 10 ≤ w → w ≤ 65535 → h ≤ 65535 → s < z → z < s + h
    → paint (screen w h s) (body_drawn w h s shown).puts (pos z) row ≡ shown_by (body_layers w h s (inline_document shown)) z row
unfolding commit_picture
body-paints shown w h s z row fits p q a b =
    commits-painted (commit_view_of shown 0) (body_sight w h s) w (h - 1) (s + 1) 1 fits p (omega (arith, q)) (open-below w h s) (ap (λ (r : Rect). r.height) (reach-below w h s)) (row-below w h s) z row
    (has_row-below w h s z a b)

-- ---- the screen's first row: the menu bar hides what stands under it

blanked-whole : (w : ℕ) (row : Row) → length row ≡ w → blanked 0 w row ≡ blank_row w
blanked-whole w row e =
    let all : w - 0 ≡ w = omega arith in
    rw all (put-spaces_whole row w e)

pub hides : (w s : ℕ) (bar : MenuBar) (ls : List (Layer ComponentId)) (a b : Row) → length a ≡ w → length b ≡ w → shown_by (menu_layer w s bar ∷ ls) s a ≡ shown_by (menu_layer w s bar ∷ ls) s b
unfolding shown_by
hides w s bar ls a b p q =
    ap (shown_by ls s) (bar_at w s bar a ∙ ap (headers_strip w 0 0 bar.menus).shows (blanked-whole w a p ∙ sym (blanked-whole w b q)) ∙ sym (bar_at w s bar b))

no_pinned : (w s : ℕ) (d : Document) → strip_at s (pinned_layer w (s + 1) 1 d) ≡ clear
no_pinned w s d = line-below clear (pinned_layer w (s + 1) 1 d).strips (pos (s + 1)) (pos s) (omega (arith, ints))

-- no header is pinned there, and the document's strips keep a row's length
pub first-keeps : (w h s : ℕ) (d : Document) (row : Row) → length row ≡ w → length (shown_by (body_layers w h s d) s row) ≡ w
unfolding shown_by
first-keeps w h s d row e =
    ap length (shown-append same_component is_clickable (rows_layers w h s d) (pinned_layer w (s + 1) 1 d ∷ []) s row
    ∙ ap (λ (k : Strip ComponentId). k.shows (shown_by (rows_layers w h s d) s row)) (no_pinned w s d))
    ∙ document-keeps w (h - 1) (s + 1) 1 s d row e

-- ---- each row

pub on_screen : (w h s z : ℕ) → s ≤ z → z < s + h → has_row (screen w h s) (pos z) ≡ true
on_screen w h s z a b =
    let p : int_le (pos s) (pos z) ≡ true = grind (arith, ints) in
    let q : int_lt (pos z) (pos s +ℤ pos h) ≡ true = grind (arith, ints) in
    rw (p, q) refl

pub blank-length : (w : ℕ) → length (blank_row w) ≡ w
blank-length w = length-replicate w _

abbrev over_layers : ℕ → ℕ → ℕ → ViewState → List (Layer ComponentId)
over_layers w h s shown = overlays w h s shown.open_menu shown.quit_dialog shown.is_help_open

abbrev RowIs : ℕ → ℕ → ℕ → ViewState → ℕ → Type 0
RowIs w h s shown z =
    paint (screen w h s) ((body_drawn w h s shown).puts ++ (over_drawn w h s shown).puts) (pos z) (blank_row w) ≡ shown_by (layers w h s shown) z (blank_row w)

-- what lies over the document, over what the document drew
over_it : (w h s z : ℕ) (shown : ViewState) → 2 ≤ w → 2 ≤ h → s ≤ z → z < s + h
    → paint (screen w h s) ((body_drawn w h s shown).puts ++ (over_drawn w h s shown).puts) (pos z) (blank_row w)
    ≡ shown_by (over_layers w h s shown) z (paint (screen w h s) (body_drawn w h s shown).puts (pos z) (blank_row w))
over_it w h s z shown wide high a b =
    let under_it = paint (screen w h s) (body_drawn w h s shown).puts (pos z) (blank_row w) in
    let drawn = overlays_draw same_component same_component-lawful w h s shown.open_menu shown.quit_dialog shown.is_help_open wide high in
    paint-append (screen w h s) (body_drawn w h s shown).puts (over_drawn w h s shown).puts (pos z) (blank_row w)
    ∙ drawn.paints z under_it (on_screen w h s z a b) (length-paint (screen w h s) (body_drawn w h s shown).puts (pos z) (blank_row w) (blank-length w))

both : (w h s z : ℕ) (shown : ViewState) (row : Row) → shown_by (over_layers w h s shown) z (shown_by (body_layers w h s (inline_document shown)) z row) ≡ shown_by (layers w h s shown) z row
both w h s z shown row = sym (shown-append same_component is_clickable (body_layers w h s (inline_document shown)) (over_layers w h s shown) z row)

row_below : (shown : ViewState) (w h s z : ℕ) → 10 ≤ w → 2 ≤ h → w ≤ 65535 → h ≤ 65535 → s < z → z < s + h → RowIs w h s shown z
row_below shown w h s z wide high p q a b =
    over_it w h s z shown (omega (arith, wide)) high (omega (arith, a)) b
    ∙ ap (shown_by (over_layers w h s shown) z) (body-paints shown w h s z (blank_row w) wide p q a b)
    ∙ both w h s z shown (blank_row w)

row_first : (shown : ViewState) (w h s : ℕ) → 10 ≤ w → 2 ≤ h → RowIs w h s shown s
row_first shown w h s wide high =
    over_it w h s s shown (omega (arith, wide)) high (omega arith) (omega (arith, high))
    ∙ hides w s (menus_with shown.open_menu) (quit_layers w h s shown.quit_dialog ++ help_layers w h s shown.is_help_open) _ _
    (length-paint (screen w h s) (body_drawn w h s shown).puts (pos s) (blank_row w) (blank-length w)) (first-keeps w h s (inline_document shown) (blank_row w) (blank-length w))
    ∙ both w h s s shown (blank_row w)

row_is : (shown : ViewState) (w h s z : ℕ) → 10 ≤ w → 2 ≤ h → w ≤ 65535 → h ≤ 65535 → s ≤ z → z < s + h → RowIs w h s shown z
row_is shown w h s z wide high p q a b =
    ⊎_elim (λ (c : s < z). row_below shown w h s z wide high p q c b)
    (λ (c : z ≤ s). let here : s ≡ z = omega (arith, a, c) in subst (λ y. RowIs w h s shown y) here (row_first shown w h s wide high))
    (cases_lt s z)

rows_are : (shown : ViewState) (w h s z n : ℕ) → 10 ≤ w → 2 ≤ h → w ≤ 65535 → h ≤ 65535 → s ≤ z → z + n ≤ s + h
    → paint_rows (screen w h s) ((body_drawn w h s shown).puts ++ (over_drawn w h s shown).puts) (pos z) (replicate n (blank_row w)) ≡ rows_from w (layers w h s shown) z n
unfolding paint_rows rows_from
rows_are shown w h s z zero wide high p q a b = refl
rows_are shown w h s z (suc n) wide high p q a b =
    let next : pos z +ℤ pos 1 ≡ pos (suc z) = omega (arith, ints) in
    ap₂ (λ r rs. r ∷ rs) (row_is shown w h s z wide high p q a (omega (arith, b)))
    (ap (λ y. paint_rows (screen w h s) ((body_drawn w h s shown).puts ++ (over_drawn w h s shown).puts) y (replicate n (blank_row w))) next
    ∙ rows_are shown w h s (suc z) n wide high p q (omega (arith, a)) (omega (arith, b)))

pub shows-window : AppsShowWindows
unfolding part followed_by window
shows-window shown a w h s plain =
    ap (λ (m : Picture ComponentId). paint_rows (screen w h s) m.puts (pos s) (replicate h (blank_row w))) (app-is shown a w h s plain)
    ∙ rows_are shown w h s s h plain.wide plain.high plain.width plain.height (omega arith) (omega arith)
