-- Painting all that is shown of two commits on a cleared screen leaves their window.
use Rattle.std.proofs.Common.{◌≡◌, ℕ, zero, suc, ◌+◌, ◌-◌, ◌<◌, ◌≤◌, min, List, [], ◌∷◌, ◌++◌, length, replicate, take, refl, sym, ap, ap₂, subst, ◌∙◌, arith, ⊎_elim}
use Rattle.std.specs.Prelude.{Bool, true, false, pos, ◌+ℤ◌, ◌-ℤ◌, if◌then◌else◌}
use Rattle.std.specs.Int.{int_min, int_max}
use Rattle.std.proofs.lemmas.Bool.{cases_lt}
use Rattle.std.proofs.lemmas.Int.{ints}
use Rattle.scm_cells.specs.declared.mask.Mask.{Mask}
use Rattle.scm_cells.specs.Mask.{apply_of}
use Rattle.scm_cells.specs.Rect.{or_zero}
use Rattle.scm_cells.proofs.RectLemmas.{places}
use Rattle.scm_render.specs.Canvas.{Row, Sight, paint, paint_rows, under}
use Rattle.scm_render.specs.Picture.{Picture, Put, box_rect, followed_by, part}
use Rattle.scm_render.proofs.PaintLemmas.{paint-append}
use Rattle.scm_widgets.specs.declared.ids.ComponentId.{ComponentId}
use Rattle.scm_widgets.specs.declared.ids.ComponentId.TheVariants as ids
use Rattle.scm_widgets.specs.Blanks.{blank_row}
use Rattle.scm_widgets.specs.Clicks.{is_clickable}
use Rattle.scm_widgets.specs.Layers.{Layer, shown_by}
use Rattle.scm_widgets.specs.Screens.{screen, sight}
use Rattle.scm_widgets.proofs.DrawsStrips.{length-paint}
use Rattle.scm_widgets.proofs.SameLemmas.{same_component, same_component-lawful}
use Rattle.scm_document.specs.declared.commit_view.CommitView.{CommitView}
use Rattle.scm_document.specs.declared.commit_view.CommitViewMode.{CommitViewMode}
use Rattle.scm_document.specs.declared.commit_view.CommitViewMode.TheVariants.{Adjacent}
use Rattle.scm_document.specs.Pictures.{commit_picture, document_picture}
use Rattle.scm_document.specs.Rows.{Document, document_of}
use Rattle.scm_document.specs.ViewColumns.{next_view, view_count, view_mask, view_picture, view_width}
use Rattle.scm_document.proofs.RowsLemmas.{followed-nothing}
use Rattle.scm_overlay.specs.Overlays.{quit_layers, help_layers, overlays}
use Rattle.scm_overlay.specs.Tables.{menus_with}
use Rattle.scm_overlay.proofs.OverlayLemmas.{overlays_draw, shown-append}
use Rattle.scm_overlay.proofs.OverlaysPicture.{overlays_picture}
use Rattle.scm_strips.specs.declared.area.Area.{Area}
use Rattle.scm_strips.specs.AreaStrips.{area_layers}
use Rattle.scm_strips.specs.Shows.{end_column, whole}
use Rattle.scm_view.specs.declared.app_view.AppView.{AppView}
use Rattle.scm_view.specs.AppView.{app_picture, has_help, help_dialog_if_open, views_picture}
use Rattle.scm_view.specs.ViewState.{ViewState, commit_view_of}
use Rattle.scm_view.specs.Window.{rows_from}
use Rattle.scm_view.proofs.AlikeLemmas.{app-alike, help-where}
use Rattle.scm_view.proofs.SessionLemmas.{session-ids}
use Rattle.scm_view.proofs.WindowLemmas.{blank-length, hides, on_screen}
use Rattle.scm_screen.specs.Beside.{document_at, documents_in, documents_layers, drawn_width, is_bare, layers_beside, second_area, window_beside}
use Rattle.scm_screen.specs.DocumentRows.{with_document}
use Rattle.scm_screen.specs.Laws.{RowsShowLayers}
use Rattle.scm_beside_laws.specs.Laws.{AppsShowWindowsBeside, IsBeside}
use Rattle.scm_beside_laws.proofs.DocumentPaintLemmas.{document-paints}
use Rattle.scm_beside_laws.proofs.DrawnWidthLemmas.{document-width}
use Rattle.scm_beside_laws.proofs.LengthLemmas.{document-keeps}
use Rattle.scm_beside_laws.proofs.SeenLemmas.{ShowsArea, area_mask, area_sight, has_row-area, shows-area}

-- ---- columns

-- the width of each document
abbrev pub half : ℕ → ℕ
half w = view_width Adjacent w

pub half-wide : (w : ℕ) → 21 ≤ w → (10 ≤ half w) × (half w + half w + 1 ≤ w)
half-wide w h = (omega (arith, h), omega (arith, h))

-- no document draws more than its columns
drawn-most : (v : ℕ) (d : Document) → drawn_width v d ≤ v
drawn-most v d = go (is_bare d)
  where
    go : (b : Bool) → (if b then min v 29 else v) ≤ v
    go true = omega arith
    go false = omega arith

-- the second document has as many columns as the first
second-is : (w v : ℕ) (d : Document) → v + v + 1 ≤ w → second_area w v d ≡ record { left = drawn_width v d + 1; width = v }
second-is w v d h =
    let most = drawn-most v d in
    let left : min w (drawn_width v d + 1) ≡ drawn_width v d + 1 = omega (arith, most, h) in
    let width : min v (w - (drawn_width v d + 1)) ≡ v = omega (arith, most, h) in
    rw (left, width) refl

second-last : (w v : ℕ) (d : Document) → v + v + 1 ≤ w → (drawn_width v d + 1) + v ≤ w
second-last w v d h = let most = drawn-most v d in omega (arith, most, h)

-- ---- masks

mask-left : (w l : ℕ) → l ≤ w → int_min (int_max (pos l) (pos 0)) (pos 0 +ℤ pos w) ≡ pos l
mask-left w l h = omega (arith, places, h)

mask-width : (w l v : ℕ) → l + v ≤ w → min (v - or_zero (pos l -ℤ pos l)) (or_zero ((pos 0 +ℤ pos w) -ℤ pos l)) ≡ v
mask-width w l v h = omega (arith, places, h)

mask-is : (w h s : ℕ) (a : Area) → end_column a ≤ w → view_mask (sight w h s) (pos a.left) a.width ≡ area_mask a s
mask-is w h s a last =
    let left = mask-left w a.left (omega (arith, last)) in
    let width = mask-width w a.left a.width last in
    rw (left, width) refl

-- ---- what is drawn

-- document d in area a
abbrev pub drawn : ℕ → ℕ → ℕ → Area → Document → Picture ComponentId
drawn w h s a d = document_picture d (area_sight w h s a) (pos a.left) (pos 1)

view-is : (v : CommitView) (w h s : ℕ) (a : Area) → end_column a ≤ w → view_picture v (sight w h s) (pos a.left) a.width ≡ drawn w h s a (document_of v)
unfolding commit_picture
view-is v w h s a last = rw (mask-is w h s a last) refl

two-views : (v u : CommitView) (n : ℕ) (t : Sight)
    → views_picture (v ∷ (u ∷ [])) n t (pos 0) ≡ followed_by (part ids.AppFiles (view_picture v t (pos 0) n)) (part ids.AppFiles (view_picture u t (next_view v t (pos 0) n) n))
unfolding views_picture
two-views v u n t = ap (λ m. followed_by (part ids.AppFiles (view_picture v t (pos 0) n)) m) (followed-nothing _)

one-more : (n : ℕ) → (pos 0 +ℤ pos n) +ℤ pos 1 ≡ pos (n + 1)
one-more n = omega (arith, ints)

-- the second document begins behind the columns that the first one draws, and one more
begins-at : (v : CommitView) (w h s n : ℕ) → 10 ≤ n → n ≤ w → w ≤ 65535 → h ≤ 65535 → next_view v (sight w h s) (pos 0) n ≡ pos (drawn_width n (document_of v) + 1)
unfolding commit_picture
begins-at v w h s n wide fits p q =
    let a = whole n in
    let last : end_column a ≤ w = omega (arith, fits) in
    let mask = mask-is w h s a last in
    let area = shows-area w h s a wide last p q in
    ap (λ (m : Mask). (pos 0 +ℤ pos (apply_of m (box_rect (document_picture (document_of v) (under m (sight w h s)) (pos 0) (pos 1)))).width) +ℤ pos 1) mask
    ∙ ap (λ (k : ℕ). (pos 0 +ℤ pos k) +ℤ pos 1) (document-width (document_of v) (area_sight w h s a) w n (pos s +ℤ pos 1) wide (omega (arith, fits, p)) area.seen)
    ∙ one-more (drawn_width n (document_of v))

-- both documents, and what lies over them
abbrev pub both_drawn : ℕ → ℕ → ℕ → ViewState → Area → Picture ComponentId
both_drawn w h s shown b =
    followed_by (part ids.AppFiles (drawn w h s (whole (half w)) (document_at shown 0))) (part ids.AppFiles (drawn w h s b (document_at shown 1)))

abbrev pub over_drawn : ℕ → ℕ → ℕ → ViewState → Picture ComponentId
over_drawn w h s shown = overlays_picture w h s shown.open_menu shown.quit_dialog shown.is_help_open

-- the area of the second document
abbrev pub second : ℕ → ViewState → Area
second w shown = second_area w (half w) (document_at shown 0)

views-are : (shown : ViewState) (w h s : ℕ) → 21 ≤ w → w ≤ 65535 → h ≤ 65535
    → views_picture (commit_view_of shown 0 ∷ (commit_view_of shown 1 ∷ [])) (half w) (sight w h s) (pos 0) ≡ both_drawn w h s shown (second w shown)
views-are shown w h s wide p q =
    let n = half w in
    let size = half-wide w wide in
    let d = document_at shown 0 in
    let b : Area = record { left = drawn_width n d + 1; width = n } in
    let t = sight w h s in
    let first = view-is (commit_view_of shown 0) w h s (whole n) (omega (arith, size)) in
    let next = begins-at (commit_view_of shown 0) w h s n size.0 (omega (arith, size)) p q in
    let other = view-is (commit_view_of shown 1) w h s b (second-last w n d size.1) in
    two-views (commit_view_of shown 0) (commit_view_of shown 1) n t
    ∙ ap (λ x. followed_by (part ids.AppFiles (view_picture (commit_view_of shown 0) t (pos 0) n)) (part ids.AppFiles (view_picture (commit_view_of shown 1) t x n))) next
    ∙ ap₂ (λ (m k : Picture ComponentId). followed_by (part ids.AppFiles m) (part ids.AppFiles k)) first other
    ∙ ap (λ (c : Area). both_drawn w h s shown c) (sym (second-is w n d size.1))

pub app-is : (shown : ViewState) (a : AppView) (w h s : ℕ) → IsBeside a shown w h
    → app_picture a (sight w h s) (pos 0) (pos 0) ≡ followed_by (both_drawn w h s shown (second w shown)) (over_drawn w h s shown)
unfolding app_picture
app-is shown a w h s plain =
    app-alike shown a (sight w h s) (pos 0) (pos 0) plain.shows
    ∙ ap (λ (mode : CommitViewMode). all mode (has_help (help_dialog_if_open shown.is_help_open))) plain.view_mode
    ∙ ap (λ (help : Bool). all Adjacent help) (help-where shown.is_help_open)
    ∙ ap (λ m. followed_by m (over_drawn w h s shown)) (views-are shown w h s plain.wide plain.width plain.height)
  where
    all : CommitViewMode → Bool → Picture ComponentId
    all mode help =
        followed_by (views_picture (take (view_count mode) (commit_view_of shown 0 ∷ (commit_view_of shown 1 ∷ []))) (view_width mode w) (sight w h s) (pos 0))
        (overlays_picture w h s shown.open_menu shown.quit_dialog help)

-- ---- rows below the menu bar

pub second-seen : (shown : ViewState) (w h s : ℕ) → 21 ≤ w → w ≤ 65535 → h ≤ 65535 → ShowsArea (area_sight w h s (second w shown)) w h s (second w shown)
second-seen shown w h s wide p q =
    let n = half w in
    let size = half-wide w wide in
    let d = document_at shown 0 in
    let b : Area = record { left = drawn_width n d + 1; width = n } in
    subst (λ (c : Area). ShowsArea (area_sight w h s c) w h s c) (sym (second-is w n d size.1)) (shows-area w h s b size.0 (second-last w n d size.1) p q)

-- the first document, and the second one over it
abbrev pub two_rows : ℕ → ℕ → ℕ → ViewState → ℕ → Row → Row
two_rows w h s shown z row =
    with_document (second w shown) h s (document_at shown 1) z (with_document (whole (half w)) h s (document_at shown 0) z row)

both-paint : (shown : ViewState) (w h s z : ℕ) (row : Row) → 21 ≤ w → w ≤ 65535 → h ≤ 65535 → s < z → z < s + h
    → paint (screen w h s) (both_drawn w h s shown (second w shown)).puts (pos z) row ≡ two_rows w h s shown z row
unfolding followed_by part
both-paint shown w h s z row wide p q below above =
    let a = whole (half w) in
    let b = second w shown in
    let size = half-wide w wide in
    let first = drawn w h s a (document_at shown 0) in
    let other = drawn w h s b (document_at shown 1) in
    let area = shows-area w h s a size.0 (omega (arith, size)) p q in
    paint-append (screen w h s) first.puts other.puts (pos z) row
    ∙ ap (λ r. paint (screen w h s) other.puts (pos z) r)
    (document-paints (document_at shown 0) (area_sight w h s a) w h s a area (session-ids shown 0) z row (has_row-area w h s z a below above))
    ∙ document-paints (document_at shown 1) (area_sight w h s b) w h s b (second-seen shown w h s wide p q) (session-ids shown 1) z
    (with_document a h s (document_at shown 0) z row) (has_row-area w h s z b below above)

-- ---- layers

abbrev pub over_layers : ℕ → ℕ → ℕ → ViewState → List (Layer ComponentId)
over_layers w h s shown = overlays w h s shown.open_menu shown.quit_dialog shown.is_help_open

module _ (laws : RowsShowLayers) where
  two-show : (w h s z : ℕ) (shown : ViewState) (row : Row) → shown_by (documents_layers h s (documents_in Adjacent w shown)) z row ≡ two_rows w h s shown z row
  unfolding documents_layers shown_by
  two-show w h s z shown row =
      let a = whole (half w) in
      let b = second w shown in
      let first = area_layers a h s (document_at shown 0) in
      let other = area_layers b h s (document_at shown 1) in
      shown-append same_component is_clickable first (other ++ []) z row
      ∙ shown-append same_component is_clickable other [] z (shown_by first z row)
      ∙ sym (laws b h s z (document_at shown 1) (shown_by first z row))
      ∙ ap (with_document b h s (document_at shown 1) z) (sym (laws a h s z (document_at shown 0) row))

  pub all-show : (w h s z : ℕ) (shown : ViewState) (row : Row) → shown.view_mode ≡ Adjacent
      → shown_by (over_layers w h s shown) z (two_rows w h s shown z row) ≡ shown_by (layers_beside w h s shown) z row
  all-show w h s z shown row mode =
      let documents = documents_layers h s (documents_in Adjacent w shown) in
      sym
      (ap (λ (m : CommitViewMode). shown_by (documents_layers h s (documents_in m w shown) ++ over_layers w h s shown) z row) mode
      ∙ shown-append same_component is_clickable documents (over_layers w h s shown) z row
      ∙ ap (shown_by (over_layers w h s shown) z) (two-show w h s z shown row))

  -- ---- each row

  abbrev RowIs : ℕ → ℕ → ℕ → ViewState → ℕ → Type 0
  RowIs w h s shown z =
      paint (screen w h s) ((both_drawn w h s shown (second w shown)).puts ++ (over_drawn w h s shown).puts) (pos z) (blank_row w) ≡ shown_by (layers_beside w h s shown) z (blank_row w)

  -- what lies over the documents, over what they drew
  over-it : (w h s z : ℕ) (shown : ViewState) (ps : List Put) → 2 ≤ w → 2 ≤ h → s ≤ z → z < s + h
      → paint (screen w h s) (ps ++ (over_drawn w h s shown).puts) (pos z) (blank_row w) ≡ shown_by (over_layers w h s shown) z (paint (screen w h s) ps (pos z) (blank_row w))
  over-it w h s z shown ps wide high a b =
      let above = overlays_draw same_component same_component-lawful w h s shown.open_menu shown.quit_dialog shown.is_help_open wide high in
      paint-append (screen w h s) ps (over_drawn w h s shown).puts (pos z) (blank_row w)
      ∙ above.paints z (paint (screen w h s) ps (pos z) (blank_row w)) (on_screen w h s z a b) (length-paint (screen w h s) ps (pos z) (blank_row w) (blank-length w))

  two-keep : (w h s z : ℕ) (shown : ViewState) (row : Row) → 21 ≤ w → w ≤ 65535 → h ≤ 65535 → length row ≡ w → length (two_rows w h s shown z row) ≡ w
  two-keep w h s z shown row wide p q e =
      let a = whole (half w) in
      let b = second w shown in
      let size = half-wide w wide in
      let seen = (second-seen shown w h s wide p q).seen in
      document-keeps w h s z b (document_at shown 1) (with_document a h s (document_at shown 0) z row) seen.last
      (document-keeps w h s z a (document_at shown 0) row (omega (arith, size)) e)

  row-below : (shown : ViewState) (a : AppView) (w h s z : ℕ) → IsBeside a shown w h → s < z → z < s + h → RowIs w h s shown z
  row-below shown a w h s z plain below above =
      over-it w h s z shown (both_drawn w h s shown (second w shown)).puts (omega (arith, plain.wide)) plain.high (omega (arith, below)) above
      ∙ ap (shown_by (over_layers w h s shown) z) (both-paint shown w h s z (blank_row w) plain.wide plain.width plain.height below above)
      ∙ all-show w h s z shown (blank_row w) plain.view_mode

  -- the menu bar hides what the documents draw on the first row
  row-first : (shown : ViewState) (a : AppView) (w h s : ℕ) → IsBeside a shown w h → RowIs w h s shown s
  row-first shown a w h s plain =
      let ps = (both_drawn w h s shown (second w shown)).puts in
      over-it w h s s shown ps (omega (arith, plain.wide)) plain.high (omega arith) (omega (arith, plain.high))
      ∙ hides w s (menus_with shown.open_menu) (quit_layers w h s shown.quit_dialog ++ help_layers w h s shown.is_help_open) _ _
      (length-paint (screen w h s) ps (pos s) (blank_row w) (blank-length w)) (two-keep w h s s shown (blank_row w) plain.wide plain.width plain.height (blank-length w))
      ∙ all-show w h s s shown (blank_row w) plain.view_mode

  row-is : (shown : ViewState) (a : AppView) (w h s z : ℕ) → IsBeside a shown w h → s ≤ z → z < s + h → RowIs w h s shown z
  row-is shown a w h s z plain below above =
      ⊎_elim (λ (c : s < z). row-below shown a w h s z plain c above)
      (λ (c : z ≤ s). let here : s ≡ z = omega (arith, below, c) in subst (λ y. RowIs w h s shown y) here (row-first shown a w h s plain))
      (cases_lt s z)

  rows-are : (shown : ViewState) (a : AppView) (w h s z n : ℕ) → IsBeside a shown w h → s ≤ z → z + n ≤ s + h
      → paint_rows (screen w h s) ((both_drawn w h s shown (second w shown)).puts ++ (over_drawn w h s shown).puts) (pos z) (replicate n (blank_row w))
      ≡ rows_from w (layers_beside w h s shown) z n
  unfolding paint_rows rows_from
  rows-are shown a w h s z zero plain below above = refl
  rows-are shown a w h s z (suc n) plain below above =
      let next : pos z +ℤ pos 1 ≡ pos (suc z) = omega (arith, ints) in
      ap₂ (λ r rs. r ∷ rs) (row-is shown a w h s z plain below (omega (arith, above)))
      (ap (λ y. paint_rows (screen w h s) ((both_drawn w h s shown (second w shown)).puts ++ (over_drawn w h s shown).puts) y (replicate n (blank_row w))) next
      ∙ rows-are shown a w h s (suc z) n plain (omega (arith, below)) (omega (arith, above)))

  pub shows-beside : AppsShowWindowsBeside
  unfolding followed_by window_beside
  shows-beside shown a w h s plain =
      ap (λ (m : Picture ComponentId). paint_rows (screen w h s) m.puts (pos s) (replicate h (blank_row w))) (app-is shown a w h s plain)
      ∙ rows-are shown a w h s s h plain (omega arith) (omega arith)
