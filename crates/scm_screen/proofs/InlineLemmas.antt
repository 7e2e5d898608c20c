-- The window of one commit is the inline window.
use Rattle.std.proofs.Common.{◌≡◌, ℕ, zero, suc, ◌+◌, ◌-◌, ◌<◌, ◌≤◌, min, max, List, [], ◌∷◌, ◌++◌, length, refl, sym, ap, ap₂, subst, ◌∙◌, append-nil}
use Rattle.std.specs.Prelude.{fold}
use Rattle.std.specs.List.{flat_map}
use Rattle.scm_render.specs.Canvas.{Row}
use Rattle.scm_types.specs.declared.keys.SelectionKey.{SelectionKey}
use Rattle.scm_widgets.specs.declared.ids.ComponentId.{ComponentId}
use Rattle.scm_widgets.specs.Blanks.{blank_row}
use Rattle.scm_widgets.specs.Layers.{Layer, Strip, end_of, rows_around}
use Rattle.scm_document.specs.declared.commit_view.CommitViewMode.{CommitViewMode}
use Rattle.scm_document.specs.declared.commit_view.CommitViewMode.TheVariants.{Inline}
use Rattle.scm_document.specs.DocumentRows.{rows_layers, rows_of_key}
use Rattle.scm_document.specs.Places.{places}
use Rattle.scm_document.specs.Rows.{Document}
use Rattle.scm_overlay.specs.Menus.{menu_layer}
use Rattle.scm_overlay.specs.Overlays.{quit_layers, help_layers, overlays}
use Rattle.scm_overlay.specs.Tables.{menus_with}
use Rattle.scm_strips.specs.AreaStrips.{area_document, area_layers, area_pinned_layer}
use Rattle.scm_strips.specs.Shows.{whole}
use Rattle.scm_strips.proofs.InlineLemmas.{AreSame, AreSameLayers, document-same, layers-append, layers-self, owned-by-same, pinned_layer-same, shown-same}
use Rattle.scm_view.specs.ViewState.{ViewState}
use Rattle.scm_view.specs.Window.{body_layers, extent, inline_document, layers, owner, rows_from, span, window}
use Rattle.scm_screen.specs.Beside.{Placed, documents_in, documents_layers, extent_beside, layers_beside, owner_beside, placed_documents, rows_beside, span_beside, window_beside}

-- ---- layers

pub body-same : (w h s : ℕ) (d : Document) → 10 ≤ w → AreSameLayers w (area_layers (whole w) h s d) (body_layers w h s d)
body-same w h s d wide =
    layers-append w (area_document (whole w) (h - 1) (s + 1) 1 d) (rows_layers w h s d) (area_pinned_layer (whole w) (s + 1) 1 d ∷ []) _
    (document-same w (h - 1) (s + 1) 1 d wide) (pinned_layer-same w (s + 1) 1 d wide, tt)

one-document : (w h s : ℕ) (shown : ViewState) → documents_layers h s (documents_in Inline w shown) ≡ area_layers (whole w) h s (inline_document shown)
unfolding documents_layers
one-document w h s shown = append-nil (area_layers (whole w) h s (inline_document shown))

-- one document is placed
placed : (w : ℕ) (shown : ViewState) → shown.view_mode ≡ Inline → placed_documents w shown ≡ documents_in Inline w shown
placed w shown inline = ap (λ (mode : CommitViewMode). documents_in mode w shown) inline

layers-same : (w h s : ℕ) (shown : ViewState) → shown.view_mode ≡ Inline → 10 ≤ w → AreSameLayers w (layers_beside w h s shown) (layers w h s shown)
layers-same w h s shown inline wide =
    let over = overlays w h s shown.open_menu shown.quit_dialog shown.is_help_open in
    let all : documents_layers h s (placed_documents w shown) ≡ area_layers (whole w) h s (inline_document shown) =
    ap (documents_layers h s) (placed w shown inline) ∙ one-document w h s shown in
    subst (λ (ls : List (Layer ComponentId)). AreSameLayers w (ls ++ over) (layers w h s shown)) (sym all)
    (layers-append w (area_layers (whole w) h s (inline_document shown)) (body_layers w h s (inline_document shown)) over over (body-same w h s (inline_document shown) wide) (layers-self w over))

-- all layers of one commit, at any size
pub layers-are : (w h s : ℕ) (shown : ViewState) → shown.view_mode ≡ Inline
    → layers_beside w h s shown ≡ area_layers (whole w) h s (inline_document shown) ++ overlays w h s shown.open_menu shown.quit_dialog shown.is_help_open
layers-are w h s shown inline =
    ap (λ (ls : List (Layer ComponentId)). ls ++ overlays w h s shown.open_menu shown.quit_dialog shown.is_help_open)
    (ap (documents_layers h s) (placed w shown inline) ∙ one-document w h s shown)

-- ---- rows and owners

rows-same : (w z n : ℕ) (ls ks : List (Layer ComponentId)) → AreSameLayers w ls ks → rows_from w ls z n ≡ rows_from w ks z n
unfolding rows_from
rows-same w z zero ls ks h = refl
rows-same w z (suc n) ls ks h = ap₂ (λ (r : Row) (rs : List Row). r ∷ rs) (shown-same w z ls ks (blank_row w) h) (rows-same w (suc z) n ls ks h)

pub inline-rows : (w h s : ℕ) (shown : ViewState) → shown.view_mode ≡ Inline → 10 ≤ w → window_beside w h s shown ≡ window w h s shown
unfolding window_beside window
inline-rows w h s shown inline wide = rows-same w s h (layers_beside w h s shown) (layers w h s shown) (layers-same w h s shown inline wide)

pub inline-owners : (w h s : ℕ) (shown : ViewState) → shown.view_mode ≡ Inline → 10 ≤ w → (y x : ℕ) → x < w → owner_beside w h s shown y x ≡ owner w h s shown y x
unfolding owner_beside owner
inline-owners w h s shown inline wide y x within =
    owned-by-same w y x (layers_beside w h s shown) (layers w h s shown) within (layers-same w h s shown inline wide)

-- ---- keys and the extent

pub inline-keys : (w : ℕ) (shown : ViewState) → shown.view_mode ≡ Inline → (k : SelectionKey) → span_beside w shown k ≡ span shown k
unfolding span_beside span
inline-keys w shown inline k =
    ap (λ (ps : List Placed). rows_of_key k (flat_map (λ (p : Placed). places 1 p.document) ps)) (placed w shown inline)
    ∙ ap (rows_of_key k) (append-nil (places 1 (inline_document shown)))

strips-long : (w : ℕ) (ss ts : List (Strip ComponentId)) → AreSame w ss ts → length ss ≡ length ts
strips-long w [] [] h = refl
strips-long w [] (t ∷ ts) h = absurd h
strips-long w (s ∷ ss) [] h = absurd h
strips-long w (s ∷ ss) (t ∷ ts) h = ap suc (strips-long w ss ts h.1)

around-same : (w e f : ℕ) (ls ks : List (Layer ComponentId)) → AreSameLayers w ls ks
    → fold (λ (m : ℕ) (k : Layer ComponentId). max m (end_of k)) e ls - fold (λ (m : ℕ) (k : Layer ComponentId). min m k.first) f ls
    ≡ fold (λ (m : ℕ) (k : Layer ComponentId). max m (end_of k)) e ks - fold (λ (m : ℕ) (k : Layer ComponentId). min m k.first) f ks
around-same w e f [] [] h = refl
around-same w e f [] (k ∷ ks) h = absurd h
around-same w e f (l ∷ ls) [] h = absurd h
around-same w e f (l ∷ ls) (k ∷ ks) h =
    around-same w (max e (end_of l)) (min f l.first) ls ks h.1
    ∙ ap₂
    (λ (p q : ℕ). fold (λ (m : ℕ) (k : Layer ComponentId). max m (end_of k)) (max e p) ks - fold (λ (m : ℕ) (k : Layer ComponentId). min m k.first) (min f q) ks)
    (ap₂ (λ (a b : ℕ). a + b) h.0.first (strips-long w l.strips k.strips h.0.strips))
    h.0.first

one-rows : (w h s : ℕ) (shown : ViewState) → rows_beside h s (documents_in Inline w shown) ≡ area_document (whole w) (h - 1) (s + 1) 1 (inline_document shown)
unfolding rows_beside
one-rows w h s shown = append-nil (area_document (whole w) (h - 1) (s + 1) 1 (inline_document shown))

pub inline-extents : (w h s : ℕ) (shown : ViewState) → shown.view_mode ≡ Inline → 10 ≤ w → extent_beside w h s shown ≡ extent w h s shown
unfolding extent_beside extent
inline-extents w h s shown inline wide =
    let d = inline_document shown in
    let bar = menu_layer w s (menus_with shown.open_menu) in
    let over = quit_layers w h s shown.quit_dialog ++ help_layers w h s shown.is_help_open in
    let all : rows_beside h s (placed_documents w shown) ≡ area_document (whole w) (h - 1) (s + 1) 1 d = ap (rows_beside h s) (placed w shown inline) ∙ one-rows w h s shown in
    ap (λ (ls : List (Layer ComponentId)). rows_around bar (ls ++ over)) all
    ∙ around-same w (end_of bar) bar.first (area_document (whole w) (h - 1) (s + 1) 1 d ++ over) (rows_layers w h s d ++ over)
    (layers-append w (area_document (whole w) (h - 1) (s + 1) 1 d) (rows_layers w h s d) over over (document-same w (h - 1) (s + 1) 1 d wide) (layers-self w over))
