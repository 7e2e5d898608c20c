-- How many rows all that is drawn of two commits spans, from the rows of the documents' boxes.
use Rattle.std.proofs.Common.{◌≡◌, ℕ, ◌+◌, ◌-◌, ◌<◌, ◌≤◌, min, max, Bool, true, false, List, [], ◌∷◌, ◌++◌, length, refl, sym, ap, ap₂, ◌∙◌, arith, append-nil, inl, inr}
use Rattle.std.specs.Prelude.{ℤ, pos, Option, Some, None}
use Rattle.std.specs.Int.{int_min, int_max}
use Rattle.std.proofs.lemmas.Int.{ints, clamps}
use Rattle.std.proofs.lemmas.List.Sums.{fold-append}
use Rattle.scm_cells.specs.declared.rect.Rect.{Rect}
use Rattle.scm_render.specs.Around.{join}
use Rattle.scm_render.specs.Centring.{centred_gap, centred_size}
use Rattle.scm_render.specs.Hits.{IsLawful, has_id, box_of}
use Rattle.scm_render.specs.Picture.{Picture, nothing, followed_by, part, box_rect}
use Rattle.scm_render.proofs.AroundLemmas.{join-assoc}
use Rattle.scm_render.proofs.HitLemmas.{each-append, each_more}
use Rattle.scm_widgets.specs.declared.ids.ComponentId.{ComponentId}
use Rattle.scm_widgets.specs.declared.ids.ComponentId.TheVariants as ids
use Rattle.scm_widgets.specs.Clicks.{is_clickable}
use Rattle.scm_widgets.specs.Layers.{Layer, end_of}
use Rattle.scm_widgets.specs.Screens.{sight}
use Rattle.scm_widgets.specs.ShownDialogs.{ShownDialog}
use Rattle.scm_widgets.proofs.DrawsStrips.{none_of, box-followed, box-part}
use Rattle.scm_widgets.proofs.IdBoxLemmas.{box_of-first}
use Rattle.scm_widgets.proofs.OwnButtons.{IsDialog}
use Rattle.scm_document.specs.declared.commit_view.CommitViewMode.{CommitViewMode}
use Rattle.scm_document.specs.declared.commit_view.CommitViewMode.TheVariants.{Adjacent}
use Rattle.scm_document.specs.Rows.{Document}
use Rattle.scm_document.proofs.FilesOf.{HasItsIds}
use Rattle.scm_document.proofs.RunLemmas.{Runs, runs_more, runs_as, runs_of, lowest, highest}
use Rattle.scm_overlay.specs.declared.quit_dialog.QuitDialog.{QuitDialog}
use Rattle.scm_overlay.specs.Dialogs.{dialog_layer, dialog_picture, widest_line}
use Rattle.scm_overlay.specs.Menus.{menu_bar_picture, menu_strips, menu_layer}
use Rattle.scm_overlay.specs.Overlays.{quit_picture, help_picture, quit_layers, help_layers}
use Rattle.scm_overlay.specs.Tables.{menus_with, quit_dialog, help_dialog, named_dialog_picture}
use Rattle.scm_overlay.proofs.DialogLemmas.{centred_60, centred_20, join-none, box-none, box-placed, length-dialog, dialog-is}
use Rattle.scm_overlay.proofs.FixedLemmas.{open_is_wide, quit_is_dialog, help_is_dialog}
use Rattle.scm_overlay.proofs.MenuLemmas.{IsPart, differ, bar_spans}
use Rattle.scm_overlay.proofs.OverlayLemmas.{IsOver, overlays_draw}
use Rattle.scm_overlay.proofs.Parts.{Leaving, Help, Body, Whole, part_of}
use Rattle.scm_screen.specs.Beside.{document_at, documents_in, extent_beside, rows_beside}
use Rattle.scm_strips.specs.declared.area.Area.{Area}
use Rattle.scm_strips.specs.AreaStrips.{area_document}
use Rattle.scm_strips.specs.Shows.{whole}
use Rattle.scm_view.specs.ViewState.{ViewState}
use Rattle.scm_view.specs.Window.{height_of_box}
use Rattle.scm_view.proofs.SessionLemmas.{session-ids}
use Rattle.scm_beside_laws.specs.Laws.{AppsHaveExtentsBeside}
use Rattle.scm_beside_laws.proofs.BesideLemmas.{app-is, both_drawn, drawn, half, half-wide, over_drawn, second, second-seen}
use Rattle.scm_beside_laws.proofs.BesideOwnerLemmas.{both-ids, one_part}
use Rattle.scm_beside_laws.proofs.RunLemmas.{document-runs}
use Rattle.scm_beside_laws.proofs.SeenLemmas.{ShowsArea, area_sight, shows-area}

-- ---- the menu bar and the dialogs

bar-runs : (w h s : ℕ) (menu : Option ℕ) → 0 < w → Runs (box_rect (menu_bar_picture (menus_with menu) (sight w h s) (pos 0) (pos s))) (pos s) (pos (end_of (menu_layer w s (menus_with menu))))
bar-runs w h s menu some = runs_of _ (pos s) (length (menu_strips w (menus_with menu))) (pos 0) w (omega arith) (omega (arith, ints)) (bar_spans w h s (menus_with menu) some (open_is_wide menu))

module _ (same : ComponentId → ComponentId → Bool) (law : IsLawful same) where
  dialog-runs : (w h s : ℕ) (P : ComponentId → Type 0) (d : ShownDialog ComponentId) → IsDialog same is_clickable P d → 2 ≤ w → 2 ≤ h
      → Runs (box_rect (dialog_picture d (sight w h s))) (pos (dialog_layer w h s d).first) (pos (end_of (dialog_layer w h s d)))
  dialog-runs w h s P d good a b =
      let x = centred_60 w (widest_line d.body + 2) a (omega arith) in
      let y = centred_20 h (length d.body + 2) b (omega arith) in
      let n = centred_size w (widest_line d.body + 2) 60 in
      let m = centred_size h (length d.body + 2) 20 in
      let c = centred_gap w (widest_line d.body + 2) 60 in
      let top = s + centred_gap h (length d.body + 2) 20 in
      let box = box-placed same law is_clickable w h s c top n m P d good x.some y.some in
      rw (dialog-is w h s d, length-dialog w c n m d y.some)
      (record { some = box.some; top = box.top; end = rw (box.rows, box.top) refl })

  -- a run, and a dialog that is drawn as a part of its own id
  dialog-more : (w h s : ℕ) (P : ComponentId → Type 0) (d : ShownDialog ComponentId) (r : Rect) (a b : ℕ) → IsDialog same is_clickable P d → 2 ≤ w → 2 ≤ h → Runs r (pos a) (pos b)
      → Runs (join r (box_rect (part d.id (part d.id (dialog_picture d (sight w h s)))))) (pos (lowest a (dialog_layer w h s d ∷ []))) (pos (highest b (dialog_layer w h s d ∷ [])))
  dialog-more w h s P d r a b good x y run =
      let l = dialog_layer w h s d in
      let low : int_min (pos a) (pos l.first) ≡ pos (min a l.first) = omega (arith, ints, clamps) in
      let high : int_max (pos b) (pos (end_of l)) ≡ pos (max b (end_of l)) = omega (arith, ints, clamps) in
      rw (box-part d.id (part d.id (dialog_picture d (sight w h s))), box-part d.id (dialog_picture d (sight w h s)))
      (runs_as _ _ _ _ _ low high (runs_more r _ (pos a) (pos b) _ _ run (dialog-runs w h s P d good x y)))

  none-more : (r : Rect) (a b : ℤ) → Runs r a b → Runs (join r (box_rect (nothing {K = ComponentId}))) a b
  none-more r a b run = rw (box-none ComponentId, join-none r) run

  quit-more : (w h s : ℕ) (q : Option QuitDialog) (r : Rect) (a b : ℕ) → 2 ≤ w → 2 ≤ h → Runs r (pos a) (pos b)
      → Runs (join r (box_rect (quit_picture q (sight w h s)))) (pos (lowest a (quit_layers w h s q))) (pos (highest b (quit_layers w h s q)))
  unfolding named_dialog_picture
  quit-more w h s None r a b x y run = none-more r (pos a) (pos b) run
  quit-more w h s (Some q) r a b x y run = dialog-more w h s (IsPart Leaving) (quit_dialog q) r a b (quit_is_dialog same law q) x y run

  help-more : (w h s : ℕ) (open_help : Bool) (r : Rect) (a b : ℕ) → 2 ≤ w → 2 ≤ h → Runs r (pos a) (pos b)
      → Runs (join r (box_rect (help_picture open_help (sight w h s)))) (pos (lowest a (help_layers w h s open_help))) (pos (highest b (help_layers w h s open_help)))
  unfolding named_dialog_picture
  help-more w h s true r a b x y run = dialog-more w h s (IsPart Help) help_dialog r a b (help_is_dialog same law) x y run
  help-more w h s false r a b x y run = none-more r (pos a) (pos b) run

-- ---- layers in another order

lowest-out : (a n : ℕ) (ls : List (Layer ComponentId)) → lowest (min a n) ls ≡ min (lowest a ls) n
lowest-out a n [] = refl
lowest-out a n (l ∷ ls) =
    let swapped : min (min a n) l.first ≡ min (min a l.first) n = omega arith in
    ap (λ k. lowest k ls) swapped ∙ lowest-out (min a l.first) n ls

lowest-swap : (a : ℕ) (ls ks : List (Layer ComponentId)) → lowest (lowest a ls) ks ≡ lowest (lowest a ks) ls
lowest-swap a [] ks = refl
lowest-swap a (l ∷ ls) ks = lowest-swap (min a l.first) ls ks ∙ ap (λ k. lowest k ls) (lowest-out a l.first ks)

highest-out : (a n : ℕ) (ls : List (Layer ComponentId)) → highest (max a n) ls ≡ max (highest a ls) n
highest-out a n [] = refl
highest-out a n (l ∷ ls) =
    let swapped : max (max a n) (end_of l) ≡ max (max a (end_of l)) n = omega arith in
    ap (λ k. highest k ls) swapped ∙ highest-out (max a (end_of l)) n ls

highest-swap : (a : ℕ) (ls ks : List (Layer ComponentId)) → highest (highest a ls) ks ≡ highest (highest a ks) ls
highest-swap a [] ks = refl
highest-swap a (l ∷ ls) ks = highest-swap (max a (end_of l)) ls ks ∙ ap (λ k. highest k ls) (highest-out a (end_of l) ks)

lowest-append : (a : ℕ) (ls ks : List (Layer ComponentId)) → lowest a (ls ++ ks) ≡ lowest (lowest a ls) ks
lowest-append a ls ks = fold-append (λ (f : ℕ) (k : Layer ComponentId). min f k.first) a ls ks

highest-append : (a : ℕ) (ls ks : List (Layer ComponentId)) → highest a (ls ++ ks) ≡ highest (highest a ls) ks
highest-append a ls ks = fold-append (λ (e : ℕ) (k : Layer ComponentId). max e (end_of k)) a ls ks

-- ---- both documents

-- the layers of a document's rows
abbrev row_layers : ℕ → ℕ → Area → Document → List (Layer ComponentId)
row_layers h s a d = area_document a (h - 1) (s + 1) 1 d

two-layers : (w h s : ℕ) (shown : ViewState)
    → rows_beside h s (documents_in Adjacent w shown) ≡ row_layers h s (whole (half w)) (document_at shown 0) ++ row_layers h s (second w shown) (document_at shown 1)
unfolding rows_beside
two-layers w h s shown = ap (λ (ls : List (Layer ComponentId)). row_layers h s (whole (half w)) (document_at shown 0) ++ ls) (append-nil (row_layers h s (second w shown) (document_at shown 1)))

part-runs : (d : Document) (w h s : ℕ) (a : Area) (r : Rect) (i j : ℕ) → ShowsArea (area_sight w h s a) w h s a → HasItsIds d → Runs r (pos i) (pos j)
    → Runs (join (box_rect (one_part w h s a d)) r) (pos (lowest i (row_layers h s a d))) (pos (highest j (row_layers h s a d)))
part-runs d w h s a r i j o own run =
    rw (box-part ids.AppFiles (drawn w h s a d))
    (document-runs d (area_sight w h s a) w (h - 1) (s + 1) a o.wide o.seen o.rows (omega (arith, o.height)) o.first own r i j run)

both-runs : (w h s : ℕ) (shown : ViewState) (r : Rect) (i j : ℕ) → 21 ≤ w → w ≤ 65535 → h ≤ 65535 → Runs r (pos i) (pos j)
    → Runs (join (box_rect (both_drawn w h s shown (second w shown))) r)
    (pos (lowest i (rows_beside h s (documents_in Adjacent w shown)))) (pos (highest j (rows_beside h s (documents_in Adjacent w shown))))
both-runs w h s shown r i j wide p q run =
    let a = whole (half w) in
    let b = second w shown in
    let size = half-wide w wide in
    let area = shows-area w h s a size.0 (omega (arith, size)) p q in
    let first = one_part w h s a (document_at shown 0) in
    let later = one_part w h s b (document_at shown 1) in
    let ls = row_layers h s a (document_at shown 0) in
    let ks = row_layers h s b (document_at shown 1) in
    let one = part-runs (document_at shown 1) w h s b r i j (second-seen shown w h s wide p q) (session-ids shown 1) run in
    let two = part-runs (document_at shown 0) w h s a _ (lowest i ks) (highest j ks) area (session-ids shown 0) one in
    let low : lowest (lowest i ks) ls ≡ lowest i (rows_beside h s (documents_in Adjacent w shown)) =
    lowest-swap i ks ls ∙ sym (lowest-append i ls ks) ∙ ap (lowest i) (sym (two-layers w h s shown)) in
    let high : highest (highest j ks) ls ≡ highest j (rows_beside h s (documents_in Adjacent w shown)) =
    highest-swap j ks ls ∙ sym (highest-append j ls ks) ∙ ap (highest j) (sym (two-layers w h s shown)) in
    rw (box-followed first later, join-assoc (box_rect first) (box_rect later) r) (runs_as _ _ _ _ _ (ap pos low) (ap pos high) two)

-- ---- all that is drawn

abbrev IsNotWhole : ComponentId → Type 0
IsNotWhole i = IsPart Whole i → ⊥

over_not : (i : ComponentId) → IsOver i → IsNotWhole i
over_not i (inl p) = λ q. cc (p, q)
over_not i (inr (inl p)) = λ q. cc (p, q)
over_not i (inr (inr p)) = λ q. cc (p, q)

four : (b m q k : Rect) → join b (join m (join q k)) ≡ join (join (join b m) q) k
four b m q k = sym (join-assoc b m (join q k)) ∙ sym (join-assoc (join b m) q k)

height_of : (r : Rect) (a b : ℕ) → Runs r (pos a) (pos b) → r.height ≡ b - a
height_of r a b h = omega (arith, ints, h.top, h.end)

-- the layers of all that is drawn but the menu bar
abbrev all_layers : ℕ → ℕ → ℕ → ViewState → List (Layer ComponentId)
all_layers w h s shown = rows_beside h s (documents_in Adjacent w shown) ++ (quit_layers w h s shown.quit_dialog ++ help_layers w h s shown.is_help_open)

module _ (same : ComponentId → ComponentId → Bool) (law : IsLawful same) where
  app-runs : (shown : ViewState) (w h s : ℕ) → 21 ≤ w → 2 ≤ h → w ≤ 65535 → h ≤ 65535
      → Runs (box_rect (followed_by (both_drawn w h s shown (second w shown)) (over_drawn w h s shown)))
      (pos (lowest s (all_layers w h s shown))) (pos (highest (end_of (menu_layer w s (menus_with shown.open_menu))) (all_layers w h s shown)))
  app-runs shown w h s wide high p r =
      let bar = menus_with shown.open_menu in
      let body = both_drawn w h s shown (second w shown) in
      let m = menu_bar_picture bar (sight w h s) (pos 0) (pos s) in
      let q = quit_picture shown.quit_dialog (sight w h s) in
      let k = help_picture shown.is_help_open (sight w h s) in
      let rows = rows_beside h s (documents_in Adjacent w shown) in
      let quit = quit_layers w h s shown.quit_dialog in
      let help = help_layers w h s shown.is_help_open in
      let last = end_of (menu_layer w s bar) in
      let columns : 2 ≤ w = omega (arith, wide) in
      let box : box_rect (followed_by body (over_drawn w h s shown)) ≡ join (join (join (box_rect body) (box_rect m)) (box_rect q)) (box_rect k) =
      box-followed body (over_drawn w h s shown)
      ∙ ap (join (box_rect body)) (box-followed (part ids.MenuBar m) (followed_by q k) ∙ ap₂ join (box-part ids.MenuBar m) (box-followed q k))
      ∙ four (box_rect body) (box_rect m) (box_rect q) (box_rect k) in
      let two = both-runs w h s shown (box_rect m) s last wide p r (bar-runs w h s shown.open_menu (omega (arith, wide))) in
      let three = quit-more same law w h s shown.quit_dialog _ _ _ columns high two in
      let all = help-more same law w h s shown.is_help_open _ _ _ columns high three in
      let low : lowest (lowest (lowest s rows) quit) help ≡ lowest s (rows ++ (quit ++ help)) = sym (lowest-append s rows (quit ++ help) ∙ lowest-append (lowest s rows) quit help) in
      let top : highest (highest (highest last rows) quit) help ≡ highest last (rows ++ (quit ++ help)) = sym (highest-append last rows (quit ++ help) ∙ highest-append (highest last rows) quit help) in
      rw box (runs_as _ _ _ _ _ (ap pos low) (ap pos top) all)

pub extents-beside : AppsHaveExtentsBeside
unfolding part followed_by extent_beside
extents-beside same law shown a w h s plain =
    let body = both_drawn w h s shown (second w shown) in
    let o = over_drawn w h s shown in
    let over = overlays_draw same law w h s shown.open_menu shown.quit_dialog shown.is_help_open (omega (arith, plain.wide)) plain.high in
    let of_body = both-ids same law w h s shown plain.wide plain.width plain.height in
    let last = end_of (menu_layer w s (menus_with shown.open_menu)) in
    let quit = quit_layers w h s shown.quit_dialog in
    let help = help_layers w h s shown.is_help_open in
    let none : has_id same ids.App (body.boxes ++ o.boxes) ≡ false =
    none_of same is_clickable IsNotWhole ids.App (body.boxes ++ o.boxes) (λ j p. differ same law ids.App j (λ e. p (sym (ap part_of e))))
    (each-append IsNotWhole body.boxes o.boxes (each_more (IsPart Body) IsNotWhole body.boxes (λ i p q. cc (p, q)) of_body) (each_more IsOver IsNotWhole o.boxes over_not over.ids)) in
    ap (λ (m : Picture ComponentId). height_of_box (box_of same ids.App ((ids.App, box_rect m) ∷ m.boxes))) (app-is shown a w h s plain)
    ∙ ap height_of_box (box_of-first same ids.App (box_rect (followed_by body o)) (body.boxes ++ o.boxes) (law.self ids.App) none)
    ∙ height_of (box_rect (followed_by body o)) (lowest s (all_layers w h s shown)) (highest last (all_layers w h s shown)) (app-runs same law shown w h s plain.wide plain.high plain.width plain.height)
    ∙ ap (λ (m : CommitViewMode). highest last (rows_beside h s (documents_in m w shown) ++ (quit ++ help)) - lowest s (rows_beside h s (documents_in m w shown) ++ (quit ++ help))) (sym plain.view_mode)
