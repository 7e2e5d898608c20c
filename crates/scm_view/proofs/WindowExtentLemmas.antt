-- How many rows all that is drawn spans, from the rows of the document's box.
use Rattle.std.proofs.Common.{◌≡◌, ℕ, ◌+◌, ◌-◌, ◌<◌, ◌≤◌, min, max, Bool, true, false, [], ◌∷◌, ◌++◌, length, refl, sym, ap, ap₂, ◌∙◌, arith, inl, inr}
use Rattle.std.specs.Prelude.{ℤ, pos, Option, Some, None}
use Rattle.std.specs.Int.{int_min, int_max}
use Rattle.std.proofs.lemmas.Int.{ints, clamps}
use Rattle.std.proofs.lemmas.List.Sums.{fold-append}
use Rattle.scm_cells.specs.declared.rect.Rect.{Rect}
use Rattle.scm_render.specs.Picture.{Picture, nothing, followed_by, part, box_rect}
use Rattle.scm_render.specs.Around.{join}
use Rattle.scm_render.specs.Centring.{centred_gap, centred_size}
use Rattle.scm_render.specs.Hits.{IsLawful, has_id, box_of}
use Rattle.scm_render.proofs.AroundLemmas.{join-assoc}
use Rattle.scm_render.proofs.HitLemmas.{Each, each-append, each_more}
use Rattle.scm_widgets.specs.declared.ids.ComponentId.{ComponentId}
use Rattle.scm_widgets.specs.declared.ids.ComponentId.TheVariants as ids
use Rattle.scm_view.specs.declared.app_view.AppView.{AppView}
use Rattle.scm_overlay.specs.declared.quit_dialog.QuitDialog.{QuitDialog}
use Rattle.scm_widgets.specs.Clicks.{is_clickable}
use Rattle.scm_overlay.proofs.Parts.{Leaving, Help, Body, Whole, part_of}
use Rattle.scm_widgets.specs.Layers.{Layer, end_of}
use Rattle.scm_overlay.specs.Menus.{menu_bar_picture, menu_strips, menu_layer}
use Rattle.scm_widgets.proofs.OwnButtons.{IsDialog}
use Rattle.scm_widgets.specs.ShownDialogs.{ShownDialog}
use Rattle.scm_overlay.specs.Dialogs.{dialog_layer, dialog_picture, widest_line}
use Rattle.scm_overlay.specs.Tables.{menus_with, quit_dialog, help_dialog, named_dialog_picture}
use Rattle.scm_overlay.specs.Overlays.{quit_picture, help_picture, quit_layers, help_layers}
use Rattle.scm_widgets.specs.Screens.{sight}
use Rattle.scm_view.specs.ViewState.{ViewState}
use Rattle.scm_view.specs.AppView.{app_picture}
use Rattle.scm_view.specs.Window.{inline_document, height_of_box, extent, IsPlain, AppsHaveExtents}
use Rattle.scm_document.specs.DocumentRows.{rows_layers}
use Rattle.scm_widgets.proofs.DrawsStrips.{none_of, box-followed, box-part}
use Rattle.scm_overlay.proofs.DialogLemmas.{centred_60, centred_20, join-none, box-none, box-placed, length-dialog, dialog-is}
use Rattle.scm_overlay.proofs.FixedLemmas.{open_is_wide, quit_is_dialog, help_is_dialog}
use Rattle.scm_document.proofs.RunLemmas.{Runs, runs_more, runs_as, runs_of, lowest, highest}
use Rattle.scm_view.proofs.SessionLemmas.{session-ids}
use Rattle.scm_view.proofs.DocumentOwnerLemmas.{body-ids}
use Rattle.scm_document.proofs.DocumentExtentLemmas.{body-runs}
use Rattle.scm_widgets.proofs.IdBoxLemmas.{box_of-first}
use Rattle.scm_overlay.proofs.MenuLemmas.{IsPart, differ, bar_spans}
use Rattle.scm_overlay.proofs.OverlayLemmas.{IsOver, overlays_draw}
use Rattle.scm_view.proofs.WindowLemmas.{over_drawn, app-is}
use Rattle.scm_view.proofs.WindowOwnerLemmas.{body_part}

-- ---- the menu bar and the dialogs

bar-runs : (w h s : ℕ) (menu : Option ℕ) → 0 < w → Runs (box_rect (menu_bar_picture (menus_with menu) (sight w h s) (pos 0) (pos s))) (pos s) (pos (end_of (menu_layer w s (menus_with menu))))
bar-runs w h s menu some = runs_of _ (pos s) (length (menu_strips w (menus_with menu))) (pos 0) w (omega arith) (omega (arith, ints)) (bar_spans w h s (menus_with menu) some (open_is_wide menu))

module _ (same : ComponentId → ComponentId → Bool) (law : IsLawful same) where
  dialog-runs : (w h s : ℕ) (P : ComponentId → Type 0) (d : ShownDialog ComponentId) → IsDialog same is_clickable P d → 2 ≤ w → 2 ≤ h
      → Runs (box_rect (dialog_picture d (sight w h s))) (pos (dialog_layer w h s d).first) (pos (end_of (dialog_layer w h s d)))
  dialog-runs w h s P d good a b =
      let x = centred_60 w (widest_line d.body + 2) a (omega arith) in
      let y = centred_20 h (length d.body + 2) b (omega arith) in
      let n = centred_size w (widest_line d.body + 2) 60 in
      let m = centred_size h (length d.body + 2) 20 in
      let c = centred_gap w (widest_line d.body + 2) 60 in
      let top = s + centred_gap h (length d.body + 2) 20 in
      let box = box-placed same law is_clickable w h s c top n m P d good x.some y.some in
      rw (dialog-is w h s d, length-dialog w c n m d y.some)
      (record { some = box.some; top = box.top; end = rw (box.rows, box.top) refl })

  -- a run, and a dialog that is drawn as a part of its own id
  dialog-more : (w h s : ℕ) (P : ComponentId → Type 0) (d : ShownDialog ComponentId) (r : Rect) (a b : ℕ) → IsDialog same is_clickable P d → 2 ≤ w → 2 ≤ h → Runs r (pos a) (pos b)
      → Runs (join r (box_rect (part d.id (part d.id (dialog_picture d (sight w h s)))))) (pos (lowest a (dialog_layer w h s d ∷ []))) (pos (highest b (dialog_layer w h s d ∷ [])))
  dialog-more w h s P d r a b good x y run =
      let l = dialog_layer w h s d in
      let low : int_min (pos a) (pos l.first) ≡ pos (min a l.first) = omega (arith, ints, clamps) in
      let high : int_max (pos b) (pos (end_of l)) ≡ pos (max b (end_of l)) = omega (arith, ints, clamps) in
      rw (box-part d.id (part d.id (dialog_picture d (sight w h s))), box-part d.id (dialog_picture d (sight w h s)))
      (runs_as _ _ _ _ _ low high (runs_more r _ (pos a) (pos b) _ _ run (dialog-runs w h s P d good x y)))

  none-more : (r : Rect) (a b : ℤ) → Runs r a b → Runs (join r (box_rect (nothing {K = ComponentId}))) a b
  none-more r a b run = rw (box-none ComponentId, join-none r) run

  quit-more : (w h s : ℕ) (q : Option QuitDialog) (r : Rect) (a b : ℕ) → 2 ≤ w → 2 ≤ h → Runs r (pos a) (pos b)
      → Runs (join r (box_rect (quit_picture q (sight w h s)))) (pos (lowest a (quit_layers w h s q))) (pos (highest b (quit_layers w h s q)))
  unfolding named_dialog_picture
  quit-more w h s None r a b x y run = none-more r (pos a) (pos b) run
  quit-more w h s (Some q) r a b x y run = dialog-more w h s (IsPart Leaving) (quit_dialog q) r a b (quit_is_dialog same law q) x y run

  help-more : (w h s : ℕ) (open_help : Bool) (r : Rect) (a b : ℕ) → 2 ≤ w → 2 ≤ h → Runs r (pos a) (pos b)
      → Runs (join r (box_rect (help_picture open_help (sight w h s)))) (pos (lowest a (help_layers w h s open_help))) (pos (highest b (help_layers w h s open_help)))
  unfolding named_dialog_picture
  help-more w h s true r a b x y run = dialog-more w h s (IsPart Help) help_dialog r a b (help_is_dialog same law) x y run
  help-more w h s false r a b x y run = none-more r (pos a) (pos b) run

-- ---- all that is drawn

-- the document's box, around another run of rows
abbrev pub BodyRuns : ℕ → ℕ → ℕ → ViewState → Type 0
BodyRuns w h s shown =
    (r : Rect) (a b : ℕ) → Runs r (pos a) (pos b)
    → Runs (join (box_rect (body_part w h s shown)) r) (pos (lowest a (rows_layers w h s (inline_document shown)))) (pos (highest b (rows_layers w h s (inline_document shown))))

abbrev IsNotWhole : ComponentId → Type 0
IsNotWhole i = IsPart Whole i → ⊥

over_not : (i : ComponentId) → IsOver i → IsNotWhole i
over_not i (inl p) = λ q. cc (p, q)
over_not i (inr (inl p)) = λ q. cc (p, q)
over_not i (inr (inr p)) = λ q. cc (p, q)

four : (b m q k : Rect) → join b (join m (join q k)) ≡ join (join (join b m) q) k
four b m q k = sym (join-assoc b m (join q k)) ∙ sym (join-assoc (join b m) q k)

height_of : (r : Rect) (a b : ℕ) → Runs r (pos a) (pos b) → r.height ≡ b - a
height_of r a b h = omega (arith, ints, h.top, h.end)

module _ (same : ComponentId → ComponentId → Bool) (law : IsLawful same) where
  app-runs : (shown : ViewState) (w h s : ℕ) → 10 ≤ w → 2 ≤ h → BodyRuns w h s shown
      → Runs (box_rect (followed_by (body_part w h s shown) (over_drawn w h s shown)))
      (pos (lowest s (rows_layers w h s (inline_document shown) ++ (quit_layers w h s shown.quit_dialog ++ help_layers w h s shown.is_help_open))))
      (pos (highest (end_of (menu_layer w s (menus_with shown.open_menu))) (rows_layers w h s (inline_document shown) ++ (quit_layers w h s shown.quit_dialog ++ help_layers w h s shown.is_help_open))))
  app-runs shown w h s wide high body =
      let bar = menus_with shown.open_menu in
      let m = menu_bar_picture bar (sight w h s) (pos 0) (pos s) in
      let q = quit_picture shown.quit_dialog (sight w h s) in
      let k = help_picture shown.is_help_open (sight w h s) in
      let rows = rows_layers w h s (inline_document shown) in
      let quit = quit_layers w h s shown.quit_dialog in
      let help = help_layers w h s shown.is_help_open in
      let last = end_of (menu_layer w s bar) in
      let low_step = λ (f : ℕ) (k : Layer ComponentId). min f k.first in
      let high_step = λ (e : ℕ) (k : Layer ComponentId). max e (end_of k) in
      let columns : 2 ≤ w = omega (arith, wide) in
      let box : box_rect (followed_by (body_part w h s shown) (over_drawn w h s shown)) ≡ join (join (join (box_rect (body_part w h s shown)) (box_rect m)) (box_rect q)) (box_rect k) =
      box-followed (body_part w h s shown) (over_drawn w h s shown)
      ∙ ap (join (box_rect (body_part w h s shown))) (box-followed (part ids.MenuBar m) (followed_by q k) ∙ ap₂ join (box-part ids.MenuBar m) (box-followed q k))
      ∙ four (box_rect (body_part w h s shown)) (box_rect m) (box_rect q) (box_rect k) in
      let two = body (box_rect m) s last (bar-runs w h s shown.open_menu (omega (arith, wide))) in
      let three = quit-more same law w h s shown.quit_dialog _ _ _ columns high two in
      let all = help-more same law w h s shown.is_help_open _ _ _ columns high three in
      rw (box, fold-append low_step s rows (quit ++ help), fold-append high_step last rows (quit ++ help), fold-append low_step (lowest s rows) quit help, fold-append high_step (highest last rows) quit help) all

  pub extent-from : (shown : ViewState) (a : AppView) (w h s : ℕ) → IsPlain a shown w h → Each (IsPart Body) (body_part w h s shown).boxes → BodyRuns w h s shown
      → height_of_box (box_of same ids.App (part ids.App (app_picture a (sight w h s) (pos 0) (pos 0))).boxes) ≡ extent w h s shown
  unfolding part followed_by extent
  extent-from shown a w h s plain of_body runs =
      let body = body_part w h s shown in
      let o = over_drawn w h s shown in
      let over = overlays_draw same law w h s shown.open_menu shown.quit_dialog shown.is_help_open (omega (arith, plain.wide)) plain.high in
      let none : has_id same ids.App (body.boxes ++ o.boxes) ≡ false =
      none_of same is_clickable IsNotWhole ids.App (body.boxes ++ o.boxes) (λ j p. differ same law ids.App j (λ e. p (sym (ap part_of e))))
      (each-append IsNotWhole body.boxes o.boxes (each_more (IsPart Body) IsNotWhole body.boxes (λ i p q. cc (p, q)) of_body) (each_more IsOver IsNotWhole o.boxes over_not over.ids)) in
      ap (λ (m : Picture ComponentId). height_of_box (box_of same ids.App ((ids.App, box_rect m) ∷ m.boxes))) (app-is shown a w h s plain)
      ∙ ap height_of_box (box_of-first same ids.App (box_rect (followed_by body o)) (body.boxes ++ o.boxes) (law.self ids.App) none)
      ∙ height_of (box_rect (followed_by body o)) _ _ (app-runs shown w h s plain.wide plain.high runs)

-- the document of a session has the ids of its keys, and its box is on the rows of its layers
pub has-extent : AppsHaveExtents
has-extent same law shown a w h s plain =
    let d = inline_document shown in
    let its = session-ids shown 0 in
    extent-from same law shown a w h s plain (body-ids same law d w h s plain.wide its) (λ r i j run. body-runs d w h s plain.wide plain.height its r i j run)
