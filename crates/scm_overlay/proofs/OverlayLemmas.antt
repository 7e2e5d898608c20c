-- What lies over the document is drawn as its layers say: what each row shows, and who owns its columns.
use Rattle.std.proofs.Common.{◌≡◌, ℕ, ◌<◌, ◌≤◌, Bool, true, false, List, [], ◌∷◌, ◌++◌, length, refl, sym, ap, ap₂, ◌∙◌, arith, ◌⊎◌, inl, inr}
use Rattle.std.specs.Prelude.{pos, Option, Some, None}
use Rattle.std.specs.Ordering.{int_eq}
use Rattle.std.proofs.lemmas.Bool.Decides.{Decides-int_eq}
use Rattle.scm_render.specs.Picture.{Picture, nothing, followed_by}
use Rattle.scm_render.specs.Canvas.{Row, paint}
use Rattle.scm_render.specs.Drawing.{has_row}
use Rattle.scm_render.specs.Hits.{IsLawful, first_of_two, hit}
use Rattle.scm_render.specs.Lines.{line}
use Rattle.scm_render.proofs.PaintLemmas.{paint-append}
use Rattle.scm_render.proofs.HitLemmas.{Each, each-append, each_more, hit_apart, two_none, two_assoc}
use Rattle.scm_widgets.specs.declared.ids.ComponentId.{ComponentId}
use Rattle.scm_overlay.specs.declared.menu_bar.MenuBar.{MenuBar}
use Rattle.scm_overlay.specs.declared.quit_dialog.QuitDialog.{QuitDialog}
use Rattle.scm_widgets.specs.Blanks.{blanked}
use Rattle.scm_widgets.specs.Clicks.{is_clickable}
use Rattle.scm_overlay.proofs.Parts.{Help, Leaving, Menus, Body}
use Rattle.scm_widgets.specs.Layers.{Strip, Layer, strip_at, shown_by, owned_by}
use Rattle.scm_overlay.specs.Menus.{headers_strip, menu_layer}
use Rattle.scm_overlay.specs.Tables.{menus_with, quit_dialog, help_dialog, named_dialog_picture}
use Rattle.scm_widgets.specs.Screens.{screen, sight}
use Rattle.scm_overlay.specs.Overlays.{quit_picture, help_picture, quit_layers, help_layers, overlays}
use Rattle.scm_overlay.proofs.OverlaysPicture.{overlays_picture}
use Rattle.scm_widgets.proofs.DrawsStrips.{DrawsStrips, Apart, apart, length-paint}
use Rattle.scm_overlay.proofs.MenuLemmas.{IsPart, differ, menus_draw}
use Rattle.scm_overlay.proofs.DialogLemmas.{dialog_draws}
use Rattle.scm_overlay.proofs.FixedLemmas.{open_is_wide, quit_is_dialog, help_is_dialog}

-- ---- pictures that draw layers

module _ {K : Type 0} (same_id : K → K → Bool) (clicks : K → Bool) where
  -- on a screen of w columns and h rows at row s of the document, and with ids that are all of a kind
  pub record DrawsLayers (w h s : ℕ) (P : K → Type 0) (m : Picture K) (ls : List (Layer K)) : Type 0 where
    pub paints : (z : ℕ) (row : Row) → has_row (screen w h s) (pos z) ≡ true → length row ≡ w → paint (screen w h s) m.puts (pos z) row ≡ shown_by ls z row
    pub owns : (rep : K → Bool) → ((i : K) → P i → rep i ≡ false) → (z x : ℕ) → x < w → hit same_id clicks rep m.boxes (pos z) (pos x) ≡ owned_by ls z x
    pub ids : Each P m.boxes

  pub shown-append : (ls ks : List (Layer K)) (z : ℕ) (row : Row) → shown_by (ls ++ ks) z row ≡ shown_by ks z (shown_by ls z row)
  unfolding shown_by
  shown-append [] ks z row = refl
  shown-append (l ∷ ls) ks z row = shown-append ls ks z ((strip_at z l).shows row)

  pub owned-append : (ls ks : List (Layer K)) (z x : ℕ) → owned_by (ls ++ ks) z x ≡ first_of_two (owned_by ks z x) (owned_by ls z x)
  unfolding owned_by
  owned-append [] ks z x = sym (two_none (owned_by ks z x))
  owned-append (l ∷ ls) ks z x = ap (λ o. first_of_two o ((strip_at z l).owner x)) (owned-append ls ks z x) ∙ two_assoc (owned_by ks z x) (owned_by ls z x) ((strip_at z l).owner x)

  one_layer : (w h s first : ℕ) (P : K → Type 0) (m : Picture K) (ss : List (Strip K)) → DrawsStrips same_id clicks (screen w h s) P m (pos first) ss → DrawsLayers w h s P m (record { first = first; strips = ss } ∷ [])
  unfolding shown_by owned_by
  one_layer w h s first P m ss d = record {
    paints = λ z row p q. d.paints (pos z) row p q;
    owns = λ rep live z x p. d.owns rep live (pos z) x p;
    ids = d.ids;
  }

  no_layer : (w h s : ℕ) (P : K → Type 0) → DrawsLayers w h s P nothing []
  unfolding shown_by owned_by nothing paint hit
  no_layer w h s P = record { paints = λ z row p q. refl; owns = λ rep live z x p. refl; ids = tt }

  -- layers, and others over them
  pub both_layers : (w h s : ℕ) (P Q R : K → Type 0) (a b : Picture K) (ls ks : List (Layer K)) → DrawsLayers w h s P a ls → DrawsLayers w h s Q b ks
      → Apart same_id clicks P Q → ((i : K) → P i → R i) → ((i : K) → Q i → R i) → DrawsLayers w h s R (followed_by a b) (ls ++ ks)
  unfolding followed_by
  both_layers w h s P Q R a b ls ks da db differ p q = record {
    paints = λ z row h1 k.
        paint-append (screen w h s) a.puts b.puts (pos z) row ∙ db.paints z (paint (screen w h s) a.puts (pos z) row) h1 (length-paint (screen w h s) a.puts (pos z) row k)
        ∙ ap (shown_by ks z) (da.paints z row h1 k) ∙ sym (shown-append ls ks z row);
    owns = λ rep live z x h1.
        hit_apart same_id clicks rep a.boxes b.boxes (pos z) (pos x) (apart same_id clicks P Q a.boxes b.boxes differ da.ids db.ids)
        ∙ ap₂ first_of_two (db.owns rep (λ i k. live i (q i k)) z x h1) (da.owns rep (λ i k. live i (p i k)) z x h1) ∙ sym (owned-append ls ks z x);
    ids = each-append R a.boxes b.boxes (each_more P R a.boxes p da.ids) (each_more Q R b.boxes q db.ids);
  }

-- ---- the menu bar and the dialogs

-- a part of a dialog
abbrev pub IsOfDialog : ComponentId → Type 0
IsOfDialog i = IsPart Leaving i ⊎ IsPart Help i

-- a part of what lies over the document
abbrev pub IsOver : ComponentId → Type 0
IsOver i = IsPart Menus i ⊎ IsOfDialog i

module _ (same_id : ComponentId → ComponentId → Bool) (law : IsLawful same_id) where
  quit_over : (w h s : ℕ) (q : Option QuitDialog) → 2 ≤ w → 2 ≤ h → DrawsLayers same_id is_clickable w h s (IsPart Leaving) (quit_picture q (sight w h s)) (quit_layers w h s q)
  unfolding named_dialog_picture
  quit_over w h s None a b = no_layer same_id is_clickable w h s (IsPart Leaving)
  quit_over w h s (Some q) a b =
      one_layer same_id is_clickable w h s _ (IsPart Leaving) _ _ (dialog_draws same_id law is_clickable w h s (IsPart Leaving) (quit_dialog q) (quit_is_dialog same_id law q) a b)

  help_over : (w h s : ℕ) (open_help : Bool) → 2 ≤ w → 2 ≤ h → DrawsLayers same_id is_clickable w h s (IsPart Help) (help_picture open_help (sight w h s)) (help_layers w h s open_help)
  unfolding named_dialog_picture
  help_over w h s true a b = one_layer same_id is_clickable w h s _ (IsPart Help) _ _ (dialog_draws same_id law is_clickable w h s (IsPart Help) help_dialog (help_is_dialog same_id law) a b)
  help_over w h s false a b = no_layer same_id is_clickable w h s (IsPart Help)

  leaving_or_help : Apart same_id is_clickable (IsPart Leaving) (IsPart Help)
  leaving_or_help i j p q = differ same_id law i j (λ e. cc (p, q, e))

  menus_or_dialog : Apart same_id is_clickable (IsPart Menus) IsOfDialog
  menus_or_dialog i j p (inl q) = differ same_id law i j (λ e. cc (p, q, e))
  menus_or_dialog i j p (inr q) = differ same_id law i j (λ e. cc (p, q, e))

  pub body_or_over : Apart same_id is_clickable (IsPart Body) IsOver
  body_or_over i j p (inl q) = differ same_id law i j (λ e. cc (p, q, e))
  body_or_over i j p (inr (inl q)) = differ same_id law i j (λ e. cc (p, q, e))
  body_or_over i j p (inr (inr q)) = differ same_id law i j (λ e. cc (p, q, e))

  -- whichever menu and dialogs are open
  pub overlays_draw : (w h s : ℕ) (menu : Option ℕ) (quit : Option QuitDialog) (open_help : Bool) → 2 ≤ w → 2 ≤ h
      → DrawsLayers same_id is_clickable w h s IsOver (overlays_picture w h s menu quit open_help) (overlays w h s menu quit open_help)
  overlays_draw w h s menu quit open_help a b =
      both_layers same_id is_clickable w h s (IsPart Menus) IsOfDialog IsOver _ _ (menu_layer w s (menus_with menu) ∷ []) (quit_layers w h s quit ++ help_layers w h s open_help)
      (one_layer same_id is_clickable w h s s (IsPart Menus) _ _ (menus_draw same_id law w h s (menus_with menu) (omega arith) (open_is_wide menu)))
      (both_layers same_id is_clickable w h s (IsPart Leaving) (IsPart Help) IsOfDialog _ _ (quit_layers w h s quit) (help_layers w h s open_help)
      (quit_over w h s quit a b) (help_over w h s open_help a b)
      leaving_or_help (λ i p. inl p) (λ i p. inr p))
      menus_or_dialog (λ i p. inl p) (λ i p. inr p)

-- ---- the row of the menu bar

-- the menu bar hides the row under it
pub bar_at : (w s : ℕ) (bar : MenuBar) (row : Row) → (strip_at s (menu_layer w s bar)).shows row ≡ (headers_strip w 0 0 bar.menus).shows (blanked 0 w row)
unfolding line
bar_at w s bar row =
    let here : int_eq (pos s) (pos s) ≡ true = (Decides-int_eq (pos s) (pos s)).1 refl in
    rw here refl
