-- Whom a click hits on the whole screen, and where the keys' boxes are, from what is known of the document's boxes.
use Rattle.std.proofs.Common.{◌≡◌, ℕ, ◌<◌, Bool, false, ◌∷◌, ◌++◌, refl, sym, ap, ap₂, ◌∙◌, arith}
use Rattle.std.specs.Prelude.{pos, option_map}
use Rattle.scm_render.specs.Picture.{Picture, followed_by, part, box_rect}
use Rattle.scm_render.specs.Hits.{IsLawful, has_id, box_of, first_of_two, hit, latest}
use Rattle.scm_render.proofs.HitLemmas.{Each, hit_apart, hit_still}
use Rattle.scm_types.specs.declared.keys.SelectionKey.{SelectionKey}
use Rattle.scm_widgets.specs.declared.ids.ComponentId.{ComponentId}
use Rattle.scm_widgets.specs.declared.ids.ComponentId.TheVariants as ids
use Rattle.scm_view.specs.declared.app_view.AppView.{AppView}
use Rattle.scm_widgets.specs.Clicks.{is_clickable}
use Rattle.scm_overlay.proofs.Parts.{Body}
use Rattle.scm_widgets.specs.Layers.{owned_by}
use Rattle.scm_overlay.specs.Overlays.{overlays}
use Rattle.scm_document.specs.Places.{places}
use Rattle.scm_widgets.specs.Screens.{sight}
use Rattle.scm_view.specs.ViewState.{ViewState}
use Rattle.scm_view.specs.AppView.{app_picture}
use Rattle.scm_view.specs.Window.{inline_document, body_layers, owner, rows_of_box, span, IsPlain, ClicksFindOwners, KeysHaveRows}
use Rattle.scm_document.specs.DocumentRows.{rows_of_key}
use Rattle.scm_widgets.proofs.DrawsStrips.{none_of, apart}
use Rattle.scm_widgets.proofs.IdBoxLemmas.{box_of-other, box_of-before}
use Rattle.scm_overlay.proofs.MenuLemmas.{IsPart, differ}
use Rattle.scm_overlay.proofs.OverlayLemmas.{DrawsLayers, owned-append, IsOver, body_or_over, overlays_draw}
use Rattle.scm_view.proofs.SessionLemmas.{session-ids}
use Rattle.scm_view.proofs.DocumentOwnerLemmas.{body-owners, body-ids}
use Rattle.scm_view.proofs.DocumentKeyLemmas.{body-keys}
use Rattle.scm_view.proofs.WindowLemmas.{body_drawn, over_drawn, app-is}

-- the document's part of the picture
abbrev pub body_part : ℕ → ℕ → ℕ → ViewState → Picture ComponentId
body_part w h s shown = part ids.AppFiles (body_drawn w h s shown)

module _ (same : ComponentId → ComponentId → Bool) (law : IsLawful same) where
  -- the document's boxes own what its layers say, where none of them is replaced later
  abbrev pub BodyOwns : ℕ → ℕ → ℕ → ViewState → Type 0
  BodyOwns w h s shown =
      (rep : ComponentId → Bool) → ((i : ComponentId) → IsPart Body i → rep i ≡ false) → (y x : ℕ) → x < w
      → hit same is_clickable rep (body_part w h s shown).boxes (pos y) (pos x) ≡ owned_by (body_layers w h s (inline_document shown)) y x

  -- each key's box among them is on the key's rows
  abbrev pub BodyHasKeys : ℕ → ℕ → ℕ → ViewState → Type 0
  BodyHasKeys w h s shown =
      (k : SelectionKey) → option_map rows_of_box (box_of same (ids.SelectableItem k) (body_part w h s shown).boxes) ≡ rows_of_key k (places 1 (inline_document shown))

  over_draws : (shown : ViewState) (a : AppView) (w h s : ℕ) → IsPlain a shown w h
      → DrawsLayers same is_clickable w h s IsOver (over_drawn w h s shown) (overlays w h s shown.open_menu shown.quit_dialog shown.is_help_open)
  over_draws shown a w h s plain =
      overlays_draw same law w h s shown.open_menu shown.quit_dialog shown.is_help_open (omega (arith, plain.wide)) plain.high

  pub owners-from : (shown : ViewState) (a : AppView) (w h s : ℕ) → IsPlain a shown w h → Each (IsPart Body) (body_part w h s shown).boxes → BodyOwns w h s shown → (y x : ℕ) → x < w
      → latest same is_clickable (part ids.App (app_picture a (sight w h s) (pos 0) (pos 0))).boxes (pos y) (pos x) ≡ owner w h s shown y x
  unfolding part followed_by owner
  owners-from shown a w h s plain of_body owns y x within =
      let body = body_part w h s shown in
      let o = over_drawn w h s shown in
      let over = over_draws shown a w h s plain in
      let none : ComponentId → Bool = λ i. false in
      ap (λ (m : Picture ComponentId). hit same is_clickable none ((ids.App, box_rect m) ∷ m.boxes) (pos y) (pos x)) (app-is shown a w h s plain)
      ∙ hit_still same is_clickable none (ids.App, box_rect (followed_by body o)) (body.boxes ++ o.boxes) (pos y) (pos x) refl
      ∙ hit_apart same is_clickable none body.boxes o.boxes (pos y) (pos x) (apart same is_clickable (IsPart Body) IsOver body.boxes o.boxes (body_or_over same law) of_body over.ids)
      ∙ ap₂ first_of_two (over.owns none (λ i p. refl) y x within) (owns none (λ i p. refl) y x within)
      ∙ sym (owned-append same is_clickable (body_layers w h s (inline_document shown)) (overlays w h s shown.open_menu shown.quit_dialog shown.is_help_open) y x)

  pub keys-from : (shown : ViewState) (a : AppView) (w h s : ℕ) → IsPlain a shown w h → BodyHasKeys w h s shown → (k : SelectionKey)
      → option_map rows_of_box (box_of same (ids.SelectableItem k) (part ids.App (app_picture a (sight w h s) (pos 0) (pos 0))).boxes) ≡ span shown k
  unfolding part followed_by span
  keys-from shown a w h s plain keys k =
      let body = body_part w h s shown in
      let o = over_drawn w h s shown in
      let over = over_draws shown a w h s plain in
      let i = ids.SelectableItem k in
      let not_app : same i ids.App ≡ false = differ same law i ids.App (λ e. cc e) in
      let not_over : has_id same i o.boxes ≡ false = none_of same is_clickable IsOver i o.boxes (λ j p. body_or_over same law i j refl p) over.ids in
      ap (λ (m : Picture ComponentId). option_map rows_of_box (box_of same i ((ids.App, box_rect m) ∷ m.boxes))) (app-is shown a w h s plain)
      ∙ ap (option_map rows_of_box) (box_of-other same i ids.App _ (body.boxes ++ o.boxes) not_app ∙ box_of-before same i body.boxes o.boxes not_over)
      ∙ keys k

-- the document that a session shows has the ids of its keys, and so its boxes own what its layers say
pub finds-owners : ClicksFindOwners
finds-owners same law shown a w h s plain y x within =
    let d = inline_document shown in
    owners-from same law shown a w h s plain (body-ids same law d w h s plain.wide (session-ids shown 0)) (λ rep live. body-owners same law d w h s plain.wide plain.high (session-ids shown 0) rep live) y x within

-- and each key's box is on the key's rows
pub keys-rows : KeysHaveRows
keys-rows same law shown a w h s plain k = keys-from same law shown a w h s plain (body-keys same law (inline_document shown) w h s plain.wide (session-ids shown 0)) k
