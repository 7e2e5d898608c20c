-- The boxes of the keys of two commits are on the rows of their places.
use Rattle.std.proofs.Common.{◌≡◌, ℕ, ◌+◌, ◌≤◌, Bool, true, false, List, [], ◌∷◌, ◌++◌, refl, sym, ap, ◌∙◌, subst, arith, append-nil, inl, inr}
use Rattle.std.specs.Prelude.{◌||◌, None, option_map}
use Rattle.std.specs.List.{flat_map}
use Rattle.scm_render.specs.Hits.{IsLawful, has_id, second_or, first_of_two, box_of}
use Rattle.scm_render.specs.Picture.{Box, Picture, followed_by, part, box_rect}
use Rattle.scm_render.proofs.HitLemmas.{Each, two_none}
use Rattle.scm_types.specs.declared.keys.SelectionKey.{SelectionKey}
use Rattle.scm_widgets.specs.declared.ids.ComponentId.{ComponentId}
use Rattle.scm_widgets.specs.declared.ids.ComponentId.TheVariants as ids
use Rattle.scm_widgets.specs.Clicks.{is_clickable}
use Rattle.scm_widgets.specs.Pictures.{IdPicture}
use Rattle.scm_widgets.proofs.DrawsStrips.{none_of}
use Rattle.scm_widgets.proofs.IdBoxLemmas.{second_none, box_of-append, box_of-absent, box_of-other, box_of-before}
use Rattle.scm_document.specs.declared.commit_view.CommitViewMode.{CommitViewMode}
use Rattle.scm_document.specs.declared.commit_view.CommitViewMode.TheVariants.{Adjacent}
use Rattle.scm_document.specs.DocumentRows.{rows_of_key}
use Rattle.scm_document.specs.Places.{Place, places}
use Rattle.scm_document.specs.Rows.{Document}
use Rattle.scm_document.proofs.FilesOf.{HasItsIds}
use Rattle.scm_document.proofs.PlaceLemmas.{rows-append}
use Rattle.scm_overlay.proofs.MenuLemmas.{differ}
use Rattle.scm_overlay.proofs.OverlayLemmas.{IsOver, body_or_over, overlays_draw}
use Rattle.scm_screen.specs.Beside.{Placed, document_at, documents_in, span_beside}
use Rattle.scm_strips.specs.declared.area.Area.{Area}
use Rattle.scm_strips.specs.Shows.{whole}
use Rattle.scm_view.specs.ViewState.{ViewState}
use Rattle.scm_view.specs.Window.{rows_of_box}
use Rattle.scm_view.proofs.FileOwnerLemmas.{IsFileFrom}
use Rattle.scm_view.proofs.PlaceLemmas.{Places, all-append, places_still}
use Rattle.scm_view.proofs.SessionLemmas.{session-ids}
use Rattle.scm_beside_laws.specs.Laws.{KeysHaveRowsBeside}
use Rattle.scm_beside_laws.proofs.BesideLemmas.{app-is, both_drawn, drawn, half, half-wide, over_drawn, second, second-seen}
use Rattle.scm_beside_laws.proofs.BesideOwnerLemmas.{IsOfPart, one_part, other-file, part-ids}
use Rattle.scm_beside_laws.proofs.KeyLemmas.{document-placed}
use Rattle.scm_beside_laws.proofs.SeenLemmas.{ShowsArea, area_sight, shows-area}

module _ (same : ComponentId → ComponentId → Bool) where
  after-none : (i : ComponentId) (cs bs : List (Box ComponentId)) → has_id same i cs ≡ false → box_of same i (cs ++ bs) ≡ box_of same i bs
  after-none i cs bs e = box_of-append same i cs bs ∙ ap (λ o. second_or o (box_of same i bs)) (box_of-absent same i cs e) ∙ second_none (box_of same i bs)

  -- two pictures that have no key in common
  two-placed : (a b : IdPicture) (ps qs : List Place) → Places same a ps → Places same b qs
      → ((k : SelectionKey) → has_id same (ids.SelectableItem k) a.boxes ≡ true → has_id same (ids.SelectableItem k) b.boxes ≡ false) → Places same (followed_by a b) (ps ++ qs)
  unfolding followed_by
  two-placed a b ps qs pa pb apart = record { at = λ k. go k (has_id same (ids.SelectableItem k) a.boxes) refl; rows = all-append ps qs pa.rows pb.rows }
    where
      go : (k : SelectionKey) (t : Bool) → has_id same (ids.SelectableItem k) a.boxes ≡ t → option_map rows_of_box (box_of same (ids.SelectableItem k) (a.boxes ++ b.boxes)) ≡ rows_of_key k (ps ++ qs)
      go k true e =
          let other = apart k e in
          let none : rows_of_key k qs ≡ None = sym (pb.at k) ∙ ap (option_map rows_of_box) (box_of-absent same (ids.SelectableItem k) b.boxes other) in
          ap (option_map rows_of_box) (box_of-before same (ids.SelectableItem k) a.boxes b.boxes other) ∙ pa.at k
          ∙ sym (rows-append k ps qs pa.rows ∙ ap (first_of_two (rows_of_key k ps)) none ∙ two_none (rows_of_key k ps))
      go k false e =
          let none : rows_of_key k ps ≡ None = sym (pa.at k) ∙ ap (option_map rows_of_box) (box_of-absent same (ids.SelectableItem k) a.boxes e) in
          ap (option_map rows_of_box) (after-none (ids.SelectableItem k) a.boxes b.boxes e) ∙ pb.at k
          ∙ sym (rows-append k ps qs pa.rows ∙ ap (λ o. first_of_two o (rows_of_key k qs)) none)

-- a key's part of a document is one of a file
item-file : (commit : ℕ) (k : SelectionKey) → IsOfPart commit (ids.SelectableItem k) → IsFileFrom commit 0 (ids.SelectableItem k)
item-file commit k (inl e) = absurd (cc e)
item-file commit k (inr (inl (inl e))) = absurd (cc e)
item-file commit k (inr (inl (inr e))) = absurd (cc e)
item-file commit k (inr (inr p)) = p

module _ (same : ComponentId → ComponentId → Bool) (law : IsLawful same) where
  -- an id of one of the boxes is of their kind
  kind-of : (P : ComponentId → Type 0) (i : ComponentId) (bs : List (Box ComponentId)) → Each P bs → has_id same i bs ≡ true → P i
  unfolding has_id
  kind-of P i [] h e = absurd (cc e)
  kind-of P i (b ∷ bs) h e = (elim (same i b.0) as (λ t. same i b.0 ≡ t → (has_id same i bs ≡ true → P i) → (t || has_id same i bs) ≡ true → P i) [ true ↦ (λ q more r. subst P (sym (law.same i b.0 q)) h.0) | false ↦ (λ q more r. more r) ]) refl (kind-of P i bs h.1) e

  part-placed : (d : Document) (w h s : ℕ) (a : Area) → ShowsArea (area_sight w h s a) w h s a → HasItsIds d → Places same (one_part w h s a d) (places 1 d)
  part-placed d w h s a o own = places_still same law (drawn w h s a d) ids.AppFiles (places 1 d) refl (document-placed same law d (area_sight w h s a) w a (s + 1) o.wide o.seen o.first own)

  both-placed : (w h s : ℕ) (shown : ViewState) → 21 ≤ w → w ≤ 65535 → h ≤ 65535 → Places same (both_drawn w h s shown (second w shown)) (places 1 (document_at shown 0) ++ places 1 (document_at shown 1))
  both-placed w h s shown wide p q =
      let a = whole (half w) in
      let b = second w shown in
      let size = half-wide w wide in
      let area = shows-area w h s a size.0 (omega (arith, size)) p q in
      let other = second-seen shown w h s wide p q in
      let first = one_part w h s a (document_at shown 0) in
      let later = one_part w h s b (document_at shown 1) in
      let differs : 0 ≡ 1 → ⊥ = λ e. absurd (omega (arith, e)) in
      two-placed same first later (places 1 (document_at shown 0)) (places 1 (document_at shown 1))
      (part-placed (document_at shown 0) w h s a area (session-ids shown 0)) (part-placed (document_at shown 1) w h s b other (session-ids shown 1))
      (λ k e.
      let file = item-file 0 k (kind-of (IsOfPart 0) (ids.SelectableItem k) first.boxes (part-ids same law (document_at shown 0) w h s a area (session-ids shown 0)) e) in
      none_of same is_clickable (IsOfPart 1) (ids.SelectableItem k) later.boxes (λ j r. other-file same law 0 1 differs (ids.SelectableItem k) j file r) (part-ids same law (document_at shown 1) w h s b other (session-ids shown 1)))

  -- ---- all that is drawn

  keys-are : (w : ℕ) (shown : ViewState) (k : SelectionKey) → shown.view_mode ≡ Adjacent → rows_of_key k (places 1 (document_at shown 0) ++ places 1 (document_at shown 1)) ≡ span_beside w shown k
  unfolding span_beside
  keys-are w shown k mode =
      ap (λ (ps : List Place). rows_of_key k (places 1 (document_at shown 0) ++ ps)) (sym (append-nil (places 1 (document_at shown 1))))
      ∙ ap (λ (m : CommitViewMode). rows_of_key k (flat_map (λ (p : Placed). places 1 p.document) (documents_in m w shown))) (sym mode)

pub keys-beside : KeysHaveRowsBeside
unfolding part followed_by
keys-beside same law shown a w h s plain k =
    let body = both_drawn w h s shown (second w shown) in
    let o = over_drawn w h s shown in
    let over = overlays_draw same law w h s shown.open_menu shown.quit_dialog shown.is_help_open (omega (arith, plain.wide)) plain.high in
    let i = ids.SelectableItem k in
    let not_app : same i ids.App ≡ false = differ same law i ids.App (λ e. cc e) in
    let not_over : has_id same i o.boxes ≡ false = none_of same is_clickable IsOver i o.boxes (λ j p. body_or_over same law i j refl p) over.ids in
    ap (λ (m : Picture ComponentId). option_map rows_of_box (box_of same i ((ids.App, box_rect m) ∷ m.boxes))) (app-is shown a w h s plain)
    ∙ ap (option_map rows_of_box) (box_of-other same i ids.App _ (body.boxes ++ o.boxes) not_app ∙ box_of-before same i body.boxes o.boxes not_over)
    ∙ (both-placed same law w h s shown plain.wide plain.width plain.height).at k
    ∙ keys-are same law w shown k plain.view_mode
