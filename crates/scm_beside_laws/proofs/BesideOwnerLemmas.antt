-- Whom a click hits on a screen of two commits: the owner that the layers name.
use Rattle.std.proofs.Common.{◌≡◌, ℕ, ◌+◌, ◌-◌, ◌<◌, ◌≤◌, Bool, false, ◌∷◌, ◌++◌, refl, sym, ap, ap₂, ◌∙◌, arith, append-nil, ◌⊎◌, inl, inr}
use Rattle.std.specs.Prelude.{pos, ◌||◌, Option, Some}
use Rattle.scm_render.specs.Hits.{IsLawful, has_id, first_of_two, hit}
use Rattle.scm_render.specs.Picture.{Picture, followed_by, part, box_rect}
use Rattle.scm_render.proofs.HitLemmas.{Each, each-append, each_more, hit-append, hit_apart, hit_still}
use Rattle.scm_types.specs.declared.keys.FileKey.{FileKey}
use Rattle.scm_widgets.specs.declared.ids.ComponentId.{ComponentId}
use Rattle.scm_widgets.specs.declared.ids.ComponentId.TheVariants as ids
use Rattle.scm_widgets.specs.Clicks.{is_clickable}
use Rattle.scm_widgets.specs.Layers.{owned_by}
use Rattle.scm_widgets.proofs.DrawsStrips.{none_of, apart}
use Rattle.scm_document.specs.declared.commit_view.CommitViewMode.{CommitViewMode}
use Rattle.scm_document.specs.declared.commit_view.CommitViewMode.TheVariants.{Adjacent}
use Rattle.scm_document.specs.Rows.{Document}
use Rattle.scm_document.proofs.FilesOf.{HasItsIds}
use Rattle.scm_overlay.proofs.MenuLemmas.{IsPart, differ}
use Rattle.scm_overlay.proofs.OverlayLemmas.{IsOver, body_or_over, overlays_draw, owned-append}
use Rattle.scm_overlay.proofs.Parts.{Body, part_of}
use Rattle.scm_screen.specs.Beside.{document_at, documents_in, documents_layers, owner_beside}
use Rattle.scm_strips.specs.declared.area.Area.{Area}
use Rattle.scm_strips.specs.AreaStrips.{area_layers}
use Rattle.scm_strips.specs.Shows.{whole}
use Rattle.scm_view.specs.ViewState.{ViewState}
use Rattle.scm_view.proofs.FileOwnerLemmas.{IsFileFrom, file_of}
use Rattle.scm_view.proofs.SessionLemmas.{session-ids}
use Rattle.scm_beside_laws.specs.Laws.{ClicksFindOwnersBeside}
use Rattle.scm_beside_laws.proofs.BesideLemmas.{app-is, both_drawn, drawn, half, half-wide, over_drawn, over_layers, second, second-seen}
use Rattle.scm_beside_laws.proofs.DocumentOwnerLemmas.{IsLive, IsOfDocument, document-ids, document-owned}
use Rattle.scm_beside_laws.proofs.SeenLemmas.{ShowsArea, area_sight, shows-area}

-- ---- whose the ids are

-- a document in an area, with all its parts
abbrev pub one_part : ℕ → ℕ → ℕ → Area → Document → Picture ComponentId
one_part w h s a d = part ids.AppFiles (drawn w h s a d)

-- the whole document of a commit, or a part of it
abbrev pub IsOfPart : ℕ → ComponentId → Type 0
IsOfPart commit i = (i ≡ ids.AppFiles) ⊎ IsOfDocument commit i

-- a part of a file is one of the documents
part-file : (i : ComponentId) (k : FileKey) → file_of i ≡ Some k → part_of i ≡ Body
part-file ids.AppFiles k e = refl
part-file ids.CommitMessageView k e = refl
part-file (ids.CommitEditMessageButton n) k e = refl
part-file (ids.FileViewHeader n) k e = refl
part-file (ids.SelectableItem n) k e = refl
part-file (ids.ToggleBox n) k e = refl
part-file (ids.ExpandBox n) k e = refl
part-file _ k e = absurd (cc e)

pub of-body : (commit : ℕ) (i : ComponentId) → IsOfPart commit i → IsPart Body i
of-body commit i (inl e) = ap part_of e
of-body commit i (inr (inl (inl e))) = ap part_of e
of-body commit i (inr (inl (inr e))) = ap part_of e
of-body commit i (inr (inr p)) = part-file i p.key p.file

same-commit : (i j : ComponentId) (c d : ℕ) → i ≡ j → IsFileFrom c 0 i → IsFileFrom d 0 j → c ≡ d
same-commit i j c d e p q =
    let keys : ◌≡◌ {A = Option FileKey} (Some p.key) (Some q.key) = sym p.file ∙ ap file_of e ∙ q.file in
    let key : p.key ≡ q.key = cc keys in
    sym p.commit_is ∙ ap (λ (k : FileKey). k.commit_idx) key ∙ q.commit_is

module _ (same : ComponentId → ComponentId → Bool) (law : IsLawful same) where
  -- a part of a file is none of another commit's
  pub other-file : (c d : ℕ) → (c ≡ d → ⊥) → (i j : ComponentId) → IsFileFrom c 0 i → IsOfPart d j → same i j ≡ false
  other-file c d apart i j p (inl e) = differ same law i j (λ q. let some = p.file in cc (ap file_of (q ∙ e), some))
  other-file c d apart i j p (inr (inl (inl e))) = differ same law i j (λ q. let some = p.file in cc (ap file_of (q ∙ e), some))
  other-file c d apart i j p (inr (inl (inr e))) = differ same law i j (λ q. let some = p.file in cc (ap file_of (q ∙ e), some))
  other-file c d apart i j p (inr (inr r)) = differ same law i j (λ q. apart (same-commit i j c d q p r))

  -- neither is the button of a message
  other-button : (c d : ℕ) → (c ≡ d → ⊥) → (j : ComponentId) → IsOfPart d j → same (ids.CommitEditMessageButton c) j ≡ false
  other-button c d apart j (inl e) = differ same law (ids.CommitEditMessageButton c) j (λ q. cc (q, e))
  other-button c d apart j (inr (inl (inl e))) = differ same law (ids.CommitEditMessageButton c) j (λ q. cc (q, e))
  other-button c d apart j (inr (inl (inr e))) = differ same law (ids.CommitEditMessageButton c) j (λ q. apart (let both : ids.CommitEditMessageButton c ≡ ids.CommitEditMessageButton d = q ∙ e in cc both))
  other-button c d apart j (inr (inr r)) = differ same law (ids.CommitEditMessageButton c) j (λ q. let some = r.file in cc (ap file_of q, some))

  -- ---- one document

  pub part-ids : (d : Document) (w h s : ℕ) (a : Area) → ShowsArea (area_sight w h s a) w h s a → HasItsIds d → Each (IsOfPart d.commit) (one_part w h s a d).boxes
  unfolding part
  part-ids d w h s a o own =
      (inl refl, each_more (IsOfDocument d.commit) (IsOfPart d.commit) _ (λ i p. inr p) (document-ids same law d (area_sight w h s a) w (s + 1) a o.wide o.seen o.first own))

  part-owned : (d : Document) (w h s : ℕ) (a : Area) (rep : ComponentId → Bool) (y x : ℕ) → ShowsArea (area_sight w h s a) w h s a → HasItsIds d → IsLive d.commit rep → x < w
      → hit same is_clickable rep (one_part w h s a d).boxes (pos y) (pos x) ≡ owned_by (area_layers a h s d) y x
  unfolding part
  part-owned d w h s a rep y x o own live within =
      hit_still same is_clickable rep (ids.AppFiles, box_rect (drawn w h s a d)) (drawn w h s a d).boxes (pos y) (pos x) refl
      ∙ document-owned same law d (area_sight w h s a) w (h - 1) (s + 1) a o.wide o.seen o.first own rep live y x within

  -- ---- both documents

  pub both-ids : (w h s : ℕ) (shown : ViewState) → 21 ≤ w → w ≤ 65535 → h ≤ 65535 → Each (IsPart Body) (both_drawn w h s shown (second w shown)).boxes
  unfolding followed_by
  both-ids w h s shown wide p q =
      let a = whole (half w) in
      let b = second w shown in
      let size = half-wide w wide in
      let area = shows-area w h s a size.0 (omega (arith, size)) p q in
      each-append (IsPart Body) (one_part w h s a (document_at shown 0)).boxes (one_part w h s b (document_at shown 1)).boxes
      (each_more (IsOfPart 0) (IsPart Body) _ (of-body 0) (part-ids (document_at shown 0) w h s a area (session-ids shown 0)))
      (each_more (IsOfPart 1) (IsPart Body) _ (of-body 1) (part-ids (document_at shown 1) w h s b (second-seen shown w h s wide p q) (session-ids shown 1)))

  -- the second document's boxes, and where they own nothing those of the first
  both-owned : (w h s : ℕ) (shown : ViewState) (y x : ℕ) → 21 ≤ w → w ≤ 65535 → h ≤ 65535 → x < w
      → hit same is_clickable (λ i. false) (both_drawn w h s shown (second w shown)).boxes (pos y) (pos x)
      ≡ first_of_two (owned_by (area_layers (second w shown) h s (document_at shown 1)) y x) (owned_by (area_layers (whole (half w)) h s (document_at shown 0)) y x)
  unfolding followed_by
  both-owned w h s shown y x wide p q within =
      let a = whole (half w) in
      let b = second w shown in
      let size = half-wide w wide in
      let area = shows-area w h s a size.0 (omega (arith, size)) p q in
      let other = second-seen shown w h s wide p q in
      let none : ComponentId → Bool = λ i. false in
      let first = one_part w h s a (document_at shown 0) in
      let later = one_part w h s b (document_at shown 1) in
      let later-ids = part-ids (document_at shown 1) w h s b other (session-ids shown 1) in
      let differs : 0 ≡ 1 → ⊥ = λ e. absurd (omega (arith, e)) in
      let live : IsLive 0 (λ i. none i || has_id same i later.boxes) = record {
        button = none_of same is_clickable (IsOfPart 1) (ids.CommitEditMessageButton 0) later.boxes (λ j r. other-button 0 1 differs j r) later-ids;
        files = λ i r. none_of same is_clickable (IsOfPart 1) i later.boxes (λ j t. other-file 0 1 differs i j r t) later-ids;
      } in
      hit-append same is_clickable none first.boxes later.boxes (pos y) (pos x)
      ∙ ap₂ first_of_two
      (part-owned (document_at shown 1) w h s b none y x other (session-ids shown 1) (record { button = refl; files = λ i r. refl }) within)
      (part-owned (document_at shown 0) w h s a (λ i. none i || has_id same i later.boxes) y x area (session-ids shown 0) live within)

  two-own : (w h s : ℕ) (shown : ViewState) (y x : ℕ)
      → owned_by (documents_layers h s (documents_in Adjacent w shown)) y x
      ≡ first_of_two (owned_by (area_layers (second w shown) h s (document_at shown 1)) y x) (owned_by (area_layers (whole (half w)) h s (document_at shown 0)) y x)
  unfolding documents_layers
  two-own w h s shown y x =
      let first = area_layers (whole (half w)) h s (document_at shown 0) in
      let other = area_layers (second w shown) h s (document_at shown 1) in
      ap (λ ls. owned_by (first ++ ls) y x) (append-nil other) ∙ owned-append same is_clickable first other y x

-- ---- all that is drawn

pub finds-beside : ClicksFindOwnersBeside
unfolding part followed_by owner_beside
finds-beside same law shown a w h s plain y x within =
    let body = both_drawn w h s shown (second w shown) in
    let o = over_drawn w h s shown in
    let over = overlays_draw same law w h s shown.open_menu shown.quit_dialog shown.is_help_open (omega (arith, plain.wide)) plain.high in
    let none : ComponentId → Bool = λ i. false in
    let of_body = both-ids same law w h s shown plain.wide plain.width plain.height in
    let documents = documents_layers h s (documents_in Adjacent w shown) in
    ap (λ (m : Picture ComponentId). hit same is_clickable none ((ids.App, box_rect m) ∷ m.boxes) (pos y) (pos x)) (app-is shown a w h s plain)
    ∙ hit_still same is_clickable none (ids.App, box_rect (followed_by body o)) (body.boxes ++ o.boxes) (pos y) (pos x) refl
    ∙ hit_apart same is_clickable none body.boxes o.boxes (pos y) (pos x) (apart same is_clickable (IsPart Body) IsOver body.boxes o.boxes (body_or_over same law) of_body over.ids)
    ∙ ap₂ first_of_two (over.owns none (λ i p. refl) y x within) (both-owned same law w h s shown y x plain.wide plain.width plain.height within ∙ sym (two-own same law w h s shown y x))
    ∙ sym
    (ap (λ (m : CommitViewMode). owned_by (documents_layers h s (documents_in m w shown) ++ over_layers w h s shown) y x) plain.view_mode
    ∙ owned-append same is_clickable documents (over_layers w h s shown) y x)
