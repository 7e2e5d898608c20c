-- Who owns the columns of the rows of a document, by the boxes that are drawn: whom its layers name.
use Rattle.std.proofs.Common.{◌≡◌, ℕ, ◌+◌, ◌-◌, ◌<◌, ◌≤◌, ◌==◌, Bool, true, false, cond, List, [], ◌∷◌, ◌++◌, length, refl, sym, ap, ap₂, ◌∙◌, arith, subst, append-nil, ◌⊎◌, inl, inr}
use Rattle.std.specs.Prelude.{ℤ, pos, ◌+ℤ◌, codes, ◌&&◌, nat_le, nat_lt, Option, Some, None}
use Rattle.std.specs.Ordering.{int_eq}
use Rattle.std.proofs.lemmas.Int.{ints}
use Rattle.std.proofs.lemmas.Bool.Decides.{Decides-int_eq}
use Rattle.scm_cells.specs.Clusters.{text_width}
use Rattle.scm_cells.proofs.WidthLemmas.{width-edit_message}
use Rattle.scm_render.specs.Picture.{nothing, followed_by, part, box_rect}
use Rattle.scm_render.specs.Around.{around, no_rect}
use Rattle.scm_render.specs.Canvas.{Sight}
use Rattle.scm_render.specs.Drawing.{row_rect, span_picture, blank_picture}
use Rattle.scm_render.specs.Hits.{IsLawful, has_id, first_of_two, hit}
use Rattle.scm_render.specs.Lines.{line}
use Rattle.scm_render.proofs.HitLemmas.{Each, each-append, each_more, hit_apart, hit_still, two_assoc}
use Rattle.scm_types.specs.declared.keys.FileKey.{FileKey}
use Rattle.scm_widgets.specs.declared.ids.ComponentId.{ComponentId}
use Rattle.scm_widgets.specs.declared.ids.ComponentId.TheVariants as ids
use Rattle.scm_widgets.specs.Clicks.{is_clickable}
use Rattle.scm_overlay.proofs.Parts.{Body, part_of}
use Rattle.scm_document.specs.OpenSights.{IsOpen}
use Rattle.scm_widgets.specs.Layers.{clear, owned_by}
use Rattle.scm_widgets.specs.Blanks.{blank_strip}
use Rattle.scm_document.specs.Texts.{no_files_text, message_text}
use Rattle.scm_document.proofs.FilesOf.{AreFilesOf, HasItsIds}
use Rattle.scm_rows.specs.Heights.{message_height}
use Rattle.scm_document.specs.Rows.{ShownFile, Document}
use Rattle.scm_document.specs.Pictures.{mask_row, body_picture, files_picture, beside_button, message_picture, no_files_picture, document_picture, button_row_picture}
use Rattle.scm_widgets.specs.Pictures.{button_picture}
use Rattle.scm_document.specs.Strips.{files_strips, pinned_strips, message_strip, message_strips, no_files_gap, no_files_strip, no_files_layers, document_layers, pinned_layer}
use Rattle.scm_view.specs.Window.{body_layers}
use Rattle.scm_document.proofs.WindowLemmas.{body_sight, open-below, row-below}
use Rattle.scm_widgets.proofs.DrawsStrips.{Apart, apart, draws_nothing, draws_still}
use Rattle.scm_overlay.proofs.MenuLemmas.{IsPart, differ}
use Rattle.scm_widgets.proofs.ButtonLemmas.{holds-text}
use Rattle.scm_document.proofs.DocumentLemmas.{length-message}
use Rattle.scm_view.proofs.OwnerLemmas.{no_rows, Owns, none-seen, no-owner, text-none}
use Rattle.scm_view.proofs.FileOwnerLemmas.{file_of, owner_at, both-owners, none-owner, IsFileFrom, files-ids, files-own}
use Rattle.scm_document.proofs.DocumentOwnerLemmas.{document_part}

-- ---- messages

-- the view of a message, or the button that edits it
abbrev pub IsOfMessage : ℕ → ComponentId → Type 0
IsOfMessage commit i = (i ≡ ids.CommitMessageView) ⊎ (i ≡ ids.CommitEditMessageButton commit)

beside-none : (message : List ℕ) (s : Sight) (x y : ℤ) → (beside_button message s x y).boxes ≡ []
unfolding beside_button followed_by span_picture
beside-none message s x y = text-none s (x +ℤ pos 19) y (message ∷ [])

message-boxes : (commit : ℕ) (message : List ℕ) (s : Sight) (y : ℤ)
    → (message_picture commit (Some message) s (pos 0) y).boxes ≡ (ids.CommitEditMessageButton commit, around no_rect (row_rect (pos 0) (y +ℤ pos 1) (text_width (codes "[Edit message]")) ∷ [])) ∷ []
unfolding message_picture button_row_picture followed_by blank_picture part button_picture span_picture box_rect
message-boxes commit message s y = rw (beside-none (message_text message) s (pos 0) (y +ℤ pos 1)) refl

-- the button owns its columns on the second of the message's rows
pub message-cell : (w commit : ℕ) (message : List ℕ) (y z : ℤ) (x : ℕ)
    → cond (int_eq z (y +ℤ pos 1) && (nat_le 0 x && nat_lt x 14)) (Some (ids.CommitEditMessageButton commit)) None ≡ (line clear (message_strips w commit (Some message)) y z).owner x
unfolding line message_strips
message-cell w commit message y z x = go (int_eq z y) refl
  where
    later : (t u : Bool) → cond (t && (nat_le 0 x && nat_lt x 14)) (Some (ids.CommitEditMessageButton commit)) None ≡ (cond t (message_strip w commit message) (cond u (blank_strip 0 w) clear)).owner x
    later true u = refl
    later false true = refl
    later false false = refl

    go : (t : Bool) → int_eq z y ≡ t → cond (int_eq z (y +ℤ pos 1) && (nat_le 0 x && nat_lt x 14)) (Some (ids.CommitEditMessageButton commit)) None
        ≡ (cond t (blank_strip 0 w) (cond (int_eq z (y +ℤ pos 1)) (message_strip w commit message) (cond (int_eq z ((y +ℤ pos 1) +ℤ pos 1)) (blank_strip 0 w) clear))).owner x
    go true e =
        let here : z ≡ y = (Decides-int_eq z y).0 e in
        let differ : int_eq z (y +ℤ pos 1) ≡ false = grind (arith, ints, Decides-int_eq z (y +ℤ pos 1)) in
        rw differ refl
    go false e = later (int_eq z (y +ℤ pos 1)) (int_eq z ((y +ℤ pos 1) +ℤ pos 1))

module _ (same : ComponentId → ComponentId → Bool) (law : IsLawful same) where
  message-inner : (commit : ℕ) (message : List ℕ) (s : Sight) (w : ℕ) (y : ℤ)
      → Owns same w (λ i. i ≡ ids.CommitEditMessageButton commit) (message_picture commit (Some message) s (pos 0) y) y (message_strips w commit (Some message))
  unfolding hit has_id
  message-inner commit message s w y = record {
    paints = λ z row p q. absurd (none-seen w z p);
    owns = λ rep live z x p.
        rw (message-boxes commit message s y, live (ids.CommitEditMessageButton commit) refl, holds-text (pos 0) (y +ℤ pos 1) z (text_width (codes "[Edit message]")) x, width-edit_message)
        (message-cell w commit message y z x);
    ids = rw (message-boxes commit message s y) (refl, tt);
  }

  pub message-owns : (commit : ℕ) (message : Option (List ℕ)) (s : Sight) (w : ℕ) (y : ℤ)
      → Owns same w (IsOfMessage commit) (part ids.CommitMessageView (message_picture commit message s (pos 0) y)) y (message_strips w commit message)
  unfolding message_picture message_strips
  message-owns commit None s w y =
      draws_still same is_clickable (no_rows w) (λ i. ⊥) (IsOfMessage commit) ids.CommitMessageView nothing y [] (draws_nothing same is_clickable (no_rows w) (λ i. ⊥) y) refl (inl refl) (λ j p. absurd p)
  message-owns commit (Some message) s w y =
      draws_still same is_clickable (no_rows w) (λ i. i ≡ ids.CommitEditMessageButton commit) (IsOfMessage commit) ids.CommitMessageView (message_picture commit (Some message) s (pos 0) y) y _
      (message-inner commit message s w y) refl (inl refl) (λ j p. inr p)

  message-or-file : (commit n k : ℕ) → Apart same is_clickable (IsOfMessage commit) (IsFileFrom k n)
  message-or-file commit n k i j (inl p) q = differ same law i j (λ e. let some = q.file in cc (ap file_of (sym p ∙ e), some))
  message-or-file commit n k i j (inr p) q = differ same law i j (λ e. let some = q.file in cc (ap file_of (sym p ∙ e), some))

-- ---- documents

pub no_files-none : (s : Sight) (x y : ℤ) → (no_files_picture s x y).boxes ≡ []
unfolding no_files_picture
no_files-none s x y = text-none s _ _ (no_files_text ∷ [])

no-message : (w commit : ℕ) (y z : ℤ) (x : ℕ) → owner_at (message_strips w commit None) y z x ≡ None
unfolding message_strips line
no-message w commit y z x = refl

-- a part of a file is one of the document
part-file : (i : ComponentId) (k : FileKey) → file_of i ≡ Some k → part_of i ≡ Body
part-file ids.AppFiles k e = refl
part-file ids.CommitMessageView k e = refl
part-file (ids.CommitEditMessageButton n) k e = refl
part-file (ids.FileViewHeader n) k e = refl
part-file (ids.SelectableItem n) k e = refl
part-file (ids.ToggleBox n) k e = refl
part-file (ids.ExpandBox n) k e = refl
part-file _ k e = absurd (cc e)

part-message : (commit : ℕ) (i : ComponentId) → IsOfMessage commit i → IsPart Body i
part-message commit i (inl e) = ap part_of e
part-message commit i (inr e) = ap part_of e

module _ (same : ComponentId → ComponentId → Bool) (law : IsLawful same) where
  body-owns : (commit : ℕ) (message : Option (List ℕ)) (fs : List ShownFile) (s : Sight) (w h m top : ℕ) → 10 ≤ w → IsOpen s w → mask_row s ≡ pos m → AreFilesOf commit 0 fs
      → (rep : ComponentId → Bool) → ((i : ComponentId) → IsPart Body i → rep i ≡ false) → (z x : ℕ) → x < w
      → hit same is_clickable rep (document_picture (record { commit = commit; message = message; files = fs }) s (pos 0) (pos top)).boxes (pos z) (pos x)
      ≡ owned_by (document_layers w h m top (record { commit = commit; message = message; files = fs }) ++ pinned_layer w m top (record { commit = commit; message = message; files = fs }) ∷ []) z x
  unfolding document_picture followed_by owned_by pinned_strips
  body-owns commit message [] s w h m top fits o row e rep live z x within = go message
    where
      words : (n : ℕ) → owner_at (no_files_strip w ∷ []) (pos n) (pos z) x ≡ None
      words n = no-owner (no_files_strip w) (λ x. refl) (pos n) (pos z) x

      upper : (message : Option (List ℕ)) → hit same is_clickable rep ((part ids.CommitMessageView (message_picture commit message s (pos 0) (pos top))).boxes ++ (no_files_picture s (pos 0) (pos top)).boxes) (pos z) (pos x)
          ≡ owner_at (message_strips w commit message) (pos top) (pos z) x
      upper message =
          rw (no_files-none s (pos 0) (pos top), append-nil (part ids.CommitMessageView (message_picture commit message s (pos 0) (pos top))).boxes)
          ((message-owns same law commit message s w (pos top)).owns rep (λ i p. live i (part-message commit i p)) (pos z) x within)

      go : (message : Option (List ℕ)) → hit same is_clickable rep ((part ids.CommitMessageView (message_picture commit message s (pos 0) (pos top))).boxes ++ (no_files_picture s (pos 0) (pos top)).boxes) (pos z) (pos x)
          ≡ owned_by (no_files_layers w h top commit message ++ record { first = m; strips = [] } ∷ []) z x
      go None = upper None ∙ no-message w commit (pos top) (pos z) x ∙ rw (none-owner (pos m) (pos z) x, words (top + no_files_gap h)) refl
      go (Some message) = upper (Some message) ∙ rw (none-owner (pos m) (pos z) x, words (top + no_files_gap h)) refl
  body-owns commit message (f ∷ fs) s w h m top fits o row e rep live z x within =
      let above = message_strips w commit message in
      let n = length-message w commit message in
      let k = top + message_height message in
      let height : top + length above ≡ k = ap (λ j. top + j) n in
      let rest = files_strips w m k (f ∷ fs) in
      let pinned = pinned_strips w m k (f ∷ fs) in
      let some : (length (f ∷ fs) == 0) ≡ false = grind arith in
      let upper = message-owns same law commit message s w (pos top) in
      rw some (subst (λ j. hit same is_clickable rep ((part ids.CommitMessageView (message_picture commit message s (pos 0) (pos top))).boxes ++ (files_picture (f ∷ fs) s (pos 0) (pos k)).boxes) (pos z) (pos x)
      ≡ first_of_two (owner_at (pinned_strips w m j (f ∷ fs)) (pos m) (pos z) x) (owner_at (above ++ files_strips w m j (f ∷ fs)) (pos top) (pos z) x)) (sym height)
      (hit_apart same is_clickable rep (part ids.CommitMessageView (message_picture commit message s (pos 0) (pos top))).boxes (files_picture (f ∷ fs) s (pos 0) (pos k)).boxes (pos z) (pos x)
      (apart same is_clickable (IsOfMessage commit) (IsFileFrom commit 0) _ _ (message-or-file same law commit 0 commit) upper.ids (files-ids same law commit 0 (f ∷ fs) s w m k fits o row e))
      ∙ ap₂ first_of_two (files-own same law commit 0 (f ∷ fs) s w m k (pos z) x rep fits o row e (λ i p. live i (part-file i p.key p.file)) within) (upper.owns rep (λ i p. live i (part-message commit i p)) (pos z) x within)
      ∙ two_assoc (owner_at pinned (pos m) (pos z) x) (owner_at rest (pos k) (pos z) x) (owner_at above (pos top) (pos z) x)
      ∙ ap (first_of_two (owner_at pinned (pos m) (pos z) x)) (both-owners above rest (pos top) (pos k) (pos z) x (ap (λ j. pos top +ℤ pos j) n))))

  below-ids : (commit : ℕ) (fs : List ShownFile) (s : Sight) (w m top k : ℕ) → 10 ≤ w → IsOpen s w → mask_row s ≡ pos m → AreFilesOf commit 0 fs → Each (IsPart Body) (body_picture fs s (pos 0) (pos top) (pos k)).boxes
  below-ids commit [] s w m top k fits o row e = rw (no_files-none s (pos 0) (pos top)) tt
  below-ids commit (f ∷ fs) s w m top k fits o row e =
      let some : (length (f ∷ fs) == 0) ≡ false = grind arith in
      rw some (each_more (IsFileFrom commit 0) (IsPart Body) _ (λ i p. part-file i p.key p.file) (files-ids same law commit 0 (f ∷ fs) s w m k fits o row e))

  -- all of these boxes are parts of the document
  pub document-ids : (d : Document) (s : Sight) (w m top : ℕ) → 10 ≤ w → IsOpen s w → mask_row s ≡ pos m → HasItsIds d → Each (IsPart Body) (document_picture d s (pos 0) (pos top)).boxes
  unfolding document_picture followed_by
  document-ids d s w m top fits o row e =
      each-append (IsPart Body) (part ids.CommitMessageView (message_picture d.commit d.message s (pos 0) (pos top))).boxes (body_picture d.files s (pos 0) (pos top) (pos (top + message_height d.message))).boxes
      (each_more (IsOfMessage d.commit) (IsPart Body) _ (λ i p. part-message d.commit i p) (message-owns same law d.commit d.message s w (pos top)).ids)
      (below-ids d.commit d.files s w m top (top + message_height d.message) fits o row e)

module _ (same : ComponentId → ComponentId → Bool) (law : IsLawful same) where
  pub body-owners : (d : Document) (w h s : ℕ) → 10 ≤ w → 2 ≤ h → HasItsIds d → (rep : ComponentId → Bool) → ((i : ComponentId) → IsPart Body i → rep i ≡ false) → (y x : ℕ) → x < w
      → hit same is_clickable rep (document_part d w h s).boxes (pos y) (pos x) ≡ owned_by (body_layers w h s d) y x
  unfolding part
  body-owners d w h s fits high e rep live y x within =
      hit_still same is_clickable rep (ids.AppFiles, box_rect (document_picture d (body_sight w h s) (pos 0) (pos 1))) (document_picture d (body_sight w h s) (pos 0) (pos 1)).boxes (pos y) (pos x) refl
      ∙ body-owns same law d.commit d.message d.files (body_sight w h s) w (h - 1) (s + 1) 1 fits (open-below w h s) (row-below w h s) e rep live y x within

  pub body-ids : (d : Document) (w h s : ℕ) → 10 ≤ w → HasItsIds d → Each (IsPart Body) (document_part d w h s).boxes
  unfolding part
  body-ids d w h s fits e = (refl, document-ids same law d (body_sight w h s) w (s + 1) 1 fits (open-below w h s) (row-below w h s) e)
