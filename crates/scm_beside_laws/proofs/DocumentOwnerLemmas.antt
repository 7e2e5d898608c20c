-- Who owns the columns of the rows of a document that is drawn in an area, by the boxes that are drawn: whom its layers name.
use Rattle.std.proofs.Common.{◌≡◌, ℕ, ◌+◌, ◌<◌, ◌≤◌, ◌==◌, Bool, true, false, cond, List, [], ◌∷◌, ◌++◌, length, refl, sym, ap, ap₂, ◌∙◌, arith, subst, append-nil, ◌⊎◌, inl, inr}
use Rattle.std.specs.Prelude.{ℤ, pos, ◌+ℤ◌, ◌&&◌, codes, Option, Some, None}
use Rattle.std.specs.Ordering.{int_eq}
use Rattle.std.proofs.lemmas.Bool.Decides.{Decides-int_eq}
use Rattle.std.proofs.lemmas.Int.{ints}
use Rattle.scm_cells.specs.Clusters.{text_width}
use Rattle.scm_cells.proofs.WidthLemmas.{width-edit_message}
use Rattle.scm_render.specs.Around.{around, no_rect}
use Rattle.scm_render.specs.Canvas.{Sight}
use Rattle.scm_render.specs.Drawing.{row_rect, span_picture, blank_picture}
use Rattle.scm_render.specs.Hits.{IsLawful, first_of_two, has_id, hit}
use Rattle.scm_render.specs.Lines.{line}
use Rattle.scm_render.specs.Picture.{followed_by, nothing, part, box_rect}
use Rattle.scm_render.proofs.HitLemmas.{Each, each-append, each_more, hit_apart, hit_still, two_assoc}
use Rattle.scm_rows.specs.Heights.{message_height}
use Rattle.scm_widgets.specs.declared.ids.ComponentId.{ComponentId}
use Rattle.scm_widgets.specs.declared.ids.ComponentId.TheVariants as ids
use Rattle.scm_widgets.specs.Clicks.{is_clickable}
use Rattle.scm_widgets.specs.Layers.{clear, owned_by}
use Rattle.scm_widgets.specs.Pictures.{button_picture}
use Rattle.scm_widgets.proofs.ButtonLemmas.{holds-text}
use Rattle.scm_widgets.proofs.DrawsStrips.{Apart, apart}
use Rattle.scm_document.specs.Pictures.{beside_button, body_picture, button_row_picture, document_picture, files_picture, mask_row, message_picture, no_files_picture}
use Rattle.scm_document.specs.Rows.{ShownFile, Document}
use Rattle.scm_document.specs.Strips.{no_files_gap}
use Rattle.scm_document.specs.Texts.{message_text}
use Rattle.scm_document.proofs.FilesOf.{AreFilesOf, HasItsIds}
use Rattle.scm_overlay.proofs.MenuLemmas.{differ}
use Rattle.scm_strips.specs.declared.area.Area.{Area}
use Rattle.scm_strips.specs.AreaStrips.{area_bare, area_document, area_files, area_message, area_pinned, area_pinned_layer, area_strip}
use Rattle.scm_strips.specs.Parts.{Part, owner_in}
use Rattle.scm_strips.specs.Shows.{MarginRow, MessageRow, WordsRow}
use Rattle.scm_view.proofs.DocumentOwnerLemmas.{IsOfMessage, no_files-none}
use Rattle.scm_view.proofs.FileOwnerLemmas.{IsFileFrom, both-owners, file_of, none-owner, owner_at}
use Rattle.scm_view.proofs.OwnerLemmas.{no-owner, text-none}
use Rattle.scm_beside_laws.proofs.DocumentPaintLemmas.{made}
use Rattle.scm_beside_laws.proofs.FileOwnerLemmas.{files-ids, files-own}
use Rattle.scm_beside_laws.proofs.RowOwnerLemmas.{between-same, in_part}
use Rattle.scm_beside_laws.proofs.SeenLemmas.{IsSeen}

-- ---- messages

beside-none : (message : List ℕ) (s : Sight) (x y : ℤ) → (beside_button message s x y).boxes ≡ []
unfolding beside_button followed_by span_picture
beside-none message s x y = text-none s (x +ℤ pos 19) y (message ∷ [])

message-boxes : (commit : ℕ) (message : List ℕ) (s : Sight) (x y : ℤ)
    → (message_picture commit (Some message) s x y).boxes ≡ (ids.CommitEditMessageButton commit, around no_rect (row_rect x (y +ℤ pos 1) (text_width (codes "[Edit message]")) ∷ [])) ∷ []
unfolding message_picture button_row_picture followed_by blank_picture part button_picture span_picture box_rect
message-boxes commit message s x y = rw (beside-none (message_text message) s x (y +ℤ pos 1)) refl

-- the columns of the button that edits the message of a commit
abbrev button_part : ℕ → Part
button_part commit = record { id = ids.CommitEditMessageButton commit; from = pos 0; to = pos 14 }

-- the button owns its columns on the second of the message's rows
button-row : (a : Area) (commit : ℕ) (message : List ℕ) (t u : Bool) (x : ℕ)
    → cond (t && in_part a (button_part commit) x) (Some (ids.CommitEditMessageButton commit)) None ≡ (cond t (area_strip a (MessageRow commit message)) (cond u (area_strip a MarginRow) clear)).owner x
unfolding owner_in
button-row a commit message true u x = refl
button-row a commit message false true x = refl
button-row a commit message false false x = refl

message-cell : (a : Area) (commit : ℕ) (message : List ℕ) (y z : ℤ) (x : ℕ)
    → cond (int_eq z (y +ℤ pos 1) && in_part a (button_part commit) x) (Some (ids.CommitEditMessageButton commit)) None ≡ owner_at (area_message a commit (Some message)) y z x
unfolding line area_message owner_in
message-cell a commit message y z x = go (int_eq z y) refl (button-row a commit message (int_eq z (y +ℤ pos 1)) (int_eq z ((y +ℤ pos 1) +ℤ pos 1)) x)
  where
    go : (t : Bool) → int_eq z y ≡ t
        → cond (int_eq z (y +ℤ pos 1) && in_part a (button_part commit) x) (Some (ids.CommitEditMessageButton commit)) None
        ≡ (cond (int_eq z (y +ℤ pos 1)) (area_strip a (MessageRow commit message)) (cond (int_eq z ((y +ℤ pos 1) +ℤ pos 1)) (area_strip a MarginRow) clear)).owner x
        → cond (int_eq z (y +ℤ pos 1) && in_part a (button_part commit) x) (Some (ids.CommitEditMessageButton commit)) None
        ≡ (cond t (area_strip a MarginRow) (cond (int_eq z (y +ℤ pos 1)) (area_strip a (MessageRow commit message)) (cond (int_eq z ((y +ℤ pos 1) +ℤ pos 1)) (area_strip a MarginRow) clear))).owner x
    go true e later =
        let here : z ≡ y = (Decides-int_eq z y).0 e in
        let differ : int_eq z (y +ℤ pos 1) ≡ false = grind (arith, ints, Decides-int_eq z (y +ℤ pos 1)) in
        rw differ refl
    go false e later = later

-- the button of a message
abbrev pub IsButtonOf : ℕ → ComponentId → Type 0
IsButtonOf commit i = i ≡ ids.CommitEditMessageButton commit

none-ids : (commit : ℕ) (s : Sight) (x y : ℤ) → Each (IsOfMessage commit) (message_picture commit None s x y).boxes
unfolding message_picture nothing
none-ids commit s x y = tt

words-none : (a : Area) (x : ℕ) → (area_strip a WordsRow).owner x ≡ None
unfolding owner_in
words-none a x = refl

pub message-ids : (commit : ℕ) (message : Option (List ℕ)) (s : Sight) (x y : ℤ) → Each (IsOfMessage commit) (part ids.CommitMessageView (message_picture commit message s x y)).boxes
unfolding part
message-ids commit message s x y = (inl refl, go message)
  where
    go : (message : Option (List ℕ)) → Each (IsOfMessage commit) (message_picture commit message s x y).boxes
    go None = none-ids commit s x y
    go (Some m) = rw (message-boxes commit m s x y) (inr refl, tt)

no-message : (a : Area) (commit : ℕ) (y z : ℤ) (x : ℕ) → owner_at (area_message a commit None) y z x ≡ None
unfolding area_message line
no-message a commit y z x = refl

module _ (same : ComponentId → ComponentId → Bool) (law : IsLawful same) where
  none-owned : (commit : ℕ) (s : Sight) (x y : ℤ) (rep : ComponentId → Bool) (z i : ℤ) → hit same is_clickable rep (message_picture commit None s x y).boxes z i ≡ None
  unfolding message_picture nothing hit
  none-owned commit s x y rep z i = refl

  button-owned : (commit : ℕ) (message : List ℕ) (s : Sight) (a : Area) (y z : ℤ) (x : ℕ) (rep : ComponentId → Bool) → rep (ids.CommitEditMessageButton commit) ≡ false
      → hit same is_clickable rep (message_picture commit (Some message) s (pos a.left) y).boxes z (pos x) ≡ owner_at (area_message a commit (Some message)) y z x
  unfolding hit has_id
  button-owned commit message s a y z x rep live =
      let l = pos a.left in
      rw (message-boxes commit message s l y, live, holds-text l (y +ℤ pos 1) z (text_width (codes "[Edit message]")) x, width-edit_message)
      (ap (λ t. cond (int_eq z (y +ℤ pos 1) && t) (Some (ids.CommitEditMessageButton commit)) None) (between-same a.left x l (l +ℤ pos 14) (pos 0) (pos 14) (omega (arith, ints)) (omega (arith, ints)))
      ∙ message-cell a commit message y z x)

  message-owned : (commit : ℕ) (message : Option (List ℕ)) (s : Sight) (a : Area) (y z : ℤ) (x : ℕ) (rep : ComponentId → Bool) → rep (ids.CommitEditMessageButton commit) ≡ false
      → hit same is_clickable rep (part ids.CommitMessageView (message_picture commit message s (pos a.left) y)).boxes z (pos x) ≡ owner_at (area_message a commit message) y z x
  unfolding part
  message-owned commit message s a y z x rep live =
      let m = message_picture commit message s (pos a.left) y in
      hit_still same is_clickable rep (ids.CommitMessageView, box_rect m) m.boxes z (pos x) refl ∙ go message
    where
      go : (message : Option (List ℕ)) → hit same is_clickable rep (message_picture commit message s (pos a.left) y).boxes z (pos x) ≡ owner_at (area_message a commit message) y z x
      go None = none-owned commit s (pos a.left) y rep z (pos x) ∙ sym (no-message a commit y z x)
      go (Some m) = button-owned commit m s a y z x rep live

  message-or-file : (commit n k : ℕ) → Apart same is_clickable (IsOfMessage commit) (IsFileFrom k n)
  message-or-file commit n k i j (inl p) q = differ same law i j (λ e. let some = q.file in cc (ap file_of (sym p ∙ e), some))
  message-or-file commit n k i j (inr p) q = differ same law i j (λ e. let some = q.file in cc (ap file_of (sym p ∙ e), some))

-- ---- documents

-- a part of the document of a commit
abbrev pub IsOfDocument : ℕ → ComponentId → Type 0
IsOfDocument commit i = IsOfMessage commit i ⊎ IsFileFrom commit 0 i

-- what is not drawn again later, so that a click can act on it
pub record IsLive (commit : ℕ) (rep : ComponentId → Bool) : Type 0 where
  pub button : rep (ids.CommitEditMessageButton commit) ≡ false
  pub files : (i : ComponentId) → IsFileFrom commit 0 i → rep i ≡ false

-- a document of n files, as its layers
abbrev OwnsDocument : (ComponentId → ComponentId → Bool) → ℕ → ℕ → ℕ → Area → Document → Sight → Type 0
OwnsDocument same w h m a d s =
    (rep : ComponentId → Bool) → IsLive d.commit rep → (z x : ℕ) → x < w
    → hit same is_clickable rep (document_picture d s (pos a.left) (pos 1)).boxes (pos z) (pos x) ≡ owned_by (area_document a h m 1 d ++ area_pinned_layer a m 1 d ∷ []) z x

pub message-long : (a : Area) (commit : ℕ) (message : Option (List ℕ)) → length (area_message a commit message) ≡ message_height message
unfolding area_message
message-long a commit None = refl
message-long a commit (Some m) = refl

module _ (same : ComponentId → ComponentId → Bool) (law : IsLawful same) where
  bare-owned : (commit : ℕ) (message : Option (List ℕ)) (s : Sight) (w h m : ℕ) (a : Area) → OwnsDocument same w h m a (made commit message []) s
  unfolding document_picture followed_by owned_by area_pinned
  bare-owned commit message s w h m a rep live z x within = go message
    where
      words : (n : ℕ) → owner_at (area_strip a WordsRow ∷ []) (pos n) (pos z) x ≡ None
      words n = no-owner (area_strip a WordsRow) (λ i. words-none a i) (pos n) (pos z) x

      upper : (message : Option (List ℕ)) → hit same is_clickable rep ((part ids.CommitMessageView (message_picture commit message s (pos a.left) (pos 1))).boxes ++ (no_files_picture s (pos a.left) (pos 1)).boxes) (pos z) (pos x)
          ≡ owner_at (area_message a commit message) (pos 1) (pos z) x
      upper message =
          rw (no_files-none s (pos a.left) (pos 1), append-nil (part ids.CommitMessageView (message_picture commit message s (pos a.left) (pos 1))).boxes)
          (message-owned same law commit message s a (pos 1) (pos z) x rep live.button)

      go : (message : Option (List ℕ)) → hit same is_clickable rep ((part ids.CommitMessageView (message_picture commit message s (pos a.left) (pos 1))).boxes ++ (no_files_picture s (pos a.left) (pos 1)).boxes) (pos z) (pos x)
          ≡ owned_by (area_bare a h 1 commit message ++ record { first = m; strips = [] } ∷ []) z x
      go None = upper None ∙ no-message a commit (pos 1) (pos z) x ∙ rw (none-owner (pos m) (pos z) x, words (1 + no_files_gap h)) refl
      go (Some text) = upper (Some text) ∙ rw (none-owner (pos m) (pos z) x, words (1 + no_files_gap h)) refl

  filled-owned : (commit : ℕ) (message : Option (List ℕ)) (f : ShownFile) (fs : List ShownFile) (s : Sight) (w h m : ℕ) (a : Area) → 10 ≤ a.width → IsSeen s w a → mask_row s ≡ pos m → AreFilesOf commit 0 (f ∷ fs)
      → OwnsDocument same w h m a (made commit message (f ∷ fs)) s
  unfolding document_picture followed_by owned_by
  filled-owned commit message f fs s w h m a fits o row e rep live z x within =
      let l = pos a.left in
      let above = area_message a commit message in
      let n = message-long a commit message in
      let k = 1 + message_height message in
      let height : 1 + length above ≡ k = ap (λ j. 1 + j) n in
      let rest = area_files a m k (f ∷ fs) in
      let pinned = area_pinned a m k (f ∷ fs) in
      let some : (length (f ∷ fs) == 0) ≡ false = grind arith in
      let said = part ids.CommitMessageView (message_picture commit message s l (pos 1)) in
      rw some (subst (λ j. hit same is_clickable rep (said.boxes ++ (files_picture (f ∷ fs) s l (pos k)).boxes) (pos z) (pos x)
      ≡ first_of_two (owner_at (area_pinned a m j (f ∷ fs)) (pos m) (pos z) x) (owner_at (above ++ area_files a m j (f ∷ fs)) (pos 1) (pos z) x)) (sym height)
      (hit_apart same is_clickable rep said.boxes (files_picture (f ∷ fs) s l (pos k)).boxes (pos z) (pos x)
      (apart same is_clickable (IsOfMessage commit) (IsFileFrom commit 0) _ _ (message-or-file same law commit 0 commit) (message-ids commit message s l (pos 1)) (files-ids same law commit 0 (f ∷ fs) s w a m k fits o row e))
      ∙ ap₂ first_of_two (files-own same law commit 0 (f ∷ fs) s w a m k (pos z) x rep fits o row e live.files within) (message-owned same law commit message s a (pos 1) (pos z) x rep live.button)
      ∙ two_assoc (owner_at pinned (pos m) (pos z) x) (owner_at rest (pos k) (pos z) x) (owner_at above (pos 1) (pos z) x)
      ∙ ap (first_of_two (owner_at pinned (pos m) (pos z) x)) (both-owners above rest (pos 1) (pos k) (pos z) x (ap (λ j. pos 1 +ℤ pos j) n))))

  by-parts : (commit : ℕ) (message : Option (List ℕ)) (fs : List ShownFile) (s : Sight) (w h m : ℕ) (a : Area) → 10 ≤ a.width → IsSeen s w a → mask_row s ≡ pos m → AreFilesOf commit 0 fs
      → OwnsDocument same w h m a (made commit message fs) s
  by-parts commit message [] s w h m a fits o row e = bare-owned commit message s w h m a
  by-parts commit message (f ∷ fs) s w h m a fits o row e = filled-owned commit message f fs s w h m a fits o row e

  -- the boxes of a document own what its layers say, where none of them is replaced later
  pub document-owned : (d : Document) (s : Sight) (w h m : ℕ) (a : Area) → 10 ≤ a.width → IsSeen s w a → mask_row s ≡ pos m → HasItsIds d → OwnsDocument same w h m a d s
  document-owned d s w h m a fits o row e = by-parts d.commit d.message d.files s w h m a fits o row e

  below-ids : (commit : ℕ) (fs : List ShownFile) (s : Sight) (w m k : ℕ) (a : Area) → 10 ≤ a.width → IsSeen s w a → mask_row s ≡ pos m → AreFilesOf commit 0 fs → Each (IsFileFrom commit 0) (body_picture fs s (pos a.left) (pos 1) (pos k)).boxes
  below-ids commit [] s w m k a fits o row e = rw (no_files-none s (pos a.left) (pos 1)) tt
  below-ids commit (f ∷ fs) s w m k a fits o row e =
      let some : (length (f ∷ fs) == 0) ≡ false = grind arith in
      rw some (files-ids same law commit 0 (f ∷ fs) s w a m k fits o row e)

  -- all of these boxes are parts of the document
  pub document-ids : (d : Document) (s : Sight) (w m : ℕ) (a : Area) → 10 ≤ a.width → IsSeen s w a → mask_row s ≡ pos m → HasItsIds d → Each (IsOfDocument d.commit) (document_picture d s (pos a.left) (pos 1)).boxes
  unfolding document_picture followed_by
  document-ids d s w m a fits o row e =
      let l = pos a.left in
      each-append (IsOfDocument d.commit) (part ids.CommitMessageView (message_picture d.commit d.message s l (pos 1))).boxes (body_picture d.files s l (pos 1) (pos (1 + message_height d.message))).boxes
      (each_more (IsOfMessage d.commit) (IsOfDocument d.commit) _ (λ i p. inl p) (message-ids d.commit d.message s l (pos 1)))
      (each_more (IsFileFrom d.commit 0) (IsOfDocument d.commit) _ (λ i p. inr p) (below-ids d.commit d.files s w m (1 + message_height d.message) a fits o row e))
