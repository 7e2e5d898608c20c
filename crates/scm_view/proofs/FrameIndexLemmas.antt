-- The index of a frame answers for the window: its owners, the rows of its keys, and its extent.
use Rattle.std.proofs.Common.{◌≡◌, ℕ, ◌+◌, ◌-◌, ◌<◌, ◌≤◌, ◌==◌, ◌^◌, Bool, true, false, ◌&&◌, cond, List, [], ◌∷◌, ◌++◌, length, map, get_or, nat_lt, fold, append_assoc, refl, sym, ap, ap₂, ◌∙◌, arith, subst}
use Rattle.std.specs.Prelude.{pos, if◌then◌else◌, min, max, nat_le, is_some, Option, Some, None, option_map}
use Rattle.std.specs.Ordering.{int_eq}
use Rattle.std.proofs.lemmas.Bool.Decides.{nat_tests}
use Rattle.std.proofs.lemmas.Int.{ints}
use Rattle.std.proofs.lemmas.List.{length-append}
use Rattle.std.specs.List.{flat_map}
use Rattle.scm_types.specs.Limits.{is_accepted_state, max_text}
use Rattle.scm_types.specs.declared.keys.SelectionKey.{SelectionKey}
use Rattle.scm_cells.specs.Rect.{end_y_of, or_zero}
use Rattle.scm_cells.specs.declared.rect.Rect.{Rect}
use Rattle.scm_render.specs.Hits.{first_of_two}
use Rattle.scm_render.specs.Lines.{line}
use Rattle.scm_render.proofs.LineLemmas.{line-above}
use Rattle.scm_render.proofs.HitLemmas.{two_none, two_assoc}
use Rattle.scm_widgets.specs.declared.ids.ComponentId.{ComponentId}
use Rattle.scm_widgets.specs.declared.ids.ComponentId.TheVariants as ids
use Rattle.scm_view.specs.declared.app_view.AppView.{AppView}
use Rattle.scm_document.specs.declared.commit_view.CommitView.{CommitView}
use Rattle.scm_document.specs.declared.commit_view.CommitViewMode.{CommitViewMode}
use Rattle.scm_document.specs.declared.file_view.FileView.{FileView}
use Rattle.scm_widgets.specs.declared.overlay_rects.OverlayRect.{OverlayRect}
use Rattle.scm_overlay.specs.declared.quit_dialog.QuitDialog.{QuitDialog}
use Rattle.scm_overlay.specs.declared.help_dialog.HelpDialog.{HelpDialog}
use Rattle.scm_document.specs.declared.index_pieces.RowPieces.{RowPieces}
use Rattle.scm_widgets.specs.Layers.{Strip, Layer, clear, is_within, strip_at, owned_by, end_of, rows_around}
use Rattle.scm_widgets.specs.Screens.{screen}
use Rattle.scm_rows.specs.Heights.{message_height}
use Rattle.scm_rows.proofs.HeightLemmas.{message-le}
use Rattle.scm_document.specs.Rows.{Document, document_of, shown_file, file_rows}
use Rattle.scm_view.specs.ViewState.{ViewState, Shows}
use Rattle.scm_view.specs.AppView.{ShowInOrder, has_help}
use Rattle.scm_document.specs.ViewColumns.{view_count}
use Rattle.scm_document.specs.Strips.{message_strips, file_strips, is_over, files_strips, pinned_strips, pinned_layer, no_files_layers, no_files_strip, no_files_gap, document_layers}
use Rattle.scm_document.specs.Places.{places}
use Rattle.scm_view.specs.Window.{IsPlain, body_layers, owner, span, extent}
use Rattle.scm_document.specs.DocumentRows.{rows_layers, rows_of_key}
use Rattle.scm_overlay.specs.Overlays.{overlays, quit_layers, help_layers}
use Rattle.scm_overlay.specs.Menus.{menu_layer, open_menu}
use Rattle.scm_overlay.specs.Tables.{menus_with, quit_dialog, help_dialog}
use Rattle.scm_widgets.specs.OverlayRects.{overlay_owner}
use Rattle.scm_document.specs.PieceOwners.{found_owner}
use Rattle.scm_document.specs.Pieces.{files_pieces, piece_places, pieces_among}
use Rattle.scm_document.specs.ViewPieces.{files_height}
use Rattle.scm_document.specs.HeaderRects.{message_rects, pinned_rects}
use Rattle.scm_overlay.specs.OverlayRects.{menu_bar_rects, quit_dialog_rects, help_dialog_rects, dialog_run, open_menu_height}
use Rattle.scm_render.specs.Centring.{centred_gap, centred_size}
use Rattle.scm_widgets.specs.ShownDialogs.{ShownDialog}
use Rattle.scm_overlay.specs.Dialogs.{widest_line, dialog_layer}
use Rattle.scm_view.specs.Runs.{joined, joined_with, words_run, document_run}
use Rattle.scm_overlay.specs.declared.menu.Menu.{Menu}
use Rattle.scm_overlay.specs.declared.menu_bar.MenuBar.{MenuBar}
use Rattle.scm_overlay.proofs.Ranges.{IsShortMenu}
use Rattle.scm_overlay.proofs.FixedLemmas.{short_bar}
use Rattle.scm_overlay.proofs.DialogLemmas.{centred_20, length-dialog, rect-is}
use Rattle.scm_document.proofs.FilesOf.{AreFilesOf, HasItsIds}
use Rattle.scm_document.specs.FilesRows.{files_rows}
use Rattle.scm_widgets.proofs.ButtonLemmas.{no-owner}
use Rattle.scm_document.proofs.DocumentLemmas.{length-message}
use Rattle.scm_view.proofs.DocumentOwnerLemmas.{message-cell}
use Rattle.scm_overlay.proofs.OverlayLemmas.{owned-append}
use Rattle.scm_view.proofs.LimitLemmas.{few-rows}
use Rattle.scm_view.proofs.SessionLemmas.{session-ids}
use Rattle.scm_document.proofs.ViewPieceLemmas.{file-strips-length, owner_of, upper, lower, files-above, files-owned, file-height}
use Rattle.scm_document.proofs.PieceLemmas.{files-places}
use Rattle.scm_widgets.proofs.OverlayRectLemmas.{on_row, spots-append, within-among}
use Rattle.scm_document.proofs.OverlayRectLemmas.{pinned-spots}
use Rattle.scm_overlay.proofs.OverlayOwnerLemmas.{overlays-owner, length-bar}

-- ---- the message

message-button : (y x commit : ℕ) → ◌≡◌ {A = Option ComponentId}
    (if is_within (pos 2) 1 y && is_within (pos 0) 14 x then Some (ids.CommitEditMessageButton commit) else None)
    (cond (int_eq (pos y) (pos 2) && (nat_le 0 x && nat_lt x 14)) (Some (ids.CommitEditMessageButton commit)) None)
message-button y x commit = rw (on_row (pos 2) y, within-among 0 14 x) refl

no-message-strips : (w commit y x : ℕ) → None ≡ (line clear (message_strips w commit None) (pos 1) (pos y)).owner x
unfolding message_strips line
no-message-strips w commit y x = refl

message-owner : (w commit y x : ℕ) (message : Option (List ℕ)) → overlay_owner (message_rects commit (is_some message)) y x ≡ owner_of (message_strips w commit message) 1 y x
unfolding owner_of
message-owner w commit y x None = no-message-strips w commit y x
message-owner w commit y x (Some t) = message-button y x commit ∙ message-cell w commit t (pos 1) (pos y) x

past-message : (w commit y x : ℕ) (message : Option (List ℕ)) → 1 + message_height message ≤ y → owner_of (message_strips w commit message) 1 y x ≡ None
unfolding owner_of
past-message w commit y x message h =
    let n = length-message w commit message in
    ap (λ (s : Strip ComponentId). s.owner x) (line-above clear (message_strips w commit message) (pos 1) (pos y) (omega (arith, ints, h, n)))

-- ---- the document's rows

words-none : (w row y x : ℕ) → (line clear (no_files_strip w ∷ []) (pos row) (pos y)).owner x ≡ None
words-none w row y x = sym (no-owner (no_files_strip w) (pos row) (pos y) x refl)

no-files-owner : (w h y x commit : ℕ) (message : Option (List ℕ))
    → owned_by (no_files_layers w h 1 commit message) y x ≡ first_of_two (overlay_owner (message_rects commit (is_some message)) y x) None
unfolding owned_by owner_of
no-files-owner w h y x commit None = words-none w (1 + no_files_gap h) y x
no-files-owner w h y x commit (Some t) =
    ap (λ o. first_of_two o (owner_of (message_strips w commit (Some t)) 1 y x)) (words-none w (1 + no_files_gap h) y x)
    ∙ sym (message-owner w commit y x (Some t)) ∙ sym (two_none (overlay_owner (message_rects commit true) y x))

some-files-owner : (w m y x commit : ℕ) (message : Option (List ℕ)) (vs : List FileView) → AreFilesOf commit 0 (map shown_file vs)
    → owner_of (message_strips w commit message ++ files_strips w m (1 + message_height message) (map shown_file vs)) 1 y x
    ≡ first_of_two (overlay_owner (message_rects commit (is_some message)) y x) (found_owner w (pieces_among y (files_pieces m (1 + message_height message) vs)) y x)
some-files-owner w m y x commit message vs e = go (nat_lt y (1 + message_height message)) refl
  where
    top : ℕ
    top = 1 + message_height message

    go : (t : Bool) → nat_lt y (1 + message_height message) ≡ t
        → owner_of (message_strips w commit message ++ files_strips w m (1 + message_height message) (map shown_file vs)) 1 y x
        ≡ first_of_two (overlay_owner (message_rects commit (is_some message)) y x) (found_owner w (pieces_among y (files_pieces m (1 + message_height message) vs)) y x)
    go true q =
        let less : y < 1 + message_height message = grind (arith, nat_tests) in
        let n = length-message w commit message in
        let none = files-above m (1 + message_height message) y vs less in
        upper (message_strips w commit message) (files_strips w m (1 + message_height message) (map shown_file vs)) 1 y x (omega (arith, less, n))
        ∙ sym (message-owner w commit y x message) ∙ sym (two_none (overlay_owner (message_rects commit (is_some message)) y x))
        ∙ ap (λ (o : Option RowPieces). first_of_two (overlay_owner (message_rects commit (is_some message)) y x) (found_owner w o y x)) (sym none)
    go false q =
        let more : 1 + message_height message ≤ y = grind (arith, nat_tests) in
        let n = length-message w commit message in
        let none = message-owner w commit y x message ∙ past-message w commit y x message more in
        lower (message_strips w commit message) (files_strips w m (1 + message_height message) (map shown_file vs)) 1 (1 + message_height message) y x (omega (arith, n)) more
        ∙ files-owned w x y m commit 0 (1 + message_height message) vs e more
        ∙ ap (λ o. first_of_two o (found_owner w (pieces_among y (files_pieces m (1 + message_height message) vs)) y x)) (sym none)

one-layer : (w h m y x commit : ℕ) (message : Option (List ℕ)) (f : FileView) (fs : List FileView) → AreFilesOf commit 0 (map shown_file (f ∷ fs))
    → owned_by (document_layers w h m 1 (record { commit = commit; message = message; files = map shown_file (f ∷ fs) })) y x
    ≡ first_of_two (overlay_owner (message_rects commit (is_some message)) y x) (found_owner w (pieces_among y (files_pieces m (1 + message_height message) (f ∷ fs))) y x)
unfolding owned_by owner_of
one-layer w h m y x commit message f fs e =
    let n = length-message w commit message in
    let some : (length (map shown_file (f ∷ fs)) == 0) ≡ false = grind arith in
    rw some (ap (λ k. (line clear (message_strips w commit message ++ files_strips w m (1 + k) (map shown_file (f ∷ fs))) (pos 1) (pos y)).owner x) n
    ∙ some-files-owner w m y x commit message (f ∷ fs) e)

document-owner : (w h s y x : ℕ) (v : CommitView) → HasItsIds (document_of v)
    → let d = document_of v in
    owned_by (rows_layers w h s d) y x
    ≡ first_of_two (overlay_owner (message_rects d.commit (is_some d.message)) y x) (found_owner w (pieces_among y (files_pieces (s + 1) (1 + message_height d.message) v.file_views)) y x)
document-owner w h s y x v e = go v.file_views e
  where
    commit : ℕ
    commit = v.commit_message_view.commit_idx

    go : (vs : List FileView) → AreFilesOf v.commit_message_view.commit_idx 0 (map shown_file vs)
        → owned_by (rows_layers w h s (record { commit = v.commit_message_view.commit_idx; message = v.commit_message_view.commit.now.message; files = map shown_file vs })) y x
        ≡ first_of_two (overlay_owner (message_rects v.commit_message_view.commit_idx (is_some v.commit_message_view.commit.now.message)) y x)
        (found_owner w (pieces_among y (files_pieces (s + 1) (1 + message_height v.commit_message_view.commit.now.message) vs)) y x)
    go [] q = no-files-owner w (h - 1) y x v.commit_message_view.commit_idx v.commit_message_view.commit.now.message
    go (f ∷ fs) q = one-layer w (h - 1) (s + 1) y x v.commit_message_view.commit_idx v.commit_message_view.commit.now.message f fs q

-- the pinned header
pinned-owner : (w m y x : ℕ) (v : CommitView) → x < w → 3 ≤ w → HasItsIds (document_of v)
    → (strip_at y (pinned_layer w m 1 (document_of v))).owner x ≡ overlay_owner (pinned_rects w m (pieces_among m (files_pieces m (1 + message_height (document_of v).message) v.file_views))) y x
pinned-owner w m y x v within wide e =
    let d = document_of v in
    ap (λ k. (line clear (pinned_strips w m (1 + k) (map shown_file v.file_views)) (pos m) (pos y)).owner x) (length-message w d.commit d.message)
    ∙ sym (pinned-spots w m y x d.commit 0 (1 + message_height d.message) v.file_views within wide e)

alone : (l : Layer ComponentId) (y x : ℕ) → owned_by (l ∷ []) y x ≡ (strip_at y l).owner x
unfolding owned_by
alone l y x = refl

four : (o p m r : Option ComponentId) → first_of_two (first_of_two (first_of_two o p) m) r ≡ first_of_two o (first_of_two p (first_of_two m r))
four o p m r = two_assoc (first_of_two o p) m r ∙ two_assoc o p (first_of_two m r)

-- the whole of it, over one another
all-owner : (w h s y x : ℕ) (menu : Option ℕ) (quit : Option QuitDialog) (help : Bool) (v : CommitView) → HasItsIds (document_of v) → 10 ≤ w → 2 ≤ h → x < w
    → let d = document_of v in
    first_of_two (overlay_owner (message_rects d.commit (is_some d.message) ++ (pinned_rects w (s + 1) (pieces_among (s + 1) (files_pieces (s + 1) (1 + message_height d.message) v.file_views))
    ++ (menu_bar_rects (screen w h s) (menus_with menu) ++ (quit_dialog_rects (screen w h s) quit ++ help_dialog_rects (screen w h s) help)))) y x)
    (found_owner w (pieces_among y (files_pieces (s + 1) (1 + message_height d.message) v.file_views)) y x)
    ≡ owned_by (body_layers w h s d ++ overlays w h s menu quit help) y x
all-owner w h s y x menu quit help v e wide high within =
    let d = document_of v in
    let ms = message_rects d.commit (is_some d.message) in
    let ps = pinned_rects w (s + 1) (pieces_among (s + 1) (files_pieces (s + 1) (1 + message_height d.message) v.file_views)) in
    let os = menu_bar_rects (screen w h s) (menus_with menu) ++ (quit_dialog_rects (screen w h s) quit ++ help_dialog_rects (screen w h s) help) in
    let r = found_owner w (pieces_among y (files_pieces (s + 1) (1 + message_height d.message) v.file_views)) y x in
    ap (λ o. first_of_two o r) (spots-append ms (ps ++ os) y x ∙ ap (λ o. first_of_two o (overlay_owner ms y x)) (spots-append ps os y x))
    ∙ four (overlay_owner os y x) (overlay_owner ps y x) (overlay_owner ms y x) r
    ∙ ap₂ first_of_two (overlays-owner w h s y x menu quit help within (omega (arith, wide)) high)
    (ap₂ first_of_two (sym (pinned-owner w (s + 1) y x v within (omega (arith, wide)) e) ∙ sym (alone (pinned_layer w (s + 1) 1 d) y x)) (sym (document-owner w h s y x v e))
    ∙ sym (owned-append (λ i j. false) (λ i. false) (rows_layers w h s d) (pinned_layer w (s + 1) 1 d ∷ []) y x))
    ∙ sym (owned-append (λ i j. false) (λ i. false) (body_layers w h s d) (overlays w h s menu quit help) y x)

pub index-owner : (w h s y x : ℕ) (shown : ViewState) (v : CommitView) → Shows v shown 0 → 10 ≤ w → 2 ≤ h → x < w
    → let d = document_of v in
    first_of_two (overlay_owner (message_rects d.commit (is_some d.message) ++ (pinned_rects w (s + 1) (pieces_among (s + 1) (files_pieces (s + 1) (1 + message_height d.message) v.file_views))
    ++ (menu_bar_rects (screen w h s) (menus_with shown.open_menu) ++ (quit_dialog_rects (screen w h s) shown.quit_dialog ++ help_dialog_rects (screen w h s) shown.is_help_open)))) y x)
    (found_owner w (pieces_among y (files_pieces (s + 1) (1 + message_height d.message) v.file_views)) y x)
    ≡ owner w h s shown y x
unfolding owner
index-owner w h s y x shown v shows wide high within =
    all-owner w h s y x shown.open_menu shown.quit_dialog shown.is_help_open v (subst HasItsIds (sym shows) (session-ids shown 0)) wide high within
    ∙ ap (λ (d : Document). owned_by (body_layers w h s d ++ overlays w h s shown.open_menu shown.quit_dialog shown.is_help_open) y x) shows

-- ---- keys

pub index-span : (m : ℕ) (shown : ViewState) (v : CommitView) (k : SelectionKey) → Shows v shown 0
    → rows_of_key k (flat_map piece_places (files_pieces m (1 + message_height (document_of v).message) v.file_views)) ≡ span shown k
unfolding span
index-span m shown v k shows = ap (rows_of_key k) (files-places m (1 + message_height (document_of v).message) v.file_views) ∙ ap (λ (d : Document). rows_of_key k (places 1 d)) shows

-- ---- bounds

pub files-rows-height : (vs : List FileView) → length (files_rows (map shown_file vs)) ≡ files_height vs
unfolding files_rows
files-rows-height [] = refl
files-rows-height (v ∷ vs) = length-append (file_rows (shown_file v)) (files_rows (map shown_file vs)) ∙ ap₂ (λ a b. a + b) (file-height v) (files-rows-height vs)

pub index-few : (shown : ViewState) (v : CommitView) → is_accepted_state shown.state ≡ true → Shows v shown 0 → 1 + message_height (document_of v).message + files_height v.file_views < 2 ^ 62
index-few shown v a shows =
    let few = few-rows shown 0 v a shows in
    let size = files-rows-height v.file_views in
    let message = message-le (document_of v).message in
    omega (arith, few, size, message)

first-shows : (vs : List CommitView) (shown : ViewState) (v : CommitView) → ShowInOrder vs shown 0 → 1 ≤ length vs → v ≡ get_or vs 0 v → Shows v shown 0
first-shows [] shown v e n f = absurd (omega (arith, n))
first-shows (u ∷ us) shown v e n f = subst (λ (t : CommitView). Shows t shown 0) (sym f) e.0

pub shows-first : (a : AppView) (shown : ViewState) (w h : ℕ) (v : CommitView) → IsPlain a shown w h → v ≡ get_or a.commit_views 0 v → Shows v shown 0
shows-first a shown w h v plain f =
    let one : 1 ≤ length a.commit_views = subst (λ (mode : CommitViewMode). view_count mode ≤ length a.commit_views) plain.view_mode plain.shows.count in
    first-shows a.commit_views shown v plain.shows.views one f

few-items : (m : Option (ℕ × Menu)) → IsShortMenu m → open_menu_height m ≤ max_text
few-items None p = omega arith
few-items (Some m) p = p.1

-- there is a help dialog if one is kept
pub some-help : (d : Option HelpDialog) → is_some d ≡ has_help d
some-help None = refl
some-help (Some h) = refl

pub bar-few : (b : MenuBar) (menu : Option ℕ) → b ≡ menus_with menu → open_menu_height (open_menu b) ≤ max_text
bar-few b menu e = rw e (few-items (open_menu (menus_with menu)) (short_bar menu).1)

-- ---- the extent

-- a run of rows, and layers around which it goes
around : ℕ × ℕ → List (Layer ComponentId) → ℕ × ℕ
around r [] = r
around r (l ∷ ls) = around (joined r (l.first, end_of l)) ls

around-is : (ls : List (Layer ComponentId)) (a b : ℕ) → around (a, b) ls ≡ (fold (λ (f : ℕ) (k : Layer ComponentId). min f k.first) a ls, fold (λ (e : ℕ) (k : Layer ComponentId). max e (end_of k)) b ls)
unfolding around
around-is [] a b = refl
around-is (l ∷ ls) a b = around-is ls (min a l.first) (max b (end_of l))

around-append : (xs ys : List (Layer ComponentId)) (r : ℕ × ℕ) → around r (xs ++ ys) ≡ around (around r xs) ys
unfolding around
around-append [] ys r = refl
around-append (l ∷ xs) ys r = around-append xs ys (joined r (l.first, end_of l))

joined-again : (r a b : ℕ × ℕ) → joined (joined r a) b ≡ joined r (joined a b)
joined-again r a b =
    let low : min (min r.0 a.0) b.0 ≡ min r.0 (min a.0 b.0) = omega arith in
    let high : max (max r.1 a.1) b.1 ≡ max r.1 (max a.1 b.1) = omega arith in
    rw (low, high) refl

length-files : (w m top : ℕ) (vs : List FileView) → length (files_strips w m top (map shown_file vs)) ≡ files_height vs
unfolding files_strips
length-files w m top [] = refl
length-files w m top (v ∷ vs) =
    length-append (file_strips w (is_over m top (shown_file v)) (shown_file v)) (files_strips w m (top + length (file_rows (shown_file v))) (map shown_file vs))
    ∙ ap₂ (λ a b. a + b) (file-strips-length w (is_over m top (shown_file v)) v) (length-files w m (top + length (file_rows (shown_file v))) vs)

words-around : (w h commit : ℕ) (message : Option (List ℕ)) (r : ℕ × ℕ) → around r (no_files_layers w h 1 commit message) ≡ joined r (if message_height message == 0 then words_run h else joined (1, 1 + message_height message) (words_run h))
unfolding around message_strips
words-around w h commit None r = refl
words-around w h commit (Some t) r = joined-again r (1, 1 + 3) (words_run h)

document-around : (w h m commit : ℕ) (message : Option (List ℕ)) (vs : List FileView) (r : ℕ × ℕ)
    → around r (document_layers w h m 1 (record { commit = commit; message = message; files = map shown_file vs }))
    ≡ joined r (document_run h (message_height message) (length vs == 0) (1 + message_height message + files_height vs))
unfolding around
document-around w h m commit message [] r = words-around w h commit message r
document-around w h m commit message (v ∷ vs) r =
    let some : (length (map shown_file (v ∷ vs)) == 0) ≡ false = grind arith in
    let many : (length (v ∷ vs) == 0) ≡ false = grind arith in
    let above = length-message w commit message in
    let rest = length-files w m (1 + length (message_strips w commit message)) (v ∷ vs) in
    let all = length-append (message_strips w commit message) (files_strips w m (1 + length (message_strips w commit message)) (map shown_file (v ∷ vs))) in
    let end : 1 + length (message_strips w commit message ++ files_strips w m (1 + length (message_strips w commit message)) (map shown_file (v ∷ vs))) ≡ 1 + message_height message + files_height (v ∷ vs) = omega (arith, above, rest, all) in
    rw (some, many) (ap (λ e. joined r (1, e)) end)

dialog-around : (w h s : ℕ) (d : ShownDialog ComponentId) (r : ℕ × ℕ) → 2 ≤ h → joined r ((dialog_layer w h s d).first, end_of (dialog_layer w h s d)) ≡ joined r (dialog_run (screen w h s) d)
dialog-around w h s d r high =
    let cy = centred_20 h (length d.body + 2) high (omega arith) in
    ap (λ n. joined r (s + centred_gap h (length d.body + 2) 20, s + centred_gap h (length d.body + 2) 20 + n))
    (length-dialog w (centred_gap w (widest_line d.body + 2) 60) (centred_size w (widest_line d.body + 2) 60) (centred_size h (length d.body + 2) 20) d cy.some)
    ∙ ap (λ (k : Rect). joined r (or_zero k.y, or_zero (end_y_of k))) (sym (rect-is w h s d))

quit-around : (w h s : ℕ) (q : Option QuitDialog) (r : ℕ × ℕ) → 2 ≤ h → around r (quit_layers w h s q) ≡ joined_with r (option_map (λ d. dialog_run (screen w h s) (quit_dialog d)) q)
unfolding around
quit-around w h s None r high = refl
quit-around w h s (Some q) r high = dialog-around w h s (quit_dialog q) r high

help-around : (w h s : ℕ) (t : Bool) (r : ℕ × ℕ) → 2 ≤ h → around r (help_layers w h s t) ≡ joined_with r (if t then Some (dialog_run (screen w h s) help_dialog) else None)
unfolding around
help-around w h s true r high = dialog-around w h s help_dialog r high
help-around w h s false r high = refl

pub index-extent : (w h s : ℕ) (shown : ViewState) (v : CommitView) → Shows v shown 0 → 2 ≤ h
    → let b = menus_with shown.open_menu in
    let d = document_of v in
    let r = joined_with (joined_with (joined (s, s + (1 + open_menu_height (open_menu b))) (document_run (h - 1) (message_height d.message) (length v.file_views == 0) (1 + message_height d.message + files_height v.file_views)))
    (option_map (λ q. dialog_run (screen w h s) (quit_dialog q)) shown.quit_dialog)) (if shown.is_help_open then Some (dialog_run (screen w h s) help_dialog) else None) in
    r.1 - r.0 ≡ extent w h s shown
unfolding extent
index-extent w h s shown v shows high =
    let b = menus_with shown.open_menu in
    let d = document_of v in
    let rows = rows_layers w h s d in
    let quit = quit_layers w h s shown.quit_dialog in
    let help = help_layers w h s shown.is_help_open in
    let all : around (s, end_of (menu_layer w s b)) (rows ++ (quit ++ help)) ≡ joined_with (joined_with (joined (s, s + (1 + open_menu_height (open_menu b))) (document_run (h - 1) (message_height d.message) (length v.file_views == 0) (1 + message_height d.message + files_height v.file_views)))
    (option_map (λ q. dialog_run (screen w h s) (quit_dialog q)) shown.quit_dialog)) (if shown.is_help_open then Some (dialog_run (screen w h s) help_dialog) else None) =
    ap (λ e. around (s, e) (rows ++ (quit ++ help))) (length-bar w s b)
    ∙ around-append rows (quit ++ help) _ ∙ ap (λ r. around r (quit ++ help)) (document-around w (h - 1) (s + 1) d.commit d.message v.file_views _)
    ∙ around-append quit help _ ∙ ap (λ r. around r help) (quit-around w h s shown.quit_dialog _ high) ∙ help-around w h s shown.is_help_open _ high in
    ap (λ (r : ℕ × ℕ). r.1 - r.0) (sym all ∙ around-is (rows ++ (quit ++ help)) s (end_of (menu_layer w s b)))
    ∙ ap (λ (k : Document). rows_around (menu_layer w s b) (rows_layers w h s k ++ (quit ++ help))) shows

-- ---- all that the index answers

spots-all : (ms ps bs qs hs m1 m2 m3 m4 : List OverlayRect) → m1 ≡ ms ++ ps → m2 ≡ m1 ++ bs → m3 ≡ m2 ++ qs → m4 ≡ m3 ++ hs → m4 ≡ ms ++ (ps ++ (bs ++ (qs ++ hs)))
spots-all ms ps bs qs hs m1 m2 m3 m4 a b c d =
    d ∙ ap (λ k. k ++ hs) (c ∙ ap (λ k. k ++ qs) (b ∙ ap (λ k. k ++ bs) a))
    ∙ append_assoc ((ms ++ ps) ++ bs) qs hs ∙ append_assoc (ms ++ ps) bs (qs ++ hs) ∙ append_assoc ms ps (bs ++ (qs ++ hs))

if-same : (t : Bool) (a b : Option ComponentId) → (t ≡ true → a ≡ b) → (if t then a else None) ≡ (if t then b else None)
if-same true a b h = h refl
if-same false a b h = refl

pub answers-owner : (w h s y x : ℕ) (shown : ViewState) (v : CommitView) (m0 m1 m2 m3 m4 : List OverlayRect) (over on : Option RowPieces) → 10 ≤ w → 2 ≤ h → Shows v shown 0
    → m0 ≡ message_rects (document_of v).commit (is_some (document_of v).message) → m1 ≡ m0 ++ pinned_rects w (s + 1) over → m2 ≡ m1 ++ menu_bar_rects (screen w h s) (menus_with shown.open_menu)
    → m3 ≡ m2 ++ quit_dialog_rects (screen w h s) shown.quit_dialog → m4 ≡ m3 ++ help_dialog_rects (screen w h s) shown.is_help_open
    → over ≡ pieces_among (s + 1) (files_pieces (s + 1) (1 + message_height (document_of v).message) v.file_views)
    → on ≡ pieces_among y (files_pieces (s + 1) (1 + message_height (document_of v).message) v.file_views)
    → (if nat_lt x w then first_of_two (overlay_owner m4 y x) (found_owner w on y x) else None) ≡ (if nat_lt x w then owner w h s shown y x else None)
answers-owner w h s y x shown v m0 m1 m2 m3 m4 over on wide high shows e0 e1 e2 e3 e4 eo en =
    let d = document_of v in
    let ps = pinned_rects w (s + 1) (pieces_among (s + 1) (files_pieces (s + 1) (1 + message_height d.message) v.file_views)) in
    let all = spots-all (message_rects d.commit (is_some d.message)) ps (menu_bar_rects (screen w h s) (menus_with shown.open_menu)) (quit_dialog_rects (screen w h s) shown.quit_dialog) (help_dialog_rects (screen w h s) shown.is_help_open) m1 m2 m3 m4
    (e1 ∙ ap₂ (λ i j. i ++ j) e0 (ap (pinned_rects w (s + 1)) eo)) e2 e3 e4 in
    if-same (nat_lt x w) _ _ (λ q.
    let within : x < w = grind (arith, nat_tests) in
    ap₂ first_of_two (ap (λ k. overlay_owner k y x) all) (ap (λ (o : Option RowPieces). found_owner w o y x) en)
    ∙ index-owner w h s y x shown v shows wide high within)

pub answers-extent : (w h s : ℕ) (shown : ViewState) (v : CommitView) (run : ℕ × ℕ) (below n e : ℕ) (none : Bool) (quit help : Option (ℕ × ℕ)) → 2 ≤ h → Shows v shown 0
    → run ≡ joined_with (joined_with (joined (s, below) (document_run (h - 1) n none e)) quit) help
    → below ≡ s + (1 + open_menu_height (open_menu (menus_with shown.open_menu))) → n ≡ message_height (document_of v).message → none ≡ (length v.file_views == 0)
    → e ≡ 1 + message_height (document_of v).message + files_height v.file_views
    → quit ≡ option_map (λ q. dialog_run (screen w h s) (quit_dialog q)) shown.quit_dialog → help ≡ (if shown.is_help_open then Some (dialog_run (screen w h s) help_dialog) else None)
    → run.1 - run.0 ≡ extent w h s shown
answers-extent w h s shown v run below n e none quit help high shows er eb en ez ee eq eh =
    ap (λ (r : ℕ × ℕ). r.1 - r.0)
    (er ∙ ap₂ joined_with (ap₂ joined_with (ap₂ joined (ap (λ z. (s, z)) eb) (ap (λ k. document_run (h - 1) k none e) en ∙ ap₂ (document_run (h - 1) (message_height (document_of v).message)) ez ee)) eq) eh)
    ∙ index-extent w h s shown v shows high
