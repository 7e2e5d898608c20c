-- Nothing lies over a row below the last one of all rectangles, and no file has a row below the last file.
use Rattle.std.proofs.Common.{◌≡◌, ℕ, suc, ◌+◌, ◌-◌, ◌<◌, ◌≤◌, ◌^◌, Bool, true, false, ◌&&◌, List, [], ◌∷◌, length, take, get_or, refl, sym, ◌∙◌, arith}
use Rattle.std.specs.Prelude.{ℤ, pos, ◌-ℤ◌, min, nat_le, nat_lt, if◌then◌else◌, Some, None}
use Rattle.std.proofs.lemmas.Bool.Decides.{nat_tests}
use Rattle.std.proofs.lemmas.Int.{ints}
use Rattle.std.proofs.lemmas.List.Elements.{All-head, All-more, All-tail, All-weaker}
use Rattle.scm_widgets.specs.declared.overlay_rects.OverlayRect.{OverlayRect}
use Rattle.scm_cells.specs.Rect.{or_zero}
use Rattle.scm_widgets.specs.Layers.{is_within}
use Rattle.scm_widgets.specs.OverlayRects.{have_row, overlay_owner}
use Rattle.scm_layout.specs.declared.file_rows.FileRows.{FileRows}
use Rattle.scm_layout.specs.Searches.{FilesFollow, FollowFrom, file_on, index_on}
use Rattle.scm_view.specs.ViewState.{ViewState}
use Rattle.scm_view.specs.Window.{owner}
use Rattle.scm_types.specs.declared.keys.SelectionKey.{SelectionKey}
use Rattle.scm_layout_index.specs.declared.layout_index.LayoutIndex.{LayoutIndex}
use Rattle.scm_layout_index.specs.LayoutIndex.{IsLayoutIndexOf, document_owner, owner_in}
use Rattle.scm_layout_index.specs.Overlays.{AreAbove, IsAbove}
use Rattle.scm_layout_index.specs.RowPieces.{RowsFit, end_of_files, pieces_on}
use Rattle.scm_layout_index.proofs.RowOwnerLemmas.{not-over}

-- ---- rectangles

-- a stretch of n places from c on has none below its last one
pub past-last : (c : ℤ) (n y : ℕ) → y < 2 ^ 64 → min (or_zero (c -ℤ pos 0) + (n - or_zero (pos 0 -ℤ c) - 1)) 18446744073709551615 < y → is_within c n y ≡ false
past-last (pos k) n y low high = grind (arith, ints)
past-last c n y low high = grind (arith, ints)

pub none-below : (rs : List OverlayRect) (m y : ℕ) → AreAbove m rs → y < 2 ^ 64 → m < y → have_row rs y ≡ false
none-below [] m y h low high = refl
none-below (r ∷ rs) m y h low high =
    let head = All-head (IsAbove m) r rs h y low high in
    let more = none-below rs m y (All-tail (IsAbove m) r rs h) low high in
    rw (head, more) refl

-- one rectangle more
pub next-above : (rs : List OverlayRect) (i : ℕ) (d : OverlayRect) (m k e : ℕ) → i < length rs → m ≤ e → k ≤ e → AreAbove m (take i rs) → IsAbove k (get_or rs i d) → AreAbove e (take (i + 1) rs)
next-above rs i d m k e within old new h one =
    All-more (IsAbove e) rs i d within
    (All-weaker (IsAbove m) (IsAbove e) (λ r above y low high. above y low (omega arith)) (take i rs) h)
    (λ y low high. one y low (omega arith))

-- ---- files

module _ (y : ℕ) where
  none-on : (t i : ℕ) (rs : List FileRows) → FollowFrom (λ (r : FileRows). r.top) (λ (r : FileRows). r.end) t rs → end_of_files t rs ≤ y
      → (index_on (λ (r : FileRows). r.top) (λ (r : FileRows). r.end) y i rs ≡ None) × (t ≤ end_of_files t rs)
  none-on t i [] h below = (refl, omega arith)
  none-on t i (r ∷ rs) h below =
      let more = none-on r.end (suc i) rs h.2 below in
      let low = more.1 in
      let here = h.1 in
      let past : nat_lt y r.end ≡ false = grind (arith, nat_tests) in
      (rw past (skip (nat_le r.top y) more.0), omega arith)
    where
      skip : (b : Bool) → index_on (λ (r : FileRows). r.top) (λ (r : FileRows). r.end) y (suc i) rs ≡ None
          → (if b && false then Some i else index_on (λ (r : FileRows). r.top) (λ (r : FileRows). r.end) y (suc i) rs) ≡ None
      skip true e = e
      skip false e = e

  no-file : (rs : List FileRows) → FilesFollow rs → end_of_files 0 rs ≤ y → file_on y rs ≡ None
  no-file [] follow below = refl
  no-file (r ∷ rs) follow below = (none-on follow.top 0 (r ∷ rs) follow.follow below).0

  pub no-pieces : (selection : SelectionKey) (m : ℕ) (rs : List FileRows) → RowsFit rs → end_of_files 0 rs ≤ y → pieces_on selection m y rs ≡ None
  no-pieces selection m rs fit below = let none = no-file rs fit.follow below in rw none refl

-- ---- owners

-- where there is neither, no place has an owner
pub no-owner : (w h s : ℕ) (shown : ViewState) (i : LayoutIndex) (y x : ℕ) → IsLayoutIndexOf w h s shown i → have_row i.rects y ≡ false → pieces_on i.selection i.pinned y i.rows.files ≡ None → x < w
    → owner w h s shown y x ≡ None
no-owner w h s shown i y x is bare found within =
    let none : overlay_owner i.rects y x ≡ None = not-over i.rects y x bare in
    let pieces : document_owner i y x ≡ None = rw found refl in
    let wide = is.width in
    let inside_index : nat_lt x i.width ≡ true = grind (arith, nat_tests) in
    let inside : nat_lt x w ≡ true = grind (arith, nat_tests) in
    let here : owner_in i y x ≡ None = rw (inside_index, none) pieces in
    let there = rw inside at (is.owner y x) in
    sym there ∙ here
