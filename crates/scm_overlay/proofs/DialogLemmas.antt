-- What a dialog draws, and where its box lies.
use Rattle.std.proofs.Common.{◌≡◌, ℕ, zero, suc, ◌+◌, ◌-◌, ◌<◌, ◌≤◌, Bool, false, List, [], ◌∷◌, ◌++◌, length, map, take, refl, sym, ap, ap₂, subst, ◌∙◌, arith, inl, inr, replicate, append_assoc, length-append, length-take}
use Rattle.std.specs.Prelude.{ℤ, pos, ◌+ℤ◌, ◌-ℤ◌, ◌≤ℤ◌, ◌<ℤ◌, None}
use Rattle.std.specs.Int.{int_min}
use Rattle.std.proofs.lemmas.Int.{ints, clamps}
use Rattle.std.proofs.lemmas.List.{length-replicate, length-map, map-append}
use Rattle.scm_cells.specs.Row.{put}
use Rattle.scm_cells.specs.Rect.{end_x_of, intersect_of, is_empty}
use Rattle.scm_cells.specs.declared.rect.Rect.{Rect}
use Rattle.scm_cells.proofs.RectLemmas.{places}
use Rattle.scm_render.specs.Picture.{Put, Picture, nothing, followed_by, part, box_rect}
use Rattle.scm_render.specs.Around.{join, around, no_rect}
use Rattle.scm_render.specs.Canvas.{Row, Sight, clamp_column}
use Rattle.scm_render.specs.Centring.{centred_gap, centred_size, centred_rect}
use Rattle.scm_render.specs.Drawing.{row_rect, reach, frame_picture, title_room, body_room, text_puts, lines_puts}
use Rattle.scm_render.specs.Hits.{hit, IsLawful}
use Rattle.scm_render.proofs.AroundLemmas.{around-one, join-assoc, join-empty, join-from_empty, is_empty-in}
use Rattle.scm_render.proofs.LineLemmas.{line-map}
use Rattle.scm_render.proofs.RowLemmas.{PutsRows}
use Rattle.scm_render.proofs.SpanLemmas.{join-x, join-y, join-end_x, join-end_y}
use Rattle.scm_render.proofs.FillLemmas.{put_over, top_text, side_text, bottom_text, border_puts, border_paints, frame-puts, text_paints, lines_paint}
use Rattle.scm_widgets.specs.Layers.{Strip, laid_over, owned}
use Rattle.scm_widgets.specs.declared.button.Button.{Button}
use Rattle.scm_widgets.specs.Buttons.{button_part, button_strip, button_width, buttons_strip, leftmost, placed_from_right, placed_picture}
use Rattle.scm_widgets.proofs.OwnButtons.{IsOneOf, AreButtons, IsDialog}
use Rattle.scm_widgets.specs.ShownDialogs.{ShownDialog}
use Rattle.scm_overlay.specs.Dialogs.{widest_line, dialog_rect, dialog_buttons, dialog_picture, put_strip, border_strips, frame_strips, is_dialog_column, dialog_strips, dialog_layer}
use Rattle.scm_widgets.specs.Screens.{screen, sight}
use Rattle.scm_widgets.proofs.DrawsStrips.{DrawsStrips, draws_clear, draws_both, draws_over, draws_part, draws_again, box-followed, length-laid_over}
use Rattle.scm_widgets.proofs.ButtonLemmas.{Inside, intersect-inside, reach-screen, draws_button, IsId, box-plain_button}
use Rattle.scm_overlay.proofs.MenuLemmas.{line-beside}
use Rattle.scm_widgets.proofs.MenuLemmas.{not-empty}
use Rattle.scm_widgets.proofs.DialogLemmas.{sizes}

-- ---- the size of a dialog

-- a part in the middle of so much room, of two or more
pub record IsCentred (gap size room : ℕ) : Type 0 where
  pub fits : gap + size ≤ room
  pub some : 2 ≤ size

pub centred_60 : (room least : ℕ) → 2 ≤ room → 2 ≤ least → IsCentred (centred_gap room least 60) (centred_size room least 60) room
centred_60 room least a b = record { fits = omega arith; some = omega arith }

pub centred_20 : (room least : ℕ) → 2 ≤ room → 2 ≤ least → IsCentred (centred_gap room least 20) (centred_size room least 20) room
centred_20 room least a b = record { fits = omega arith; some = omega arith }

-- ---- strips that own nothing

abbrev plain : {K : Type 0} → (Row → Row) → Strip K
plain f = record { shows = f; owner = λ x. None }

-- puts alone
abbrev only : {K : Type 0} → List Put → Picture K
only ps = record { puts = ps; boxes = []; areas = [] }

module _ {K : Type 0} (same_id : K → K → Bool) (clicks : K → Bool) where
  draws_plain : (v : Rect) (P : K → Type 0) (m : Picture K) (y : ℤ) (fs : List (Row → Row)) → m.boxes ≡ [] → PutsRows v v y m.puts fs → DrawsStrips same_id clicks v P m y (map plain fs)
  unfolding hit
  draws_plain v P m y fs none h = record {
    paints = λ z row p q. h z row p ∙ sym (ap (λ (s : Strip K). s.shows row) (line-map plain (λ (row : Row). row) fs y z));
    owns = λ rep live z x p. rw none (sym (ap (λ (s : Strip K). s.owner x) (line-map plain (λ (row : Row). row) fs y z)));
    ids = rw none tt;
  }

  -- the same puts and boxes
  draws_same : (v : Rect) (P : K → Type 0) (m k : Picture K) (y : ℤ) (ss : List (Strip K)) → k.puts ≡ m.puts → k.boxes ≡ m.boxes → DrawsStrips same_id clicks v P m y ss → DrawsStrips same_id clicks v P k y ss
  draws_same v P m k y ss e f h = record {
    paints = λ z row p q. rw e (h.paints z row p q);
    owns = λ rep live z x p. rw f (h.owns rep live z x p);
    ids = rw f h.ids;
  }

-- ---- the frame

-- a rectangle on a screen by its columns and rows
abbrev pub at : ℕ → ℕ → ℕ → ℕ → Rect
at c y n m = record { x = pos c; y = pos y; width = n; height = m }

within-text : (w h s : ℕ) (r : Rect) (c e : ℕ) (t : List ℕ) → r.x ≡ pos c → end_x_of r ≡ pos e → c ≤ w → e ≤ w → put_over (screen w h s) r t ≡ (λ row. put row (pos c) t c e)
within-text w h s r c e t a b p q =
    let x : r.x -ℤ pos 0 ≡ pos c = ap (λ z. z -ℤ pos 0) a ∙ omega (arith, ints) in
    let low : clamp_column w (r.x -ℤ pos 0) ≡ c = ap (λ z. clamp_column w (z -ℤ pos 0)) a ∙ omega (arith, places) in
    let high : clamp_column w (end_x_of r -ℤ pos 0) ≡ e = ap (λ z. clamp_column w (z -ℤ pos 0)) b ∙ omega (arith, places) in
    λ i row. put row (x i) t (low i) (high i)

map-replicate : {A B : Type 0} (f : A → B) (n : ℕ) (a : A) → map f (replicate n a) ≡ replicate n (f a)
map-replicate f zero a = refl
map-replicate f (suc n) a = ap (λ w. f a ∷ w) (map-replicate f n a)

map-each : {A B C : Type 0} (f : A → B) (g : B → C) (k : A → C) (xs : List A) → ((a : A) → g (f a) ≡ k a) → map g (map f xs) ≡ map k xs
map-each f g k [] e = refl
map-each f g k (x ∷ xs) e = ap₂ (λ a b. a ∷ b) (e x) (map-each f g k xs e)

border-strips : {K : Type 0} (w h s c y n m : ℕ) → c + n ≤ w
    → ◌≡◌ {A = List (Strip K)} (map plain (put_over (screen w h s) (at c y n m) (top_text n) ∷ (replicate (m - 2) (put_over (screen w h s) (at c y n m) (side_text n)) ++ put_over (screen w h s) (at c y n m) (bottom_text n) ∷ [])))
    (border_strips c n m)
border-strips w h s c y n m fits =
    let F = λ (t : List ℕ). within-text w h s (at c y n m) c (c + n) t refl refl (omega arith) fits in
    rw (F (top_text n), F (side_text n), F (bottom_text n))
    (ap (λ k. put_strip c (top_text n) c (c + n) ∷ k) (map-append plain (replicate (m - 2) (λ (row : Row). put row (pos c) (side_text n) c (c + n))) ((λ row. put row (pos c) (bottom_text n) c (c + n)) ∷ [])
    ∙ ap (λ k. k ++ put_strip c (bottom_text n) c (c + n) ∷ []) (map-replicate plain (m - 2) (λ (row : Row). put row (pos c) (side_text n) c (c + n)))))

pub length-border : (K : Type 0) (c n m : ℕ) → 2 ≤ m → length (border_strips {K = K} c n m) ≡ m
length-border K c n m h =
    let side : Strip K = put_strip c (side_text n) c (c + n) in
    let bottom : Strip K = put_strip c (bottom_text n) c (c + n) in
    omega (arith, length-append (replicate (m - 2) side) (bottom ∷ []), length-replicate (m - 2) side)

inside-screen : (w h s c y n m : ℕ) → c + n ≤ w → s ≤ y → y + m ≤ s + h → Inside (at c y n m) (screen w h s)
inside-screen w h s c y n m fits above below = record { left = omega (arith, ints); right = omega (arith, ints); top = omega (arith, ints); bottom = omega (arith, ints) }

inside-reach : (w h s : ℕ) (r : Rect) → Inside r (screen w h s) → intersect_of r (reach (sight w h s)) ≡ r
inside-reach w h s r h1 = ap (intersect_of r) (reach-screen w h s) ∙ intersect-inside r (screen w h s) h1

no-frame_boxes : (K : Type 0) (s : Sight) (r : Rect) (t : List ℕ) (b : List (List ℕ)) → (frame_picture {K = K} s r t b).boxes ≡ []
unfolding frame_picture
no-frame_boxes K s r t b = refl

module _ {K : Type 0} (same_id : K → K → Bool) (clicks : K → Bool) where
  frame_draws : (w h s c y n m : ℕ) (title : List ℕ) (body : List (List ℕ)) → c + n ≤ w → s ≤ y → y + m ≤ s + h → 2 ≤ n → 2 ≤ m
      → DrawsStrips same_id clicks (screen w h s) (λ i. ⊥) (frame_picture (sight w h s) (at c y n m) title body) (pos y)
      (laid_over 1 (map (λ t. put_strip (c + 1) t (c + 1) (c + n - 1)) (take (m - 2) body)) (laid_over 0 (put_strip (c + 1) title (c + 1) (c + n - 1) ∷ []) (border_strips c n m)))
  unfolding followed_by
  frame_draws w h s c y n m title body fits above below wide high =
      draws_same same_id clicks v none all (frame_picture (sight w h s) r title body) (pos y) _ puts (no-frame_boxes K (sight w h s) r title body)
      (draws_over same_id clicks v none none none (only (border_puts r ++ first)) (only lines) (pos y) 1 (laid_over 0 (title_strip ∷ []) (border_strips c n m)) (map line_strip ts)
      (omega (arith, length-map ts line_strip, length-laid_over 0 (title_strip ∷ []) (border_strips c n m), length-border K c n m high, length-take (m - 2) body))
      (draws_over same_id clicks v none none none (only (border_puts r)) (only first) (pos y) 0 (border_strips c n m) (title_strip ∷ [])
      (omega (arith, length-border K c n m high))
      (subst (DrawsStrips same_id clicks v none (only (border_puts r)) (pos y)) (border-strips w h s c y n m fits) (draws_plain same_id clicks v none (only (border_puts r)) (pos y) _ refl (border_paints v v r wide high)))
      (rw here titled)
      (λ i j p q. absurd p) (λ i p. p) (λ i p. p))
      lined
      (λ i j p q. absurd p) (λ i p. p) (λ i p. p))
    where
      v : Rect
      v = screen w h s

      r : Rect
      r = at c y n m

      none : K → Type 0
      none i = ⊥

      ts : List (List ℕ)
      ts = take (m - 2) body

      first : List Put
      first = text_puts (title_room r) (pos (c + 1)) (pos y) title

      lines : List Put
      lines = lines_puts (body_room r) (pos (c + 1)) (pos (y + 1)) ts

      all : Picture K
      all = only ((border_puts r ++ first) ++ lines)

      here : y + 0 ≡ y
      here = omega arith

      title_strip : Strip K
      title_strip = put_strip (c + 1) title (c + 1) (c + n - 1)

      line_strip : List ℕ → Strip K
      line_strip t = put_strip (c + 1) t (c + 1) (c + n - 1)

      puts : (frame_picture {K = K} (sight w h s) r title body).puts ≡ (border_puts r ++ first) ++ lines
      puts =
          frame-puts K (sight w h s) r title body (is_empty-in r (omega arith) (omega arith)) (inside-reach w h s r (inside-screen w h s c y n m fits above below))
          (inside-reach w h s (title_room r) (record { left = omega (arith, ints); right = omega (arith, ints); top = omega (arith, ints); bottom = omega (arith, ints) }))
          (inside-reach w h s (body_room r) (record { left = omega (arith, ints); right = omega (arith, ints); top = omega (arith, ints); bottom = omega (arith, ints) }))
          ∙ sym (append_assoc (border_puts r) first lines)

      titled : DrawsStrips same_id clicks v none (only first) (pos y) (title_strip ∷ [])
      titled =
          subst (DrawsStrips same_id clicks v none (only first) (pos y))
          (ap (λ f. plain f ∷ []) (within-text w h s (title_room r) (c + 1) (c + n - 1) title refl (omega (arith, ints)) (omega arith) (omega arith)))
          (draws_plain same_id clicks v none (only first) (pos y) _ refl (text_paints v v (title_room r) (pos y) title (omega (arith, ints)) (omega (arith, ints))))

      lined : DrawsStrips same_id clicks v none (only lines) (pos y +ℤ pos 1) (map line_strip ts)
      lined =
          subst (DrawsStrips same_id clicks v none (only lines) (pos y +ℤ pos 1))
          (map-each (put_over v (body_room r)) plain line_strip ts (λ t. ap plain (within-text w h s (body_room r) (c + 1) (c + n - 1) t refl (omega (arith, ints)) (omega arith) (omega arith))))
          (draws_plain same_id clicks v none (only lines) (pos y +ℤ pos 1) _ refl (lines_paint v v (body_room r) (pos (y + 1)) ts (omega (arith, ints)) (omega (arith, ints, length-take (m - 2) body))))

-- ---- buttons

module _ {K : Type 0} (same_id : K → K → Bool) (clicks : K → Bool) where
  buttons_draw : (w h s : ℕ) (end y : ℤ) (bs : List (Button K)) → AreButtons same_id clicks bs
      → DrawsStrips same_id clicks (screen w h s) (IsOneOf same_id clicks bs) (placed_picture (sight w h s) (placed_from_right end y bs)) y (buttons_strip w end bs ∷ [])
  unfolding placed_picture placed_from_right buttons_strip
  buttons_draw w h s end y [] good = draws_clear same_id clicks (screen w h s) (λ i. ⊥) y
  buttons_draw w h s end y (b ∷ bs) good =
      let x : ℤ = end -ℤ pos (button_width b) in
      draws_both same_id clicks (screen w h s) (IsId b.id) (IsOneOf same_id clicks bs) (IsOneOf same_id clicks (b ∷ bs)) _ _ y y _ _ _
      (draws_button same_id clicks w h s b x y good.1)
      (buttons_draw w h s (x -ℤ pos 1) y bs good.3)
      (λ i j p q. rw p (good.2 j q)) (λ i p. inl p) (λ i p. inr p)
      (λ z. line-beside (buttons_strip w (x -ℤ pos 1) bs) (button_strip w x b) [] y z)

-- ---- the box of a dialog

-- a rectangle that is not empty, on `m` rows from row `y` on, in columns `l..e`
pub record Reaches (r : Rect) (y : ℤ) (m : ℕ) (l e : ℤ) : Type 0 where
  pub some : is_empty r ≡ false
  pub top : r.y ≡ y
  pub rows : r.height ≡ m
  pub left : r.x ≡ l
  pub end : end_x_of r ≡ e

join-button : (r : Rect) (y z l e x : ℤ) (m n : ℕ) → Reaches r y m l e → 0 < n → y ≤ℤ z → z <ℤ (y +ℤ pos m) → (x +ℤ pos n) ≤ℤ e → Reaches (join r (row_rect x z n)) y m (int_min l x) e
join-button r y z l e x m n h some above below before =
    let b : is_empty (row_rect x z n) ≡ false = is_empty-in (row_rect x z n) some (omega arith) in
    let ex = join-x r (row_rect x z n) h.some b in
    let ey = join-y r (row_rect x z n) h.some b in
    let fx = join-end_x r (row_rect x z n) h.some b in
    let fy = join-end_y r (row_rect x z n) h.some b in
    let sz = sizes r h.some in
    record {
      some = is_empty-in (join r (row_rect x z n)) (omega (arith, ints, clamps, ex, fx, h.left, h.end, before, some, sz.0)) (omega (arith, ints, clamps, ey, fy, h.top, h.rows, above, below, sz.1));
      top = omega (arith, ints, clamps, ey, h.top, above);
      rows = omega (arith, ints, clamps, ey, fy, h.top, h.rows, above, below);
      left = rw (ex, h.left) refl;
      end = omega (arith, ints, clamps, fx, h.end, before);
    }

pub join-none : (r : Rect) → join r no_rect ≡ r
join-none r = join-empty r no_rect refl

pub box-none : (K : Type 0) → box_rect (nothing {K = K}) ≡ no_rect
unfolding box_rect nothing around
box-none K = refl

module _ {K : Type 0} (same_id : K → K → Bool) (clicks : K → Bool) where
  join-buttons : (s : Sight) (r : Rect) (y z l e end : ℤ) (m : ℕ) (bs : List (Button K)) → AreButtons same_id clicks bs → Reaches r y m l e → y ≤ℤ z → z <ℤ (y +ℤ pos m) → end ≤ℤ e
      → Reaches (join r (box_rect (placed_picture s (placed_from_right end z bs)))) y m (leftmost l end bs) e
  unfolding placed_picture placed_from_right leftmost
  join-buttons s r y z l e end m [] good h above below before = rw (box-none K, join-none r) h
  join-buttons s r y z l e end m (b ∷ bs) good h above below before =
      let x : ℤ = end -ℤ pos (button_width b) in
      rw (box-followed (button_part b s x z) (placed_picture s (placed_from_right (x -ℤ pos 1) z bs)), box-plain_button b s x z, not-empty x z (button_width b) good.0, sym (join-assoc r (row_rect x z (button_width b)) (box_rect (placed_picture s (placed_from_right (x -ℤ pos 1) z bs)))))
      (join-buttons s (join r (row_rect x z (button_width b))) y z (int_min l x) e (x -ℤ pos 1) m bs good.3
      (join-button r y z l e x m (button_width b) h good.0 above below (omega (arith, ints, before)))
      above below (omega (arith, ints, before)))

box-frame : (K : Type 0) (s : Sight) (r : Rect) (title : List ℕ) (body : List (List ℕ)) → box_rect (frame_picture {K = K} s r title body) ≡ join no_rect r
unfolding box_rect frame_picture
box-frame K s r title body = around-one no_rect r

-- ---- a dialog as a part of the screen

-- the picture of a dialog in a place
abbrev picture_at : {K : Type 0} → ShownDialog K → Sight → Rect → Picture K
picture_at d s r = followed_by (frame_picture s r d.title d.body) (placed_picture s (dialog_buttons d r))

module _ {K : Type 0} where
  length-frame : (w c n m : ℕ) (d : ShownDialog K) → 2 ≤ m → length (frame_strips w d c n m) ≡ m
  length-frame w c n m d high =
      let title : Strip K = put_strip (c + 1) d.title (c + 1) (c + n - 1) in
      let line_strip : List ℕ → Strip K = λ t. put_strip (c + 1) t (c + 1) (c + n - 1) in
      let framed = laid_over 1 (map line_strip (take (m - 2) d.body)) (laid_over 0 (title ∷ []) (border_strips c n m)) in
      length-laid_over (m - 1) (buttons_strip w (pos (c + n) -ℤ pos 1) d.buttons ∷ []) framed
      ∙ length-laid_over 1 (map line_strip (take (m - 2) d.body)) (laid_over 0 (title ∷ []) (border_strips c n m))
      ∙ length-laid_over 0 (title ∷ []) (border_strips c n m) ∙ length-border K c n m high

  pub length-dialog : (w c n m : ℕ) (d : ShownDialog K) → 2 ≤ m → length (dialog_strips w d c n m) ≡ m
  length-dialog w c n m d high = length-map (frame_strips w d c n m) (owned d.id (is_dialog_column d c n)) ∙ length-frame w c n m d high

  pub rect-is : (w h s : ℕ) (d : ShownDialog K)
      → dialog_rect d (screen w h s) ≡ at (centred_gap w (widest_line d.body + 2) 60) (s + centred_gap h (length d.body + 2) 20) (centred_size w (widest_line d.body + 2) 60) (centred_size h (length d.body + 2) 20)
  unfolding centred_rect
  rect-is w h s d =
      let e : 0 + centred_gap w (widest_line d.body + 2) 60 ≡ centred_gap w (widest_line d.body + 2) 60 = omega arith in
      λ i. record { x = pos (e i); y = pos (s + centred_gap h (length d.body + 2) 20); width = centred_size w (widest_line d.body + 2) 60; height = centred_size h (length d.body + 2) 20 }

  pub dialog-is : (w h s : ℕ) (d : ShownDialog K)
      → dialog_picture d (sight w h s) ≡ picture_at d (sight w h s) (at (centred_gap w (widest_line d.body + 2) 60) (s + centred_gap h (length d.body + 2) 20) (centred_size w (widest_line d.body + 2) 60) (centred_size h (length d.body + 2) 20))
  unfolding dialog_picture
  dialog-is w h s d = ap (picture_at d (sight w h s)) (rect-is w h s d)

module _ {K : Type 0} (same_id : K → K → Bool) (law : IsLawful same_id) (clicks : K → Bool) where
  pub box-placed : (w h s c y n m : ℕ) (P : K → Type 0) (d : ShownDialog K) → IsDialog same_id clicks P d → 2 ≤ n → 2 ≤ m
      → Reaches (box_rect (picture_at d (sight w h s) (at c y n m))) (pos y) m (leftmost (pos c) (pos (c + n) -ℤ pos 1) d.buttons) (pos (c + n))
  box-placed w h s c y n m P d good wide high =
      let r = at c y n m in
      let full : join no_rect r ≡ r = join-from_empty no_rect r refl (is_empty-in r (omega arith) (omega arith)) in
      rw (box-followed (frame_picture (sight w h s) r d.title d.body) (placed_picture (sight w h s) (dialog_buttons d r)), box-frame K (sight w h s) r d.title d.body, full)
      (join-buttons same_id clicks (sight w h s) r (pos y) ((pos y +ℤ pos m) -ℤ pos 1) (pos c) (pos (c + n)) (pos (c + n) -ℤ pos 1) m d.buttons good.buttons
      (record { some = is_empty-in r (omega arith) (omega arith); top = refl; rows = refl; left = refl; end = refl })
      (omega (arith, ints)) (omega (arith, ints)) (omega (arith, ints)))

  rows_draw : (w h s c y n m : ℕ) (P : K → Type 0) (d : ShownDialog K) → IsDialog same_id clicks P d → c + n ≤ w → s ≤ y → y + m ≤ s + h → 2 ≤ n → 2 ≤ m
      → DrawsStrips same_id clicks (screen w h s) (IsOneOf same_id clicks d.buttons) (picture_at d (sight w h s) (at c y n m)) (pos y) (frame_strips w d c n m)
  rows_draw w h s c y n m P d good fits above below wide high =
      let last : (pos y +ℤ pos m) -ℤ pos 1 ≡ pos y +ℤ pos (m - 1) = omega (arith, ints) in
      let title : Strip K = put_strip (c + 1) d.title (c + 1) (c + n - 1) in
      let line_strip : List ℕ → Strip K = λ t. put_strip (c + 1) t (c + 1) (c + n - 1) in
      draws_over same_id clicks (screen w h s) (λ i. ⊥) (IsOneOf same_id clicks d.buttons) (IsOneOf same_id clicks d.buttons) _ _ (pos y) (m - 1) _ (buttons_strip w (pos (c + n) -ℤ pos 1) d.buttons ∷ [])
      (omega (arith, length-laid_over 1 (map line_strip (take (m - 2) d.body)) (laid_over 0 (title ∷ []) (border_strips c n m)), length-laid_over 0 (title ∷ []) (border_strips c n m), length-border K c n m high))
      (frame_draws same_id clicks w h s c y n m d.title d.body fits above below wide high)
      (rw last (buttons_draw same_id clicks w h s (pos (c + n) -ℤ pos 1) (pos y +ℤ pos (m - 1)) d.buttons good.buttons))
      (λ i j p q. absurd p) (λ i p. absurd p) (λ i p. p)

  placed_draws : (w h s c y n m : ℕ) (P : K → Type 0) (d : ShownDialog K) → IsDialog same_id clicks P d → c + n ≤ w → s ≤ y → y + m ≤ s + h → 2 ≤ n → 2 ≤ m
      → DrawsStrips same_id clicks (screen w h s) P (part d.id (picture_at d (sight w h s) (at c y n m))) (pos y) (dialog_strips w d c n m)
  placed_draws w h s c y n m P d good fits above below wide high =
      let r = box_rect (picture_at d (sight w h s) (at c y n m)) in
      let box = box-placed w h s c y n m P d good wide high in
      draws_part same_id clicks (screen w h s) (IsOneOf same_id clicks d.buttons) P d.id (picture_at d (sight w h s) (at c y n m)) (pos y) (frame_strips w d c n m) (is_dialog_column d c n)
      (rows_draw w h s c y n m P d good fits above below wide high)
      (record { top = box.top; rows = box.rows ∙ sym (length-frame w c n m d high); columns = λ x p. rw (box.end, box.left) refl })
      good.click good.own good.part good.parts

  pub dialog_draws : (w h s : ℕ) (P : K → Type 0) (d : ShownDialog K) → IsDialog same_id clicks P d → 2 ≤ w → 2 ≤ h
      → DrawsStrips same_id clicks (screen w h s) P (part d.id (part d.id (dialog_picture d (sight w h s)))) (pos (dialog_layer w h s d).first) (dialog_layer w h s d).strips
  dialog_draws w h s P d good a b =
      let x = centred_60 w (widest_line d.body + 2) a (omega arith) in
      let y = centred_20 h (length d.body + 2) b (omega arith) in
      draws_again same_id clicks (screen w h s) P d.id (dialog_picture d (sight w h s)) _ _ (law.self d.id) good.part
      (rw (dialog-is w h s d)
      (placed_draws w h s (centred_gap w (widest_line d.body + 2) 60) (s + centred_gap h (length d.body + 2) 20) (centred_size w (widest_line d.body + 2) 60) (centred_size h (length d.body + 2) 20) P d good
      x.fits (omega arith) (omega (arith, y.fits)) x.some y.some))
