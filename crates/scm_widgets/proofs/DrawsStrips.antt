-- Pictures that draw strips on consecutive rows, and how they are put together.
use Rattle.std.proofs.Common.{◌≡◌, ℕ, zero, suc, ◌+◌, ◌<◌, ◌≤◌, Bool, true, false, cond, List, [], ◌∷◌, ◌++◌, length, map, refl, sym, ap, ap₂, ◌∙◌, arith, ◌⊎◌, inl, inr}
use Rattle.std.specs.Prelude.{ℤ, pos, ◌+ℤ◌, ◌-ℤ◌, ◌≤ℤ◌, ◌<ℤ◌, int_le, int_lt, ◌&&◌, Option, Some, None}
use Rattle.std.specs.Ordering.{int_eq}
use Rattle.std.proofs.lemmas.Int.{ints}
use Rattle.std.proofs.lemmas.Bool.Decides.{Decides-int_eq}
use Rattle.scm_cells.specs.Rect.{end_x_of}
use Rattle.scm_cells.specs.declared.rect.Rect.{Rect}
use Rattle.scm_render.specs.Picture.{Put, Box, Picture, nothing, followed_by, part, box_rect}
use Rattle.scm_render.specs.Around.{join, around, no_rect}
use Rattle.scm_render.specs.Canvas.{Row, clamp_column, put_at, paint}
use Rattle.scm_render.specs.Drawing.{has_row}
use Rattle.scm_render.specs.Hits.{holds, has_id, first_of_two, hit}
use Rattle.scm_render.specs.Lines.{line}
use Rattle.scm_render.proofs.AroundLemmas.{around-append, around-join}
use Rattle.scm_render.proofs.PaintLemmas.{paint-none, paint-append}
use Rattle.scm_render.proofs.LineLemmas.{line-append, line-below, line-map, z_cases}
use Rattle.scm_render.proofs.HitLemmas.{Each, each-append, each_more, hit_apart, hit_box, hit_still, two_none}
use Rattle.scm_widgets.specs.Layers.{Strip, clear, over, laid_over, owned}
use Rattle.scm_cells.proofs.PutLemmas.{length-put}

-- ---- rows keep their length

length-put_at : (v : Rect) (p : Put) (row : Row) → length row ≡ v.width → length (put_at v p row) ≡ v.width
length-put_at v p row h = length-put row (p.column -ℤ v.x) p.text (clamp_column v.width (p.low -ℤ v.x)) (clamp_column v.width (p.high -ℤ v.x)) (omega (arith, h)) ∙ h

either : (b : Bool) (x y : Row) (n : ℕ) → length x ≡ n → length y ≡ n → length (cond b x y) ≡ n
either true x y n p q = p
either false x y n p q = q

pub length-paint : (v : Rect) (ps : List Put) (z : ℤ) (row : Row) → length row ≡ v.width → length (paint v ps z row) ≡ v.width
unfolding paint
length-paint v [] z row h = h
length-paint v (p ∷ ps) z row h = length-paint v ps z (cond (int_eq z p.row) (put_at v p row) row) (either (int_eq z p.row) (put_at v p row) row v.width (length-put_at v p row h) h)

-- ---- strips on rows

pub at_row : (y z : ℤ) (n : ℕ) → int_eq z y ≡ true → (int_le y z && int_lt z (y +ℤ pos (suc n))) ≡ true
at_row y z n e =
    let same : z ≡ y = (Decides-int_eq z y).0 e in
    let a : int_le y z ≡ true = grind (arith, ints) in
    let b : int_lt z (y +ℤ pos (suc n)) ≡ true = grind (arith, ints) in
    rw (a, b) refl

pub past_row : (y z : ℤ) (n : ℕ) → int_eq z y ≡ false → (int_le (y +ℤ pos 1) z && int_lt z ((y +ℤ pos 1) +ℤ pos n)) ≡ (int_le y z && int_lt z (y +ℤ pos (suc n)))
past_row y z n e = go (z_cases z y)
  where
    shift : (y +ℤ pos 1) +ℤ pos n ≡ y +ℤ pos (suc n)
    shift = omega (arith, ints)

    go : (z <ℤ y) ⊎ (y ≤ℤ z) → (int_le (y +ℤ pos 1) z && int_lt z ((y +ℤ pos 1) +ℤ pos n)) ≡ (int_le y z && int_lt z (y +ℤ pos (suc n)))
    go (inl h) =
        let a : int_le (y +ℤ pos 1) z ≡ false = grind (arith, ints) in
        let b : int_le y z ≡ false = grind (arith, ints) in
        rw (a, b) refl
    go (inr h) =
        let differ : z ≡ y → ⊥ = λ q. absurd (cc ((Decides-int_eq z y).1 q, e)) in
        let above : (y +ℤ pos 1) ≤ℤ z = beyond (z_cases z (y +ℤ pos 1)) h differ in
        let a : int_le (y +ℤ pos 1) z ≡ true = grind (arith, ints) in
        let b : int_le y z ≡ true = grind (arith, ints) in
        rw (a, b, shift) refl
      where
        beyond : (z <ℤ (y +ℤ pos 1)) ⊎ ((y +ℤ pos 1) ≤ℤ z) → y ≤ℤ z → (z ≡ y → ⊥) → (y +ℤ pos 1) ≤ℤ z
        beyond (inl p) h d = absurd (d (omega (arith, ints)))
        beyond (inr p) h d = p

pub no_row : (y z : ℤ) → (int_le y z && int_lt z (y +ℤ pos 0)) ≡ false
no_row y z = go (z_cases z y)
  where
    go : (z <ℤ y) ⊎ (y ≤ℤ z) → (int_le y z && int_lt z (y +ℤ pos 0)) ≡ false
    go (inl h) = let a : int_le y z ≡ false = grind (arith, ints) in rw a refl
    go (inr h) =
        let a : int_le y z ≡ true = grind (arith, ints) in
        let b : int_lt z (y +ℤ pos 0) ≡ false = grind (arith, ints) in
        rw (a, b) refl

module _ {K : Type 0} where
  pub over-clear : (a : Strip K) → over a clear ≡ a
  over-clear a = λ i. record { shows = a.shows; owner = λ x. two_none (a.owner x) i }

  pub clear-over : (a : Strip K) → over clear a ≡ a
  clear-over a = refl

  -- strips one below the other
  pub line-more : (ks bs : List (Strip K)) (y z : ℤ) → over (line clear bs (y +ℤ pos (length ks)) z) (line clear ks y z) ≡ line clear (ks ++ bs) y z
  line-more ks bs y z = line-append clear (λ a b. over b a) over-clear clear-over ks bs y z

  -- strips over others
  pub line-over : (k : ℕ) (ks bs : List (Strip K)) (y z : ℤ) → k + length ks ≤ length bs → over (line clear ks (y +ℤ pos k) z) (line clear bs y z) ≡ line clear (laid_over k ks bs) y z
  unfolding line laid_over
  line-over k [] bs y z h = refl
  line-over zero (a ∷ ks) [] y z h = absurd (omega (arith, h))
  line-over (suc k) (a ∷ ks) [] y z h = absurd (omega (arith, h))
  line-over zero (a ∷ ks) (b ∷ bs) y z h =
      let here : y +ℤ pos 0 ≡ y = omega (arith, ints) in
      let below : (y +ℤ pos 1) +ℤ pos 0 ≡ y +ℤ pos 1 = omega (arith, ints) in
      rw here (same_row (int_eq z y) a b _ _ _ (ap (λ w. over (line clear ks w z) (line clear bs (y +ℤ pos 1) z)) (sym below) ∙ line-over zero ks bs (y +ℤ pos 1) z (omega (arith, h))))
    where
      same_row : (t : Bool) (a b c d e : Strip K) → over c d ≡ e → over (cond t a c) (cond t b d) ≡ cond t (over a b) e
      same_row true a b c d e h = refl
      same_row false a b c d e h = h
  line-over (suc k) (a ∷ ks) (b ∷ bs) y z h =
      let shift : y +ℤ pos (suc k) ≡ (y +ℤ pos 1) +ℤ pos k = omega (arith, ints) in
      rw shift (later (int_eq z y) refl (line-over k (a ∷ ks) bs (y +ℤ pos 1) z (omega (arith, h))))
    where
      later : (t : Bool) → int_eq z y ≡ t → over (line clear (a ∷ ks) ((y +ℤ pos 1) +ℤ pos k) z) (line clear bs (y +ℤ pos 1) z) ≡ line clear (laid_over k (a ∷ ks) bs) (y +ℤ pos 1) z
          → over (line clear (a ∷ ks) ((y +ℤ pos 1) +ℤ pos k) z) (cond t b (line clear bs (y +ℤ pos 1) z)) ≡ cond t b (line clear (laid_over k (a ∷ ks) bs) (y +ℤ pos 1) z)
      later true e ih =
          let same : z ≡ y = (Decides-int_eq z y).0 e in
          rw (line-below clear (a ∷ ks) ((y +ℤ pos 1) +ℤ pos k) z (omega (arith, ints, same))) refl
      later false e ih = ih

  pub length-laid_over : (k : ℕ) (ks bs : List (Strip K)) → length (laid_over k ks bs) ≡ length bs
  unfolding laid_over
  length-laid_over k [] bs = refl
  length-laid_over zero (a ∷ ks) [] = refl
  length-laid_over (suc k) (a ∷ ks) [] = refl
  length-laid_over zero (a ∷ ks) (b ∷ bs) = ap suc (length-laid_over zero ks bs)
  length-laid_over (suc k) (a ∷ ks) (b ∷ bs) = ap suc (length-laid_over k (a ∷ ks) bs)

  -- a strip on each of a list's rows, under what stands there
  pub line-owned : (i : K) (test : ℕ → Bool) (ss : List (Strip K)) (y z : ℤ) (x : ℕ)
      → first_of_two ((line clear ss y z).owner x) (cond ((int_le y z && int_lt z (y +ℤ pos (length ss))) && test x) (Some i) None) ≡ (line clear (map (owned i test) ss) y z).owner x
  unfolding line
  line-owned i test [] y z x = rw (no_row y z) refl
  line-owned i test (s ∷ ss) y z x = go (int_eq z y) refl (line-owned i test ss (y +ℤ pos 1) z x)
    where
      go : (t : Bool) → int_eq z y ≡ t
          → first_of_two ((line clear ss (y +ℤ pos 1) z).owner x) (cond ((int_le (y +ℤ pos 1) z && int_lt z ((y +ℤ pos 1) +ℤ pos (length ss))) && test x) (Some i) None) ≡ (line clear (map (owned i test) ss) (y +ℤ pos 1) z).owner x
          → first_of_two ((cond t s (line clear ss (y +ℤ pos 1) z)).owner x) (cond ((int_le y z && int_lt z (y +ℤ pos (suc (length ss)))) && test x) (Some i) None) ≡ (cond t (owned i test s) (line clear (map (owned i test) ss) (y +ℤ pos 1) z)).owner x
      go true e ih = rw (at_row y z (length ss) e) refl
      go false e ih = rw (sym (past_row y z (length ss) e)) ih

-- ---- boxes

pub box-followed : {K : Type 0} (a b : Picture K) → box_rect (followed_by a b) ≡ join (box_rect a) (box_rect b)
unfolding box_rect followed_by
box-followed a b = around-append no_rect a.areas b.areas ∙ around-join (around no_rect a.areas) b.areas

pub box-part : {K : Type 0} (i : K) (m : Picture K) → box_rect (part i m) ≡ box_rect m
unfolding box_rect part
box-part i m = refl

-- ---- pictures that draw strips

-- a rectangle on the rows from y on, n of them, whose columns on a screen of w are those that pass the test
pub record HasBox (r : Rect) (y : ℤ) (n w : ℕ) (test : ℕ → Bool) : Type 0 where
  pub top : r.y ≡ y
  pub rows : r.height ≡ n
  pub columns : (x : ℕ) → x < w → (int_le r.x (pos x) && int_lt (pos x) (end_x_of r)) ≡ test x

module _ {K : Type 0} where
  line-shows : (i : K) (test : ℕ → Bool) (ss : List (Strip K)) (y z : ℤ) (row : Row) → (line clear (map (owned i test) ss) y z).shows row ≡ (line clear ss y z).shows row
  unfolding line
  line-shows i test [] y z row = refl
  line-shows i test (s ∷ ss) y z row = go (int_eq z y) (line-shows i test ss (y +ℤ pos 1) z row)
    where
      go : (t : Bool) → (line clear (map (owned i test) ss) (y +ℤ pos 1) z).shows row ≡ (line clear ss (y +ℤ pos 1) z).shows row
          → (cond t (owned i test s) (line clear (map (owned i test) ss) (y +ℤ pos 1) z)).shows row ≡ (cond t s (line clear ss (y +ℤ pos 1) z)).shows row
      go true h = refl
      go false h = h

  one-owner : (s : Strip K) (t : Bool) (x : ℕ) → cond t (s.owner x) None ≡ (cond t s clear).owner x
  one-owner s true x = refl
  one-owner s false x = refl

module _ {K : Type 0} (same_id : K → K → Bool) (is_clickable : K → Bool) where
  -- pictures whose ids are all of a kind draw strips on the rows from y on, and nothing else
  pub record DrawsStrips (v : Rect) (P : K → Type 0) (m : Picture K) (y : ℤ) (ss : List (Strip K)) : Type 0 where
    pub paints : (z : ℤ) (row : Row) → has_row v z ≡ true → length row ≡ v.width → paint v m.puts z row ≡ (line clear ss y z).shows row
    pub owns : (rep : K → Bool) → ((i : K) → P i → rep i ≡ false) → (z : ℤ) (x : ℕ) → x < v.width → hit same_id is_clickable rep m.boxes z (pos x) ≡ (line clear ss y z).owner x
    pub ids : Each P m.boxes

  -- no id of one kind is one of another
  abbrev pub Apart : (K → Type 0) → (K → Type 0) → Type 0
  Apart P Q = (i j : K) → P i → Q j → same_id i j ≡ false

  pub none_of : (Q : K → Type 0) (i : K) (bs : List (Box K)) → ((j : K) → Q j → same_id i j ≡ false) → Each Q bs → has_id same_id i bs ≡ false
  unfolding has_id
  none_of Q i [] differ h = refl
  none_of Q i (b ∷ bs) differ h = rw (differ b.0 h.0) (none_of Q i bs differ h.1)

  pub apart : (P Q : K → Type 0) (cs bs : List (Box K)) → Apart P Q → Each P cs → Each Q bs → Each (λ i. has_id same_id i bs ≡ false) cs
  apart P Q [] bs differ h k = tt
  apart P Q (a ∷ cs) bs differ h k = (none_of Q a.0 bs (λ j q. differ a.0 j h.0 q) k, apart P Q cs bs differ h.1 k)

  pub draws_nothing : (v : Rect) (P : K → Type 0) (y : ℤ) → DrawsStrips v P nothing y []
  unfolding nothing line hit
  draws_nothing v P y = record { paints = λ z row h k. paint-none v z row; owns = λ rep live z x h. refl; ids = tt }

  -- one after another, the second over the first
  pub draws_both : (v : Rect) (P Q R : K → Type 0) (a b : Picture K) (y y' : ℤ) (ss ts us : List (Strip K)) → DrawsStrips v P a y ss → DrawsStrips v Q b y' ts
      → Apart P Q → ((i : K) → P i → R i) → ((i : K) → Q i → R i) → ((z : ℤ) → over (line clear ts y' z) (line clear ss y z) ≡ line clear us y z) → DrawsStrips v R (followed_by a b) y us
  unfolding followed_by
  draws_both v P Q R a b y y' ss ts us ha hb differ p q e = record {
    paints = λ z row h k.
        paint-append v a.puts b.puts z row ∙ hb.paints z (paint v a.puts z row) h (length-paint v a.puts z row k)
        ∙ ap (line clear ts y' z).shows (ha.paints z row h k) ∙ ap (λ (s : Strip K). s.shows row) (e z);
    owns = λ rep live z x h.
        hit_apart same_id is_clickable rep a.boxes b.boxes z (pos x) (apart P Q a.boxes b.boxes differ ha.ids hb.ids)
        ∙ ap₂ first_of_two (hb.owns rep (λ i k. live i (q i k)) z x h) (ha.owns rep (λ i k. live i (p i k)) z x h)
        ∙ ap (λ (s : Strip K). s.owner x) (e z);
    ids = each-append R a.boxes b.boxes (each_more P R a.boxes p ha.ids) (each_more Q R b.boxes q hb.ids);
  }

  -- the second below the first
  pub draws_below : (v : Rect) (P Q R : K → Type 0) (a b : Picture K) (y : ℤ) (ss ts : List (Strip K)) → DrawsStrips v P a y ss → DrawsStrips v Q b (y +ℤ pos (length ss)) ts
      → Apart P Q → ((i : K) → P i → R i) → ((i : K) → Q i → R i) → DrawsStrips v R (followed_by a b) y (ss ++ ts)
  draws_below v P Q R a b y ss ts ha hb differ p q = draws_both v P Q R a b y (y +ℤ pos (length ss)) ss ts (ss ++ ts) ha hb differ p q (λ z. line-more ss ts y z)

  -- the second over the rows of the first, from its k-th on
  pub draws_over : (v : Rect) (P Q R : K → Type 0) (a b : Picture K) (y : ℤ) (k : ℕ) (ss ts : List (Strip K)) → k + length ts ≤ length ss → DrawsStrips v P a y ss → DrawsStrips v Q b (y +ℤ pos k) ts
      → Apart P Q → ((i : K) → P i → R i) → ((i : K) → Q i → R i) → DrawsStrips v R (followed_by a b) y (laid_over k ts ss)
  draws_over v P Q R a b y k ss ts fits ha hb differ p q = draws_both v P Q R a b y (y +ℤ pos k) ss ts (laid_over k ts ss) ha hb differ p q (λ z. line-over k ts ss y z fits)

  -- a component around what its parts draw, which owns what they don't
  pub draws_part : (v : Rect) (P R : K → Type 0) (i : K) (m : Picture K) (y : ℤ) (ss : List (Strip K)) (test : ℕ → Bool) → DrawsStrips v P m y ss → HasBox (box_rect m) y (length ss) v.width test
      → is_clickable i ≡ true → ((j : K) → P j → same_id i j ≡ false) → R i → ((j : K) → P j → R j) → DrawsStrips v R (part i m) y (map (owned i test) ss)
  unfolding part holds
  draws_part v P R i m y ss test hm hr click differ r p = record {
    paints = λ z row h k. hm.paints z row h k ∙ sym (line-shows i test ss y z row);
    owns = λ rep live z x h.
        hit_box same_id is_clickable rep (i, box_rect m) m.boxes z (pos x) click (live i r) (none_of P i m.boxes differ hm.ids)
        ∙ rw (hm.owns rep (λ j k. live j (p j k)) z x h, hr.top, hr.rows, hr.columns x h) (line-owned i test ss y z x);
    ids = (r, each_more P R m.boxes p hm.ids);
  }

  -- a component that no click acts on
  pub draws_still : (v : Rect) (P R : K → Type 0) (i : K) (m : Picture K) (y : ℤ) (ss : List (Strip K)) → DrawsStrips v P m y ss
      → is_clickable i ≡ false → R i → ((j : K) → P j → R j) → DrawsStrips v R (part i m) y ss
  unfolding part
  draws_still v P R i m y ss hm still r p = record {
    paints = hm.paints;
    owns = λ rep live z x h. hit_still same_id is_clickable rep (i, box_rect m) m.boxes z (pos x) still ∙ hm.owns rep (λ j k. live j (p j k)) z x h;
    ids = (r, each_more P R m.boxes p hm.ids);
  }

  -- a component that draws one of its own id, whose box takes the place of its own
  pub draws_again : (v : Rect) (P : K → Type 0) (i : K) (m : Picture K) (y : ℤ) (ss : List (Strip K)) → same_id i i ≡ true → P i → DrawsStrips v P (part i m) y ss → DrawsStrips v P (part i (part i m)) y ss
  unfolding part hit has_id
  draws_again v P i m y ss self p h = record {
    paints = h.paints;
    owns = λ rep live z x k. rw (live i p, self) (gone (is_clickable i) _) ∙ h.owns rep live z x k;
    ids = (p, h.ids);
  }
    where
      gone : (c : Bool) (o : Option K) → first_of_two o (cond (c && false) (Some i) None) ≡ o
      gone true o = two_none o
      gone false o = two_none o

  -- the same strips
  pub draws_as : (v : Rect) (P : K → Type 0) (m : Picture K) (y : ℤ) (ss ts : List (Strip K)) → ((z : ℤ) → line clear ss y z ≡ line clear ts y z) → DrawsStrips v P m y ss → DrawsStrips v P m y ts
  draws_as v P m y ss ts e h = record {
    paints = λ z row p q. h.paints z row p q ∙ ap (λ (s : Strip K). s.shows row) (e z);
    owns = λ rep live z x p. h.owns rep live z x p ∙ ap (λ (s : Strip K). s.owner x) (e z);
    ids = h.ids;
  }

  clear-line : (y z : ℤ) → ◌≡◌ {A = Strip K} (line clear [] y z) (line clear (clear ∷ []) y z)
  unfolding line
  clear-line y z = go (int_eq z y)
    where
      go : (t : Bool) → ◌≡◌ {A = Strip K} clear (cond t clear clear)
      go true = refl
      go false = refl

  -- a row on which nothing stands
  pub draws_clear : (v : Rect) (P : K → Type 0) (y : ℤ) → DrawsStrips v P nothing y (clear ∷ [])
  draws_clear v P y = draws_as v P nothing y [] (clear ∷ []) (clear-line y) (draws_nothing v P y)

-- ---- strips as what they show and who owns them

module _ {K : Type 0} where
  pub shows-line : (ss : List (Strip K)) (y z : ℤ) (row : Row) → line (λ (r : Row). r) (map (λ (s : Strip K). s.shows) ss) y z row ≡ (line clear ss y z).shows row
  shows-line ss y z row = ap (λ (f : Row → Row). f row) (line-map (λ (s : Strip K). s.shows) clear ss y z)
