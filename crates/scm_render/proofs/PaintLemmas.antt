-- Puts on rows, one row at a time.
use Rattle.std.proofs.Common.{◌≡◌, ℕ, zero, suc, ◌<◌, List, [], ◌∷◌, ◌++◌, length, get_or, set, refl, sym, ap, arith, cond, true, false, Bool, ◌∙◌}
use Rattle.std.specs.Prelude.{ℤ, pos, ◌+ℤ◌, ◌≤ℤ◌, ◌<ℤ◌}
use Rattle.std.specs.Ordering.{int_eq}
use Rattle.std.proofs.lemmas.Int.{ints}
use Rattle.std.proofs.lemmas.Bool.Decides.{Decides-int_eq}
use Rattle.scm_cells.specs.declared.rect.Rect.{Rect}
use Rattle.scm_render.specs.Picture.{Put}
use Rattle.scm_render.specs.Canvas.{Row, SurfaceState, put_at, paint, paint_rows, with_puts}

pub paint-none : (v : Rect) (z : ℤ) (row : Row) → paint v [] z row ≡ row
unfolding paint
paint-none v z row = refl

pub paint-more : (v : Rect) (p : Put) (ps : List Put) (z : ℤ) (row : Row) → paint v (p ∷ ps) z row ≡ paint v ps z (cond (int_eq z p.row) (put_at v p row) row)
unfolding paint
paint-more v p ps z row = refl

pub paint-append : (v : Rect) (ps qs : List Put) (z : ℤ) (row : Row) → paint v (ps ++ qs) z row ≡ paint v qs z (paint v ps z row)
unfolding paint
paint-append v [] qs z row = refl
paint-append v (p ∷ ps) qs z row = paint-append v ps qs z (cond (int_eq z p.row) (put_at v p row) row)

pub painted-none : (v : Rect) (z : ℤ) (rows : List Row) → paint_rows v [] z rows ≡ rows
unfolding paint_rows paint
painted-none v z [] = refl
painted-none v z (row ∷ rows) = ap (λ w. row ∷ w) (painted-none v (z +ℤ pos 1) rows)

pub painted-append : (v : Rect) (ps qs : List Put) (z : ℤ) (rows : List Row) → paint_rows v (ps ++ qs) z rows ≡ paint_rows v qs z (paint_rows v ps z rows)
unfolding paint_rows
painted-append v ps qs z [] = refl
painted-append v ps qs z (row ∷ rows) =
    ap (λ w. w ∷ paint_rows v (ps ++ qs) (z +ℤ pos 1) rows) (paint-append v ps qs z row)
    ∙ ap (λ w. paint v qs z (paint v ps z row) ∷ w) (painted-append v ps qs (z +ℤ pos 1) rows)

pub length-painted : (v : Rect) (ps : List Put) (z : ℤ) (rows : List Row) → length (paint_rows v ps z rows) ≡ length rows
unfolding paint_rows
length-painted v ps z [] = refl
length-painted v ps z (row ∷ rows) = ap suc (length-painted v ps (z +ℤ pos 1) rows)

apart : (z y : ℤ) → z <ℤ y → int_eq z y ≡ false
apart z y h = grind (arith, ints, Decides-int_eq z y)

past : (z y : ℤ) → y <ℤ z → int_eq z y ≡ false
past z y h = grind (arith, ints, Decides-int_eq z y)

same : (z : ℤ) → int_eq z z ≡ true
same z = (Decides-int_eq z z).1 refl

-- a put on a row above the first one
pub painted-above : (v : Rect) (p : Put) (z : ℤ) (rows : List Row) → p.row <ℤ z → paint_rows v (p ∷ []) z rows ≡ rows
unfolding paint_rows paint
painted-above v p z [] h = refl
painted-above v p z (row ∷ rows) h =
    rw (past z p.row h) (ap (λ w. row ∷ w) (painted-above v p (z +ℤ pos 1) rows (omega (arith, ints))))

-- a put on a row below the last one
pub painted-below : (v : Rect) (p : Put) (z : ℤ) (rows : List Row) → (z +ℤ pos (length rows)) ≤ℤ p.row → paint_rows v (p ∷ []) z rows ≡ rows
unfolding paint_rows paint
painted-below v p z [] h = refl
painted-below v p z (row ∷ rows) h =
    rw (apart z p.row (omega (arith, ints))) (ap (λ w. row ∷ w) (painted-below v p (z +ℤ pos 1) rows (omega (arith, ints))))

-- a put on the k-th row
pub painted-at : (v : Rect) (p : Put) (z : ℤ) (rows : List Row) (k : ℕ) (d : Row) → k < length rows → p.row ≡ z +ℤ pos k
    → paint_rows v (p ∷ []) z rows ≡ set rows k (put_at v p (get_or rows k d))
unfolding paint_rows paint
painted-at v p z [] k d h e = absurd (omega arith)
painted-at v p z (row ∷ rows) zero d h e =
    let here : p.row ≡ z = omega (arith, ints) in
    let test : int_eq z p.row ≡ true = ap (int_eq z) here ∙ same z in
    rw test (ap (λ w. put_at v p row ∷ w) (painted-above v p (z +ℤ pos 1) rows (omega (arith, ints))))
painted-at v p z (row ∷ rows) (suc k) d h e =
    rw (apart z p.row (omega (arith, ints))) (ap (λ w. row ∷ w) (painted-at v p (z +ℤ pos 1) rows k d (omega arith) (omega (arith, ints))))

pub int_eq-false : (a b : ℤ) → (a ≡ b → ⊥) → int_eq a b ≡ false
int_eq-false a b h = go (int_eq a b) refl
  where
    go : (t : Bool) → int_eq a b ≡ t → t ≡ false
    go true e = absurd (h ((Decides-int_eq a b).0 e))
    go false e = refl

-- ---- a surface with puts

-- puts leave what was counted
pub with_puts-counts : (ps : List Put) (a s : SurfaceState) → a ≡ with_puts ps s → a.counts ≡ s.counts
unfolding with_puts
with_puts-counts ps a s e = ap (λ (w : SurfaceState). w.counts) e

-- puts that leave the rows as they are
pub with_puts-same : (ps : List Put) (s : SurfaceState) → paint_rows s.rect ps s.rect.y s.rows ≡ s.rows → with_puts ps s ≡ s
unfolding with_puts
with_puts-same ps s e = ap (λ rows. record { rect = s.rect; rows = rows; counts = s.counts }) e

pub with_puts-none : (s : SurfaceState) → with_puts [] s ≡ s
with_puts-none s = with_puts-same [] s (painted-none s.rect s.rect.y s.rows)

pub with_puts-append : (ps qs : List Put) (s : SurfaceState) → with_puts (ps ++ qs) s ≡ with_puts qs (with_puts ps s)
unfolding with_puts
with_puts-append ps qs s = ap (λ rows. record { rect = s.rect; rows = rows; counts = s.counts }) (painted-append s.rect ps qs s.rect.y s.rows)

-- what is left to put after the first of several
pub with_puts-rest : (a b all : SurfaceState) (ps qs rs : List Put) → rs ≡ ps ++ qs → b ≡ with_puts ps a → with_puts rs a ≡ all → with_puts qs b ≡ all
with_puts-rest a b all ps qs rs e p h = ap (with_puts qs) p ∙ sym (with_puts-append ps qs a) ∙ ap (λ w. with_puts w a) (sym e) ∙ h

pub with_puts-end : (a all : SurfaceState) (rs : List Put) → rs ≡ [] → with_puts rs a ≡ all → a ≡ all
with_puts-end a all rs e h = sym (with_puts-none a) ∙ ap (λ w. with_puts w a) (sym e) ∙ h

pub with_puts-three : (ps qs rs : List Put) (a b c d : SurfaceState) → b ≡ with_puts ps a → c ≡ with_puts qs b → d ≡ with_puts rs c → d ≡ with_puts (ps ++ (qs ++ rs)) a
with_puts-three ps qs rs a b c d p q r =
    r ∙ ap (with_puts rs) (q ∙ ap (with_puts qs) p) ∙ sym (with_puts-append qs rs (with_puts ps a)) ∙ sym (with_puts-append ps (qs ++ rs) a)
