-- Runs of rows: the least run around several, as rectangles and as layers.
use Rattle.std.proofs.Common.{◌≡◌, ℕ, ◌<◌, min, max, false, List, fold, refl, ◌∙◌, arith}
use Rattle.std.specs.Prelude.{ℤ, pos, ◌+ℤ◌, ◌<ℤ◌}
use Rattle.std.specs.Int.{int_min, int_max}
use Rattle.std.proofs.lemmas.Int.{ints, clamps}
use Rattle.scm_cells.specs.Rect.{is_empty, end_y_of}
use Rattle.scm_cells.specs.declared.rect.Rect.{Rect}
use Rattle.scm_render.specs.Around.{join}
use Rattle.scm_render.proofs.AroundLemmas.{is_empty-in}
use Rattle.scm_render.proofs.SpanLemmas.{Spans, spans_not_empty, join-x, join-y, join-end_x, join-end_y}
use Rattle.scm_widgets.specs.declared.ids.ComponentId.{ComponentId}
use Rattle.scm_widgets.specs.Layers.{Layer, end_of}
use Rattle.scm_widgets.proofs.DialogLemmas.{sizes}

-- ---- rectangles

-- a rectangle that is not empty, on exactly the rows from a to before b
pub record Runs (r : Rect) (a b : ℤ) : Type 0 where
  pub some : is_empty r ≡ false
  pub top : r.y ≡ a
  pub end : end_y_of r ≡ b

join-some : (a b : Rect) → is_empty a ≡ false → is_empty b ≡ false → is_empty (join a b) ≡ false
join-some a b p q =
    let sa = sizes a p in
    let sb = sizes b q in
    let ex = join-x a b p q in
    let ey = join-y a b p q in
    let fx = join-end_x a b p q in
    let fy = join-end_y a b p q in
    is_empty-in (join a b) (omega (arith, ints, clamps, ex, fx, sa.0, sb.0)) (omega (arith, ints, clamps, ey, fy, sa.1, sb.1))

-- two runs of rows, as the least run around both
pub runs_more : (a b : Rect) (i j k l : ℤ) → Runs a i j → Runs b k l → Runs (join a b) (int_min i k) (int_max j l)
runs_more a b i j k l p q = record {
  some = join-some a b p.some q.some;
  top = join-y a b p.some q.some ∙ rw (p.top, q.top) refl;
  end = join-end_y a b p.some q.some ∙ rw (p.end, q.end) refl;
}

pub runs_as : (r : Rect) (a b c d : ℤ) → a ≡ c → b ≡ d → Runs r a b → Runs r c d
runs_as r a b c d p q h = rw (p, q) at h

pub runs_of : (r : Rect) (y : ℤ) (n : ℕ) (l : ℤ) (w : ℕ) → 0 < n → l <ℤ pos w → Spans r y n l w → Runs r y (y +ℤ pos n)
runs_of r y n l w some wide h = record { some = spans_not_empty r y n l w some wide h; top = h.top; end = rw (h.top, h.rows) refl }

-- ---- layers

-- the first row of layers, or a row where that is above
abbrev pub lowest : ℕ → List (Layer ComponentId) → ℕ
lowest a ls = fold (λ (f : ℕ) (k : Layer ComponentId). min f k.first) a ls

-- the row below the last of layers, or a row where that is below
abbrev pub highest : ℕ → List (Layer ComponentId) → ℕ
highest b ls = fold (λ (e : ℕ) (k : Layer ComponentId). max e (end_of k)) b ls
