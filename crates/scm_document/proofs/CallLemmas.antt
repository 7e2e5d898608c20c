-- Draw calls in turn: what they have drawn together.
use Rattle.std.proofs.Common.{◌≡◌, ◌∙◌, sym, ap, ap₂}
use Rattle.std.specs.Prelude.{ℤ, Result, Ok}
use Rattle.scm_errors.specs.declared.error.RecordError.{RecordError}
use Rattle.scm_cells.specs.Counts.{Counts, plus, added}
use Rattle.scm_render.specs.Picture.{followed_by}
use Rattle.scm_render.specs.Canvas.{Sight, ViewportState, with_picture}
use Rattle.scm_render.specs.Draws.{Draws}
use Rattle.scm_render.proofs.StepLemmas.{step, sight-after}
use Rattle.scm_render.proofs.CountLemmas.{counts-then}
use Rattle.scm_widgets.specs.declared.ids.ComponentId.{ComponentId}
use Rattle.scm_widgets.specs.Counts.{on_row}
use Rattle.scm_widgets.specs.Pictures.{IdPicture}
use Rattle.scm_document.proofs.CountLemmas.{on_row-plus, on_row-then}
use Rattle.scm_document.proofs.RowsLemmas.{on-ok}

module _ {B : Type 0} {a b c : ViewportState ComponentId} {r : Result B RecordError} where
  -- a call, and then others
  pub after : {A : Type 0} {u : A} (p : IdPicture) (q : Sight → IdPicture) (m : Counts) (n : Sight → Counts) → Draws a b (Ok u) p m → Draws b c r (q b.canvas.sight) (n b.canvas.sight)
      → Draws a c r (followed_by p (q a.canvas.sight)) (plus m (n a.canvas.sight))
  after p q m n d e =
      let same = sight-after a.canvas b.canvas p d.ok in
      record {
        ok = on-ok r (step a.canvas b.canvas c.canvas p q d.ok) e.ok;
        counts = on-ok r (λ h. counts-then a.counts b.counts c.counts m (n a.canvas.sight) d.counts (h ∙ ap (λ s. added b.counts (n s)) same)) e.counts;
        rect = e.rect ∙ d.rect;
        err = e.err;
      }

  -- the same on one row
  pub in-turn : {A : Type 0} {u : A} (p : IdPicture) (q : Sight → IdPicture) (y : ℤ) (m n : Counts) → Draws a b (Ok u) p (on_row a.canvas.sight.rect y m) → Draws b c r (q b.canvas.sight) (on_row b.canvas.sight.rect y n)
      → Draws a c r (followed_by p (q a.canvas.sight)) (on_row a.canvas.sight.rect y (plus m n))
  in-turn p q y m n d e = rw (sym (on_row-plus a.canvas.sight.rect y m n)) (after p q (on_row a.canvas.sight.rect y m) (λ s. on_row s.rect y n) d e)

  -- the row is begun, and then calls
  pub begun : (q : Sight → IdPicture) (y : ℤ) (m n : Counts) → b.canvas ≡ a.canvas → b.counts ≡ added a.counts (on_row a.canvas.sight.rect y m) → Draws b c r (q b.canvas.sight) (on_row b.canvas.sight.rect y n)
      → Draws a c r (q a.canvas.sight) (on_row a.canvas.sight.rect y (plus m n))
  begun q y m n same more e =
      let rect = ap (λ v. v.sight.rect) same in
      record {
        ok = on-ok r (λ h. h ∙ ap (λ v. with_picture v (q v.sight)) same) e.ok;
        counts = on-ok r (on_row-then a.counts b.counts c.counts a.canvas.sight.rect b.canvas.sight.rect y m n rect more) e.counts;
        rect = e.rect ∙ rect;
        err = e.err;
      }

  -- columns are covered, and then calls
  pub covered : (p : IdPicture) (q : Sight → IdPicture) (y : ℤ) (n : Counts) → b.canvas ≡ with_picture a.canvas p → b.counts ≡ a.counts → b.canvas.sight.rect ≡ a.canvas.sight.rect
      → Draws b c r (q b.canvas.sight) (on_row b.canvas.sight.rect y n) → Draws a c r (followed_by p (q a.canvas.sight)) (on_row a.canvas.sight.rect y n)
  covered p q y n cover same rect e = record {
    ok = on-ok r (step a.canvas b.canvas c.canvas p q cover) e.ok;
    counts = on-ok r (λ h. h ∙ ap₂ (λ k v. added k (on_row v y n)) same rect) e.counts;
    rect = e.rect ∙ rect;
    err = e.err;
  }

-- a call, and then columns are covered
pub then-covered : {A : Type 0} {a b c : ViewportState ComponentId} {u : A} (p : IdPicture) (q : Sight → IdPicture) (m : Counts) → Draws a b (Ok u) p m → c.canvas ≡ with_picture b.canvas (q b.canvas.sight)
    → c.counts ≡ b.counts → c.canvas.sight.rect ≡ b.canvas.sight.rect → Draws a c (Ok u) (followed_by p (q a.canvas.sight)) m
then-covered {a = a} {b} {c} p q m d cover same rect = record { ok = step a.canvas b.canvas c.canvas p q d.ok cover; counts = same ∙ d.counts; rect = rect ∙ d.rect; err = d.err }
