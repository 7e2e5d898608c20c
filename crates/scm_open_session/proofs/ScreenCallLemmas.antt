-- The screen of a session with a layer, by the names of a caller.
use Rattle.std.proofs.Common.{◌≡◌, ℕ, List, sym, ap, ◌∙◌, subst}
use Rattle.std.specs.Prelude.{◌==◌}
use Rattle.scm_front_paint.specs.Below.{rows_shown}
use Rattle.scm_front_paint.specs.Seen.{Seen}
use Rattle.scm_front_paint.specs.StatusRow.{symbol_of_view, text_of_view}
use Rattle.scm_open_session.specs.declared.painters.Painters.{Painters}
use Rattle.scm_open_session.specs.declared.running.Running.{Running}
use Rattle.scm_open_session.specs.declared.running.Running.TheVariants as running
use Rattle.scm_open_session.specs.Results.{WritesOrFails, is_status_row_of, symbol_of_running, text_of_running}

module _ (session : Running) (painters : Painters) (v : Seen) (accept : List ℕ) (is : session ≡ running.Layered v) (said : accept ≡ painters.accept) where
  pub text-of-layer : text_of_view v accept ≡ text_of_running session painters
  text-of-layer = ap (λ (bytes : List ℕ). text_of_view v bytes) said ∙ sym (ap (λ (s : Running). text_of_running s painters) is)

  pub symbol-of-layer : (row column : ℕ) (old new : List ℕ) (told : ℕ)
      → WritesOrFails (row == rows_shown v.front.beneath) (symbol_of_view v accept row column) old new told
      → WritesOrFails (is_status_row_of session row) (symbol_of_running session painters row column) old new told
  symbol-of-layer row column old new told w =
      subst (λ (s : Running). WritesOrFails (is_status_row_of s row) (symbol_of_running s painters row column) old new told) (sym is)
      (subst (λ (bytes : List ℕ). WritesOrFails (row == rows_shown v.front.beneath) (symbol_of_view v bytes row column) old new told) said w)
