-- Events after events.
use Rattle.std.proofs.Common.{◌≡◌, ℕ, List, [], ◌∷◌, ◌++◌, refl, ap, sym, ◌∙◌, append-nil}
use Rattle.scm_input.specs.declared.terminal.TerminalEvent.{TerminalEvent}
use Rattle.scm_pager.specs.declared.pager.Pager.{Pager}
use Rattle.scm_pager.specs.declared.typed.SideCounts.{SideCounts}
use Rattle.scm_pager.specs.Heard.{heard, heard_all}

heard-append : (counts : SideCounts) (width height : ℕ) (p : Pager) (xs ys : List TerminalEvent)
    → heard_all counts width height (heard_all counts width height p xs) ys ≡ heard_all counts width height p (xs ++ ys)
heard-append counts width height p [] ys = refl
heard-append counts width height p (x ∷ xs) ys = heard-append counts width height (heard counts width height p x) xs ys

module _ (counts real : SideCounts) (width height : ℕ) (p : Pager) (shown found : List TerminalEvent) (are : counts ≡ real) (is : shown ≡ found) where
  -- the events that bytes complete
  pub found-heard : (next : Pager) → next ≡ heard_all counts width height p shown → next ≡ heard_all real width height p (found ++ [])
  found-heard next e =
      e ∙ ap (λ (c : SideCounts). heard_all c width height p shown) are ∙ ap (heard_all real width height p) (is ∙ sym (append-nil found))

  -- and then one more, that the silence means
  pub silence-heard : (event : TerminalEvent) (middle next : Pager) → middle ≡ heard_all counts width height p shown
      → next ≡ heard_all counts width height middle (event ∷ []) → next ≡ heard_all real width height p (found ++ (event ∷ []))
  silence-heard event middle next m e =
      e ∙ ap (λ (q : Pager). heard_all counts width height q (event ∷ [])) m ∙ heard-append counts width height p shown (event ∷ [])
      ∙ ap (λ (c : SideCounts). heard_all c width height p (shown ++ (event ∷ []))) are
      ∙ ap (λ (l : List TerminalEvent). heard_all real width height p (l ++ (event ∷ []))) is
