-- A pattern in a text, byte by byte.
use Rattle.std.proofs.Common.{◌≡◌, ℕ, zero, suc, ◌+◌, ◌-◌, ◌<◌, Bool, true, false, ◌&&◌, ◌||◌, List, [], ◌∷◌, drop, take, length, get_or, refl, sym, ap, ◌∙◌, Option, Some, None, arith}
use Rattle.std.specs.Prelude.{slice_get}
use Rattle.std.proofs.lemmas.List.{drop_all, drop_more, take_all, length-drop}
use Rattle.scm_selection.proofs.FindLemmas.{drop-at}
use Rattle.scm_front_items.specs.Occurs.{begins, occurs, is_seen}

past : {X : Type 0} (xs : List X) (i : ℕ) → slice_get xs i ≡ None → drop i xs ≡ []
past [] i e = drop_all i [] (omega arith)
past (x ∷ xs) zero e = absurd (cc e)
past (x ∷ xs) (suc i) e = past xs i e

begins-at : (exact : Bool) (p : ℕ) (ps text : List ℕ) (i : ℕ) (o : Option ℕ) → slice_get text i ≡ o
    → begins exact (p ∷ ps) (drop i text) ≡ (is_seen exact o p && begins exact ps (drop (i + 1) text))
begins-at exact p ps text i None e = ap (λ (t : List ℕ). begins exact (p ∷ ps) t) (past text i e)
begins-at exact p ps text i (Some b) e = ap (λ (t : List ℕ). begins exact (p ∷ ps) t) (drop-at text i b e)

-- a byte of the pattern
module _ (exact : Bool) (pattern text : List ℕ) (i d : ℕ) (is : i < length pattern) (r : Bool) (e : r ≡ is_seen exact (slice_get text i) (get_or pattern i d)) where
  abbrev rest : Bool
  rest = begins exact (drop (i + 1) pattern) (drop (i + 1) text)

  next : begins exact (drop i pattern) (drop i text) ≡ (r && rest)
  next =
      ap (λ (ps : List ℕ). begins exact ps (drop i text)) (drop_more pattern i d is)
      ∙ begins-at exact (get_or pattern i d) (drop (i + 1) pattern) text i (slice_get text i) refl
      ∙ ap (λ (b : Bool). b && rest) (sym e)

  pub begins-stops : r ≡ false → begins exact (drop i pattern) (drop i text) ≡ begins exact pattern text → false ≡ begins exact pattern text
  begins-stops f inv = sym (ap (λ (b : Bool). b && rest) f) ∙ sym next ∙ inv

  pub begins-goes : r ≡ true → begins exact (drop i pattern) (drop i text) ≡ begins exact pattern text → rest ≡ begins exact pattern text
  begins-goes f inv = sym (ap (λ (b : Bool). b && rest) f) ∙ sym next ∙ inv

-- a place of the text
pub occurs-goes : (exact : Bool) (pattern text : List ℕ) (i : ℕ) (r : Bool) → i < length text → r ≡ begins exact pattern (take (length text - i) (drop i text)) → r ≡ false
    → occurs exact pattern (drop i text) ≡ occurs exact pattern text → occurs exact pattern (drop (i + 1) text) ≡ occurs exact pattern text
occurs-goes exact pattern text i r h e f inv =
    let at = drop_more text i 0 h in
    let whole : take (length text - i) (drop i text) ≡ drop i text = take_all (length text - i) (drop i text) (omega (arith, length-drop i text)) in
    let none : begins exact pattern (get_or text i 0 ∷ drop (i + 1) text) ≡ false =
    ap (λ (t : List ℕ). begins exact pattern t) (sym (whole ∙ at)) ∙ sym e ∙ f in
    sym (ap (λ (b : Bool). b || occurs exact pattern (drop (i + 1) text)) none) ∙ sym (ap (λ (t : List ℕ). occurs exact pattern t) at) ∙ inv
