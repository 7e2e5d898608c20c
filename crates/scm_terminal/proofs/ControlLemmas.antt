-- A kept cluster holds no control: no character of one, and no byte of one.
use lib.Utf8.{encode, next}
use Rattle.std.proofs.Common.{◌≡◌, ℕ, ◌+◌, ◌/◌, ◌<◌, ◌≤◌, Bool, true, false, cond, ltb, ◌||◌, List, [], ◌∷◌, refl, sym, subst, arith, Option, Some, None, encode_utf8, encode_utf8_all, ⊎_elim}
use Rattle.std.specs.Prelude.{if◌then◌else◌}
use Rattle.std.specs.Char.{is_control}
use Rattle.std.specs.List.{All, list_any}
use Rattle.std.specs.Str.{chars, is_utf8}
use Rattle.std.proofs.lemmas.Bool.{cases_lt}
use Rattle.std.proofs.lemmas.Bool.Decides.{nat_tests}
use Rattle.std.proofs.lemmas.List.Elements.{All-nil, All-cons, All-append}
use Rattle.std.proofs.lemmas.Str.{IsUtf8-from_is_utf8, encodes-chars, encode_ascii}
use Rattle.scm_cells.specs.Clusters.{has_control, visible_width}
use Rattle.scm_terminal.specs.Terminal.{IsNotControl, HoldsNoControl}

not_first : (b : Bool) (rest : Option ℕ) (n : ℕ) → (if b then None else rest) ≡ Some n → b ≡ false
not_first true rest n e = absurd (cc)
not_first false rest n e = refl

-- what is kept has no control character
kept-clean : (piece : List ℕ) (columns : ℕ) → visible_width piece ≡ Some columns → has_control piece ≡ false
unfolding visible_width
kept-clean piece columns e = not_first (has_control piece) _ columns e

-- ---- the bytes of characters

high : (b : ℕ) → 128 ≤ b → IsNotControl b
high b h = (omega arith, λ e. omega arith)

low : (c : ℕ) → c < 128 → is_control c ≡ false → IsNotControl c
low c h not = (grind (arith, nat_tests), λ e. grind (arith, nat_tests))

one : (b : ℕ) → IsNotControl b → All IsNotControl (b ∷ [])
one b h = All-cons IsNotControl b [] h (All-nil IsNotControl)

long : (x y z : Bool) (a b c d e f g h i : ℕ) (first : List ℕ) → x ≡ false → 128 ≤ a → 128 ≤ b → 128 ≤ c → 128 ≤ d → 128 ≤ e → 128 ≤ f → 128 ≤ g → 128 ≤ h → 128 ≤ i
    → All IsNotControl (cond x first (cond y (a ∷ (b ∷ [])) (cond z (c ∷ (d ∷ (e ∷ []))) (f ∷ (g ∷ (h ∷ (i ∷ [])))))))
long true y z a b c d e f g h i first x ha hb hc hd he hf hg hh hi = absurd (cc)
long false true z a b c d e f g h i first x ha hb hc hd he hf hg hh hi = All-cons IsNotControl a (b ∷ []) (high a ha) (one b (high b hb))
long false false true a b c d e f g h i first x ha hb hc hd he hf hg hh hi =
    All-cons IsNotControl c (d ∷ (e ∷ [])) (high c hc) (All-cons IsNotControl d (e ∷ []) (high d hd) (one e (high e he)))
long false false false a b c d e f g h i first x ha hb hc hd he hf hg hh hi =
    All-cons IsNotControl f (g ∷ (h ∷ (i ∷ []))) (high f hf) (All-cons IsNotControl g (h ∷ (i ∷ [])) (high g hg) (All-cons IsNotControl h (i ∷ []) (high h hh) (one i (high i hi))))

char-long : (c : ℕ) → 128 ≤ c → All IsNotControl (encode_utf8 c)
unfolding encode
char-long c h =
    long (ltb c 128) (ltb c 2048) (ltb c 65536) (192 + c / 64) (next c) (224 + c / 4096) (next (c / 64)) (next c) (240 + c / 262144) (next (c / 4096)) (next (c / 64)) (next c) (c ∷ [])
    (grind (arith, nat_tests)) (omega arith) (omega arith) (omega arith) (omega arith) (omega arith) (omega arith) (omega arith) (omega arith) (omega arith)

char-plain : (c : ℕ) → is_control c ≡ false → All IsNotControl (encode_utf8 c)
char-plain c not =
    ⊎_elim (λ (h : c < 128). subst (All IsNotControl) (sym (encode_ascii c h)) (one c (low c h not))) (λ (h : 128 ≤ c). char-long c h) (cases_lt c 128)

neither : (a b : Bool) → (a || b) ≡ false → (a ≡ false) × (b ≡ false)
neither true b e = absurd (cc)
neither false b e = (refl, e)

chars-plain : (cs : List ℕ) → list_any is_control cs ≡ false → All IsNotControl (encode_utf8_all cs)
chars-plain [] e = All-nil IsNotControl
chars-plain (c ∷ cs) e =
    let parts = neither (is_control c) (list_any is_control cs) e in
    All-append IsNotControl (encode_utf8 c) (encode_utf8_all cs) (char-plain c parts.0) (chars-plain cs parts.1)

text-plain : (text : List ℕ) → is_utf8 text ≡ true → has_control text ≡ false → All IsNotControl text
unfolding has_control
text-plain text u clean = subst (All IsNotControl) (encodes-chars text (IsUtf8-from_is_utf8 text u)) (chars-plain (chars text) clean)

pub holds_no_control : (symbol : List ℕ) (columns : ℕ) → HoldsNoControl symbol columns
holds_no_control symbol columns m =
    let clean = kept-clean symbol columns m.columns in
    (clean, text-plain symbol m.utf8 clean)
