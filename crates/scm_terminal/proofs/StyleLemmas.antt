-- Styles with the same number are the same.
use Rattle.std.proofs.Common.{◌≡◌, ℕ, ◌+◌, ◌*◌, ◌<◌, Bool, true, false, List, [], ◌∷◌, get_or, refl, sym, ap, ◌∙◌, arith, Option, Some, None}
use Rattle.std.specs.Prelude.{◌%◌, ◌/◌, ◌==◌}
use Rattle.scm_cells.specs.declared.style.Colour.{Colour}
use Rattle.scm_cells.specs.declared.style.Colour.TheVariants.{Black, Red, Green, Yellow, Blue, Magenta, Cyan, White}
use Rattle.scm_cells.specs.declared.style.Style.{Style}
use Rattle.scm_terminal.specs.Bytes.{has_bit}
use Rattle.scm_terminal.specs.Style.{bit, colour_code, colour_of, style_code, style_of_code}

abbrev colours : List (Option Colour)
colours = None ∷ (Some Black ∷ (Some Red ∷ (Some Green ∷ (Some Yellow ∷ (Some Blue ∷ (Some Magenta ∷ (Some Cyan ∷ (Some White ∷ []))))))))

colour-read : (c : Option Colour) → get_or colours (colour_code c) None ≡ c
colour-read None = refl
colour-read (Some Black) = refl
colour-read (Some Red) = refl
colour-read (Some Green) = refl
colour-read (Some Yellow) = refl
colour-read (Some Blue) = refl
colour-read (Some Magenta) = refl
colour-read (Some Cyan) = refl
colour-read (Some White) = refl

colour-same : (a b : Option Colour) → colour_code a ≡ colour_code b → a ≡ b
colour-same a b e = sym (colour-read a) ∙ ap (λ n. get_or colours n None) e ∙ colour-read b

colour-small : (c : Option Colour) → colour_code c < 16
colour-small None = omega arith
colour-small (Some Black) = omega arith
colour-small (Some Red) = omega arith
colour-small (Some Green) = omega arith
colour-small (Some Yellow) = omega arith
colour-small (Some Blue) = omega arith
colour-small (Some Magenta) = omega arith
colour-small (Some Cyan) = omega arith
colour-small (Some White) = omega arith

bit-small : (b : Bool) → bit b < 2
bit-small true = omega arith
bit-small false = omega arith

bit-same : (a b : Bool) → bit a ≡ bit b → a ≡ b
bit-same true true e = refl
bit-same true false e = absurd (omega arith)
bit-same false true e = absurd (omega arith)
bit-same false false e = refl

parts-same : (a p q r s b t u v w : ℕ) → a < 16 → p < 2 → q < 2 → r < 2 → s < 2 → b < 16 → t < 2 → u < 2 → v < 2 → w < 2
    → a + 16 * (p + 2 * (q + 2 * (r + 2 * s))) ≡ b + 16 * (t + 2 * (u + 2 * (v + 2 * w)))
    → (a ≡ b) × (p ≡ t) × (q ≡ u) × (r ≡ v) × (s ≡ w)
parts-same a p q r s b t u v w h1 h2 h3 h4 h5 h6 h7 h8 h9 h10 e = (omega arith, omega arith, omega arith, omega arith, omega arith)

pub style-same : (a b : Style) → style_code a ≡ style_code b → a ≡ b
unfolding style_code
style-same a b e =
    let parts = parts-same (colour_code a.colour) (bit a.bold) (bit a.dim) (bit a.underlined) (bit a.reversed)
    (colour_code b.colour) (bit b.bold) (bit b.dim) (bit b.underlined) (bit b.reversed)
    (colour-small a.colour) (bit-small a.bold) (bit-small a.dim) (bit-small a.underlined) (bit-small a.reversed)
    (colour-small b.colour) (bit-small b.bold) (bit-small b.dim) (bit-small b.underlined) (bit-small b.reversed) e in
    let c = colour-same a.colour b.colour parts.0 in
    let p = bit-same a.bold b.bold parts.1 in
    let q = bit-same a.dim b.dim parts.2 in
    let r = bit-same a.underlined b.underlined parts.3 in
    let s = bit-same a.reversed b.reversed parts.4 in
    let same : ◌≡◌ {A = Style} (record { colour = a.colour; bold = a.bold; dim = a.dim; underlined = a.underlined; reversed = a.reversed })
    (record { colour = b.colour; bold = b.bold; dim = b.dim; underlined = b.underlined; reversed = b.reversed }) = cc in
    same

-- ---- the style with a number

colour-found : (c : Option Colour) → colour_of (colour_code c) ≡ c
colour-found None = refl
colour-found (Some Black) = refl
colour-found (Some Red) = refl
colour-found (Some Green) = refl
colour-found (Some Yellow) = refl
colour-found (Some Blue) = refl
colour-found (Some Magenta) = refl
colour-found (Some Cyan) = refl
colour-found (Some White) = refl

bit-found : (b : Bool) → (bit b == 1) ≡ b
bit-found true = refl
bit-found false = refl

parts-found : (a p q r s n : ℕ) → a < 16 → p < 2 → q < 2 → r < 2 → s < 2 → n ≡ a + 16 * (p + 2 * (q + 2 * (r + 2 * s)))
    → (n % 16 ≡ a) × ((n / 16) % 2 ≡ p) × ((n / 32) % 2 ≡ q) × ((n / 64) % 2 ≡ r) × ((n / 128) % 2 ≡ s)
parts-found a p q r s n h1 h2 h3 h4 h5 e = (omega arith, omega arith, omega arith, omega arith, omega arith)

-- each style is the one with its number
pub style-found : (style : Style) → style_of_code (style_code style) ≡ style
unfolding style_code style_of_code
style-found style =
    let n = style_code style in
    let parts = parts-found (colour_code style.colour) (bit style.bold) (bit style.dim) (bit style.underlined) (bit style.reversed) n
    (colour-small style.colour) (bit-small style.bold) (bit-small style.dim) (bit-small style.underlined) (bit-small style.reversed) refl in
    let c : colour_of (n % 16) ≡ style.colour = ap colour_of parts.0 ∙ colour-found style.colour in
    let p : has_bit 16 n ≡ style.bold = ap (λ k. k == 1) parts.1 ∙ bit-found style.bold in
    let q : has_bit 32 n ≡ style.dim = ap (λ k. k == 1) parts.2 ∙ bit-found style.dim in
    let r : has_bit 64 n ≡ style.underlined = ap (λ k. k == 1) parts.3 ∙ bit-found style.underlined in
    let s : has_bit 128 n ≡ style.reversed = ap (λ k. k == 1) parts.4 ∙ bit-found style.reversed in
    let same : ◌≡◌ {A = Style} (record { colour = colour_of (n % 16); bold = has_bit 16 n; dim = has_bit 32 n; underlined = has_bit 64 n; reversed = has_bit 128 n })
    (record { colour = style.colour; bold = style.bold; dim = style.dim; underlined = style.underlined; reversed = style.reversed }) = cc in
    same
