-- Whether a pattern occurs in a text. Texts are bytes of UTF-8.
use Rattle.std.specs.Prelude.{ℕ, ◌+◌, ◌==◌, nat_le, Bool, true, false, ◌&&◌, ◌||◌, List, [], ◌∷◌, Option, Some, None, if◌then◌else◌}
use Rattle.std.specs.List.{list_any}

-- whether the byte is a capital letter of ASCII
abbrev pub is_capital : ℕ → Bool
is_capital b = nat_le 65 b && nat_le b 90

-- the byte, or the small letter of a capital
abbrev pub small : ℕ → ℕ
small b = if is_capital b then b + 32 else b

-- a byte of a text as a pattern sees it: exactly, or as a small letter
abbrev pub seen : Bool → ℕ → ℕ
seen is_exact b = if is_exact then b else small b

-- whether the text begins with the pattern
abbrev pub begins : Bool → List ℕ → List ℕ → Bool
begins is_exact [] text = true
begins is_exact (p ∷ ps) [] = false
begins is_exact (p ∷ ps) (b ∷ bs) = (seen is_exact b == p) && begins is_exact ps bs

-- whether the pattern occurs in the text
abbrev pub occurs : Bool → List ℕ → List ℕ → Bool
occurs is_exact pattern [] = begins is_exact pattern []
occurs is_exact pattern (b ∷ bs) = begins is_exact pattern (b ∷ bs) || occurs is_exact pattern bs

-- Whether the text has the pattern. Case matters only if the pattern has a capital letter of ASCII. No text has the empty pattern.
abbrev pub has_pattern : List ℕ → List ℕ → Bool
has_pattern [] text = false
has_pattern (p ∷ ps) text = occurs (list_any is_capital (p ∷ ps)) (p ∷ ps) text

-- whether there is a byte, and the pattern sees it as `p`
abbrev pub is_seen : Bool → Option ℕ → ℕ → Bool
is_seen is_exact None p = false
is_seen is_exact (Some b) p = seen is_exact b == p
