-- The columns of texts, by their bytes and by their pieces.
use Rattle.std.proofs.Common.{◌≡◌, ℕ, ◌+◌, Bool, true, false, List, [], ◌∷◌, ◌++◌, refl, arith}
use Rattle.std.specs.Prelude.{codes, if◌then◌else◌}
use Rattle.std.specs.Str.{IsUtf8}
use Rattle.std.proofs.lemmas.Str.{IsUtf8-nil, IsUtf8-append}
use Rattle.scm_cells.specs.Clusters.{text_width}
use Rattle.scm_cells.proofs.PrintableLemmas.{text_width-printable}
use Rattle.scm_widgets.proofs.SeamLemmas.{IsSeam, IsSeam-round_open, IsSeam-round_close, IsSeam-square_open, IsSeam-square_close, IsUtf8-seam, text_width-seam}

width-between : (a b : ℕ) (text : List ℕ) → IsSeam a → IsSeam b → IsUtf8 text → text_width (a ∷ (text ++ b ∷ [])) ≡ 1 + text_width text + 1
width-between a b text h g u =
    let first = text_width-seam a h [] (text ++ b ∷ []) IsUtf8-nil (IsUtf8-append text (b ∷ []) u (IsUtf8-seam b g [] IsUtf8-nil)) in
    let second = text_width-seam b g text [] u IsUtf8-nil in
    let none : text_width [] ≡ 0 = text_width-printable [] refl in
    omega (arith, first, second, none)

pub width-brackets : (focused : Bool) (text : List ℕ) → IsUtf8 text
    → text_width (if focused then codes "(" ++ (text ++ codes ")") else codes "[" ++ (text ++ codes "]")) ≡ 1 + text_width text + 1
width-brackets true text u = width-between 0x28 0x29 text IsSeam-round_open IsSeam-round_close u
width-brackets false text u = width-between 0x5B 0x5D text IsSeam-square_open IsSeam-square_close u
