-- Columns that are held at the greatest number that the machine counts.
use Rattle.std.proofs.Common.{◌≡◌, ℕ, ◌+◌, List, ◌++◌, length, arith, encode_utf8, None, Some, drop, slice_range}
use Rattle.std.specs.Str.{IsUtf8}
use Rattle.scm_cells.specs.Clusters.{text_width}
use Rattle.scm_cells.specs.Replaced.{replacement, line_pieces}
use Rattle.scm_render.specs.Drawing.{texts_width}
use Rattle.scm_document.proofs.WidthLemmas.{HasMeasured, measured-none, measured-stays, measured-cut, measured-end}
use Rattle.scm_strips.specs.Parts.{counted}

-- the measured pieces of a line are `whole` columns wide, of which `width` are counted
pub record HasCounted (line : List ℕ) (start read width : ℕ) (rest : List ℕ) : Type 0 where
  pub whole : ℕ
  pub held : width ≡ counted whole
  pub measured : HasMeasured line start read whole rest

pub counted-none : (line rest : List ℕ) → IsUtf8 line → rest ≡ line → HasCounted line 0 0 0 rest
counted-none line rest u e = record { whole = 0; held = omega arith; measured = measured-none line rest u e }

pub counted-stays : (line rest next : List ℕ) (start read width end c : ℕ) → HasCounted line start read width rest → rest ≡ encode_utf8 c ++ next → end ≡ read + length (encode_utf8 c) → replacement c ≡ None
    → HasCounted line start end width next
counted-stays line rest next start read width end c h first e none =
    record { whole = h.whole; held = h.held; measured = measured-stays line rest next start read h.whole end c h.measured first e none }

pub counted-cut : (line rest next r front : List ℕ) (start read width end c more : ℕ) → HasCounted line start read width rest → rest ≡ encode_utf8 c ++ next → end ≡ read + length (encode_utf8 c) → replacement c ≡ Some r
    → front ≡ slice_range line start read → ((whole : ℕ) → width ≡ counted whole → more ≡ counted (whole + (text_width front + text_width r))) → HasCounted line end end more next
counted-cut line rest next r front start read width end c more h first e some at grows =
    record {
      whole = h.whole + (text_width front + text_width r);
      held = grows h.whole h.held;
      measured = measured-cut line rest next r front start read h.whole end c h.measured first e some at;
    }

pub counted-end : (line rest front : List ℕ) (start read width all : ℕ) → HasCounted line start read width rest → length rest ≡ 0 → front ≡ drop start line → all ≡ counted (width + text_width front)
    → all ≡ counted (texts_width (line_pieces line))
counted-end line rest front start read width all h e at is =
    let sum = measured-end line rest front start read h.whole h.measured e at in
    omega (arith, is, h.held, sum)
