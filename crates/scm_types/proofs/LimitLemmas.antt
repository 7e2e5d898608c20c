-- The limits of the code are those of the definitions, and leave room.
use Rattle.std.proofs.Common.{◌≡◌, ◌≤◌, ◌^◌, refl, arith}
use Rattle.scm_types.specs.declared.state.TheConstants.RecordState.{MAX_TEXT}
use Rattle.scm_types.specs.Limits.{max_items, max_scroll, max_text}

pub text_limit : MAX_TEXT ≡ max_text
text_limit = refl

-- sums of many such numbers are far from the ends of an integer: what compares with these bounds doesn't open the definitions
pub items_room : max_items ≤ 2 ^ 40
unfolding max_items
items_room = omega arith

pub scroll_room : max_scroll ≤ 2 ^ 41
unfolding max_items max_scroll
scroll_room = omega arith
