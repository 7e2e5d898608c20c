-- How many rows a section and a message have at most.
use Rattle.std.proofs.Common.{ℕ, ◌+◌, ◌*◌, ◌≤◌, Bool, true, false, List, length, arith}
use Rattle.std.specs.Prelude.{min, nat_eq, if◌then◌else◌, Option, Some, None}
use Rattle.scm_types.specs.declared.section.Section.{Section}
use Rattle.scm_types.specs.declared.section.Section.TheVariants.{Unchanged, Changed}
use Rattle.scm_types.specs.Limits.{section_size}
use Rattle.scm_rows.specs.declared.section_place.SectionPlace.{SectionPlace}
use Rattle.scm_rows.specs.Context.{are_all_shown, context_height, dots_height, has_dots, is_first, lines_above, lines_height}
use Rattle.scm_rows.specs.Heights.{height_of, message_height}

pub above-le : (b c : Bool) (n : ℕ) → (if b then n else if c then 0 else min n 3) ≤ n
above-le true c n = omega arith
above-le false true n = omega arith
above-le false false n = omega arith

pub one-le : (b : Bool) → (if b then 1 else 0) ≤ 1
one-le true = omega arith
one-le false = omega arith

blank-le : (b : Bool) (n m : ℕ) → m ≤ n → 1 ≤ n → (if b then 1 else m) ≤ n
blank-le true n m h k = k
blank-le false n m h k = h

context-le : (p : SectionPlace) (n : ℕ) → context_height p n ≤ 1 + 2 * n
context-le p n =
    let above : lines_above p n ≤ n = above-le (are_all_shown p n) (is_first p) n in
    let dots : dots_height p n ≤ 1 = one-le (has_dots p n) in
    blank-le (nat_eq n 0) (1 + 2 * n) (lines_height p n) (omega arith) (omega arith)

changed-le : (b : Bool) (n : ℕ) → (if b then 1 + n else 1) ≤ 1 + 2 * n
changed-le true n = omega arith
changed-le false n = omega arith

pub height-le : (p : SectionPlace) (b : Bool) (s : Section) → height_of p b s ≤ 1 + 2 * section_size s
height-le p b (Unchanged lines) = context-le p (length lines)
height-le p b (Changed lines) = changed-le b (length lines)
height-le p b _ = omega arith

pub message-le : (message : Option (List ℕ)) → message_height message ≤ 3
message-le None = omega arith
message-le (Some text) = omega arith
