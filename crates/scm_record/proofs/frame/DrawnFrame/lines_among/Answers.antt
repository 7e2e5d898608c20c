use Rattle.std.proofs.Common.{◌≡◌, ◌+◌, ◌-◌, ◌<◌, ◌∙◌, true, ap, arith, refl, sym}
use Rattle.std.specs.Prelude.{nat_le, nat_lt, ◌&&◌}
use Rattle.std.proofs.lemmas.Bool.Decides.{nat_tests}
use Rattle.std.proofs.lemmas.Bool.{and_parts}
use Rattle.scm_types.specs.Limits.{max_scroll}
use Rattle.scm_layout_index.specs.LineRows.{line_below}
use Rattle.scm_record.proofs.FrameLemmas.{first-of, line-hit}
use Rattle.scm_record.proofs.frame.DrawnFrame.lines_among.Goals as goal

pub returns-in-Some-clause-hits : goal.returns-in-Some-clause-hits
returns-in-Some-clause-hits c = λ scene shown lines is n below x within.
    let places = rw c.in-Plain.is at shown.places in
    let knows = rw (c.in-Plain.is, c.in-Some.is) at c.requires in
    let all = first-of c.lines_on.result (c.height.result - c.args.row) lines (sym c.first_rows.ensures ∙ is) in
    let more = all.more in
    let most = all.within in
    let high : c.height.result ≡ scene.height = c.height.ensures.value ∙ shown.height in
    let scrolled = (and_parts (nat_lt c.args.row scene.height) (nat_le c.args.scroll max_scroll) (ap (λ h. nat_lt c.args.row h && nat_le c.args.scroll max_scroll) (sym shown.height) ∙ sym c.has_row.ensures.value ∙ c.if-not-has_row.false)).1 in
    let down : nat_lt (c.args.row + n) scene.height ≡ true = grind (arith, nat_tests) in
    let there : (nat_lt (c.args.row + n) scene.height && nat_le c.args.scroll max_scroll) ≡ true = rw (down, scrolled) refl in
    let found = knows.0 in
    let row : c.in-Some.found.row + n ≡ c.args.scroll + (c.args.row + n) = omega arith in
    let wide = c.width.ensures.value ∙ shown.width in
    let enough = c.if-width-columns.false in
    let seen : x < scene.width = omega arith in
    let first = all.first in
    line-hit scene c.in-Plain.index c.args.scroll (c.args.row + n) x (c.in-Some.found.row + n) (line_below lines.first n) places row there seen
    (λ w h t view index inside. rw (sym first) (c.lines_on.ensures.owner w h t view index all.lines all.is n (omega arith) x inside))
