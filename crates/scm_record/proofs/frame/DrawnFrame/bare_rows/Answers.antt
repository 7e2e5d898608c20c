use Rattle.std.proofs.Common.{◌≡◌, ◌+◌, ◌∙◌, true, ap, refl, sym, arith}
use Rattle.std.specs.Prelude.{nat_le, nat_lt, ◌&&◌}
use Rattle.std.proofs.lemmas.Bool.Decides.{nat_tests}
use Rattle.std.proofs.lemmas.Bool.{and_parts}
use Rattle.scm_types.specs.Limits.{max_scroll}
use Rattle.scm_record.proofs.FrameLemmas.{bare-hit}
use Rattle.scm_record.proofs.frame.DrawnFrame.bare_rows.Goals as goal

pub returns-then-ends_above : goal.returns-then-ends_above
returns-then-ends_above c = λ scene shown n below x.
    let places = rw c.in-Plain.is at shown.places in
    let high : c.height.result ≡ scene.height = c.height.ensures.value ∙ shown.height in
    let scrolled = (and_parts (nat_lt c.args.row scene.height) (nat_le c.args.scroll max_scroll) (ap (λ h. nat_lt c.args.row h && nat_le c.args.scroll max_scroll) (sym shown.height) ∙ sym c.has_row.ensures.value ∙ c.if-not-has_row.false)).1 in
    let down : nat_lt (c.args.row + n) scene.height ≡ true = grind (arith, nat_tests) in
    let there : (nat_lt (c.args.row + n) scene.height && nat_le c.args.scroll max_scroll) ≡ true = rw (down, scrolled) refl in
    bare-hit scene c.in-Plain.index c.args.scroll (c.args.row + n) x (c.args.scroll + (c.args.row + n)) places refl there
    (λ w h t view index inside. c.ends_above.ensures c.if-ends_above.true w h t view index (c.args.scroll + (c.args.row + n)) (omega arith) (omega arith) x inside)
