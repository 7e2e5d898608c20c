use Rattle.std.proofs.Common.{◌≡◌, ◌∙◌, ◌+◌, ℕ, ap, pos, subst, sym, to_z, w64}
use Rattle.std.proofs.lemmas.Int.{to_z_pos}
use Rattle.std.specs.Prelude.{nat_le, nat_lt, ◌&&◌, None, if◌then◌else◌}
use Rattle.scm_types.specs.Limits.{max_scroll}
use Rattle.scm_record.specs.Frames.{AreFreePlaces}
use Rattle.scm_record.proofs.FrameLemmas.{run-hit}
use Rattle.scm_record.proofs.FreePlacesLemmas.{free-hit}
use Rattle.scm_record.proofs.frame.DrawnFrame.run_among.Goals as goal

pub returns-in-Some-clause-owner : goal.returns-in-Some-clause-owner
returns-in-Some-clause-owner c = λ scene shown x low high.
    let places = rw c.in-Plain.is at shown.places in
    let knows = rw (c.in-Plain.is, c.in-Some.is) at c.requires.owners in
    let there = ap (λ h. nat_lt c.args.row h && nat_le c.args.scroll max_scroll) (sym shown.height) ∙ sym c.has_row.ensures.value ∙ c.if-not-has_row.false in
    run-hit scene c.in-Plain.index c.args.scroll c.args.row x c.in-Some.found.row c.run_on.result.owner places knows.0 there
    (λ w h t view is. c.run_on.ensures.owner w h t view is x low high)

pub returns-in-Free-clause-owner : goal.returns-in-Free-clause-owner
returns-in-Free-clause-owner c = λ scene shown x low high.
    let y = c.args.scroll + c.args.row in
    let place : to_z w64 y ≡ pos y = to_z_pos w64 y (c.has_row.ensures.room c.if-not-has_row.false) in
    let wide : c.width.result ≡ scene.width = c.width.ensures.value ∙ shown.width in
    let places = rw c.in-Free.is at shown.places in
    let kept = subst (λ (n : ℕ). AreFreePlaces n scene.frame c.in-Free.places) (sym wide) places in
    let there = ap (λ h. nat_lt c.args.row h && nat_le c.args.scroll max_scroll) (sym shown.height) ∙ sym c.has_row.ensures.value ∙ c.if-not-has_row.false in
    let owned = c.run_on-in-Free.ensures.owner y scene.frame kept place x low high in
    free-hit scene c.args.scroll c.args.row x c.run_on-in-Free.result.owner there
    (owned ∙ ap (λ (n : ℕ). if nat_lt x n then scene.frame.owner y x else None) wide)
