use Rattle.std.proofs.Common.{rules, FitsSigned, w64}
use Rattle.std.proofs.lemmas.Int.{to_z-of_z}
use Rattle.scm_screen_tests.specs.Tags.{tag_picture}
use Rattle.scm_screen_tests.proofs.tags.TagComponent.draw.Goals as goal

pub draw_span-requires : goal.draw_span-requires
unfolding tag_picture
draw_span-requires g c =
    let fx : FitsSigned w64 c.args.x = c.ranges.x in
    let fy : FitsSigned w64 c.args.y = c.ranges.y in
    rw (c.as_str.ensures.value, c.in_ok-text.ensures.ok) (simp to_z-of_z c.requires)

pub returns : goal.returns
unfolding tag_picture
returns g c =
    let fx : FitsSigned w64 c.args.x = c.ranges.x in
    let fy : FitsSigned w64 c.args.y = c.ranges.y in
    record {
      ok = rw (c.as_str.ensures.value, c.in_ok-text.ensures.ok) at (simp to_z-of_z at c.in_ok-draw_span.ensures.draws.ok);
      counts = search rules;
      rect = search rules;
      err = search rules;
    }
