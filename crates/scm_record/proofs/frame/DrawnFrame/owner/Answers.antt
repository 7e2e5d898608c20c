use Rattle.std.proofs.Common.{◌≡◌, pos, w64, to_z}
use Rattle.std.proofs.lemmas.Int.{to_z_pos}
use Rattle.scm_record.proofs.frame.DrawnFrame.owner.Goals as goal

pub returns-in-Free : goal.returns-in-Free
returns-in-Free c = λ scene shown within.
    let y : to_z w64 c.args.row ≡ pos c.args.row = to_z_pos w64 c.args.row c.requires.row in
    let x : to_z w64 c.args.column ≡ pos c.args.column = to_z_pos w64 c.args.column c.requires.column in
    let places = rw c.in-Free.is at shown.places in
    c.owner-in-Free.ensures scene.width c.args.row c.args.column scene.frame places within y x
