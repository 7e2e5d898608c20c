use Rattle.std.proofs.Common.{◌≡◌, Some, refl}
use Rattle.serde_json.specs.Find.{as_object}
use Rattle.serde_json.specs.View.{view, members_view}
use Rattle.serde_json.proofs.Views.{members_len-members_view}
use Rattle.scm_json.proofs.from_json.has_members.Goals as goal

pub returns-in-Some : goal.returns-in-Some
returns-in-Some c =
    let es = c.in-Some.members.now.entries in
    let found : Some (members_view es) ≡ as_object (view c.args.value.now) = c.in-Some.ensures in
    rw (← found, members_len-members_view es, c.len.ensures.len) refl
