use Rattle.std.proofs.Common.{◌≡◌, ◌++◌}
use Rattle.std.specs.List.{filter}
use Rattle.scm_record.specs.FreePlaces.{is_shown}
use Rattle.scm_record.proofs.free_places.shown_boxes.Given as goal

abbrev pub invariant-loop-id : goal.invariant-loop-id
invariant-loop-id l = l.shown.items ++ filter (is_shown l.first l.end) l.id-iterator ≡ filter (is_shown l.first l.end) l.boxes.entries
