use Rattle.std.proofs.Common.{◌<◌, ◌≤◌, take}
use Rattle.std.specs.List.{All}
use Rattle.scm_record.proofs.FreePlacesLemmas.{HasAllOrNone}
use Rattle.scm_record.proofs.free_places.shown_end.Given as goal

abbrev pub invariant-loop-entry : goal.invariant-loop-entry
invariant-loop-entry l = record {
  past : l.column < l.left;
  most : l.left ≤ l.end;
  same : All (HasAllOrNone l.row l.column l.left) (take l.entry-index l.shown);
}
