use Rattle.std.proofs.Common.{◌≡◌, ◌+◌, ◌≤◌, length}
use Rattle.std.specs.HashMap.{get, spare, IsUnique}
use Rattle.std.specs.Map.{update_all}
use Rattle.scm_cells.specs.Rect.{union_of}
use Rattle.scm_render.proofs.trace.DrawTrace.merge.Given as goal

abbrev pub invariant-loop-id : goal.invariant-loop-id
invariant-loop-id g l = record {
  rect : l.self.rect ≡ union_of l.fn.self.rect l.fn.other.rect;
  room : length l.fn.other.components.entries ≤ spare l.self.components + length l.yielded;
  unique : IsUnique g.Id.PartialEq.eq l.self.components;
  boxes : (q : g.row.Id.Denot) → get g.Id.PartialEq.eq l.self.components q ≡ update_all g.Id.PartialEq.eq (get g.Id.PartialEq.eq l.fn.self.components) l.yielded q;
}
