use Rattle.std.proofs.Common.{length}
use Rattle.scm_json.proofs.TokenLemmas.{IsBegun}
use Rattle.scm_json.proofs.from_json.ItemsFromJson.from_tokens.Given as goal

abbrev pub invariant-loop-alloc : goal.invariant-loop-alloc
invariant-loop-alloc g l = IsBegun g.T.FromJson.form g.T.FromJson.height l.initial.reader l.found.items l.reader

abbrev pub decreases-loop-alloc : goal.decreases-loop-alloc
decreases-loop-alloc g l = length l.reader
