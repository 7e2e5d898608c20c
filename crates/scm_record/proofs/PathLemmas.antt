-- Paths of calls. Other crates may use these lemmas.
use Rattle.std.proofs.Common.{List, ◌++◌}
use Rattle.scm_record.specs.LiveCalls.{Call, Path, still, press, press_all, say, resize}
use Rattle.scm_record.specs.declared.live.Turn.{Turn}

-- calls lead on from where earlier calls lead
pub path-after : {first next last : Turn} {calls more : List Call} → Path first calls next → Path next more last → Path first (calls ++ more) last
path-after still q = q
path-after (press g p) q = press g (path-after p q)
path-after (press_all g p) q = press_all g (path-after p q)
path-after (say g p) q = say g (path-after p q)
path-after (resize p) q = resize (path-after p q)
