use Rattle.std.proofs.Common.{string_bytes}
use Rattle.scm_diff.proofs.ByteLemmas.{piece-plain}
use Rattle.scm_diff.proofs.bytes.push_piece.Goals as goal

pub returns-in_ok-push_str : goal.returns-in_ok-push_str
returns-in_ok-push_str c = piece-plain c.args.rest.now (string_bytes c.args.text.now) (string_bytes c.push_str.new.self) c.in-Some.piece.now c.requires c.in-Some.ensures.text c.in-Some.ensures.some c.in_ok-push_str.ensures.bytes
