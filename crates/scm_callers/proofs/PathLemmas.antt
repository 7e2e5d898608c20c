-- Paths of a live session.
use Rattle.std.proofs.Common.{◌≡◌, ℕ, List, [], ◌∷◌, ◌++◌, sym, subst}
use Rattle.std.specs.Prelude.{Result, Ok, Err, IfOk}
use Rattle.scm_record.specs.Live.{LiveEdit}
use Rattle.scm_record.specs.LiveCalls.{MessageLeads, Call, Path, Say, still, say}
use Rattle.scm_record.proofs.PathLemmas.{path-after}
use Rattle.scm_record.specs.declared.live.Turn.{Turn}
use Rattle.scm_record.specs.declared.live.Turn.TheVariants.{Editing}

-- an answer is one of one call
pub path-of-answer : {E : Type 0} (r : Result Turn E) (t : Turn) (a : LiveEdit) (text : List ℕ) → t ≡ Editing a
    → IfOk r (λ next. MessageLeads a text next) → IfOk r (λ next. (calls : List Call) × Path t calls next)
path-of-answer (Ok next) t a text e h = (Say text ∷ [], subst (λ (x : Turn). Path x (Say text ∷ []) next) (sym e) (say h still))
path-of-answer (Err error) t a text e h = tt

-- calls, one more, and what it leads to
pub path-goes : {a b c d : Turn} {ys : List Call} → ((calls : List Call) × Path a calls b) → Path b ys c → ((calls : List Call) × Path c calls d)
    → (calls : List Call) × Path a calls d
path-goes {ys = ys} p h q = (p.0 ++ (ys ++ q.0), path-after p.1 (path-after h q.1))
