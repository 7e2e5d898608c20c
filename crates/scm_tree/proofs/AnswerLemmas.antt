-- What becomes of paths, as records of bytes.
use Rattle.std.proofs.Common.{◌≡◌, ℕ, ◌+◌, ◌<◌, ◌≤◌, List, [], ◌∷◌, ◌++◌, length, take, get_or, Option, Some, refl, sym, subst, ◌∙◌, ap}
use Rattle.std.proofs.lemmas.List.{append-nil, append_assoc, take_all, take_more}
use Rattle.scm_tree.specs.declared.row.Row.{Row}
use Rattle.scm_tree.specs.declared.scan.Refusal.{Refusal}
use Rattle.scm_tree.specs.declared.place.Entry.{Entry}
use Rattle.scm_tree.specs.declared.place.Mark.{Mark}
use Rattle.scm_tree.specs.declared.decision.Moved.{Moved}
use Rattle.scm_tree.specs.declared.decision.Decision.{Decision}
use Rattle.scm_tree.specs.declared.decision.DecideError.{DecideError}
use Rattle.scm_tree.specs.Decisions.{IsDecision}
use Rattle.scm_tree.specs.DecideFaults.{IsDecideFault}
use Rattle.scm_tree.specs.declared.asked.Asked.{Asked}
use Rattle.scm_tree.specs.Answers.{IsAnswerTo, answer_of, decided, reason_answer, undecided, refusal_answer, refusals_answer, row_answer, rows_answer}

rows_push : (count : ℕ) (refused : List (Option Refusal)) (rows : List Row) (r : Row) → rows_answer count refused (rows ++ r ∷ []) ≡ rows_answer count refused rows ++ row_answer count refused r
unfolding rows_answer
rows_push count refused [] r = append-nil (row_answer count refused r)
rows_push count refused (x ∷ rows) r =
    ap (λ (ys : List ℕ). row_answer count refused x ++ ys) (rows_push count refused rows r)
    ∙ sym (append_assoc (row_answer count refused x) (rows_answer count refused rows) (row_answer count refused r))

pub no_rows : (count : ℕ) (refused : List (Option Refusal)) → rows_answer count refused [] ≡ []
unfolding rows_answer
no_rows count refused = refl

pub rows_more : (count : ℕ) (refused : List (Option Refusal)) (rows : List Row) (i : ℕ) (d : Row) → i < length rows → rows_answer count refused (take (i + 1) rows) ≡ rows_answer count refused (take i rows) ++ row_answer count refused (get_or rows i d)
rows_more count refused rows i d h = ap (λ (rs : List Row). rows_answer count refused rs) (take_more rows i d h) ∙ rows_push count refused (take i rows) (get_or rows i d)

refusals_push : (rows : List Row) (refused : List (Option Refusal)) (o : Option Refusal) → refusals_answer rows (refused ++ o ∷ []) ≡ refusals_answer rows refused ++ refusal_answer rows o
unfolding refusals_answer
refusals_push rows [] o = append-nil (refusal_answer rows o)
refusals_push rows (x ∷ refused) o =
    ap (λ (ys : List ℕ). refusal_answer rows x ++ ys) (refusals_push rows refused o)
    ∙ sym (append_assoc (refusal_answer rows x) (refusals_answer rows refused) (refusal_answer rows o))

pub no_refusals : (rows : List Row) → refusals_answer rows [] ≡ []
unfolding refusals_answer
no_refusals rows = refl

pub refusals_more : (rows : List Row) (refused : List (Option Refusal)) (i : ℕ) (d : Option Refusal) → i < length refused → refusals_answer rows (take (i + 1) refused) ≡ refusals_answer rows (take i refused) ++ refusal_answer rows (get_or refused i d)
refusals_more rows refused i d h =
    ap (λ (os : List (Option Refusal)). refusals_answer rows os) (take_more refused i d h) ∙ refusals_push rows (take i refused) (get_or refused i d)

-- what a step adds is what the answer of one element more adds
step : (start before after one all more : List ℕ) → before ≡ start ++ all → after ≡ before ++ one → more ≡ all ++ one → after ≡ start ++ more
step start before after one all more begun added grown =
    added ∙ ap (λ (ys : List ℕ). ys ++ one) begun ∙ append_assoc start all one ∙ ap (λ (ys : List ℕ). start ++ ys) (sym grown)

pub nothing_added : (start part : List ℕ) → part ≡ [] → start ≡ start ++ part
nothing_added start part h = sym (ap (λ (ys : List ℕ). start ++ ys) h ∙ append-nil start)

pub rows_added : (count : ℕ) (refused : List (Option Refusal)) (rows : List Row) (i : ℕ) (d : Row) (start before after : List ℕ) → i < length rows → before ≡ start ++ rows_answer count refused (take i rows) → after ≡ before ++ row_answer count refused (get_or rows i d) → after ≡ start ++ rows_answer count refused (take (i + 1) rows)
rows_added count refused rows i d start before after h begun added =
    step start before after (row_answer count refused (get_or rows i d)) (rows_answer count refused (take i rows)) (rows_answer count refused (take (i + 1) rows)) begun added (rows_more count refused rows i d h)

pub refusals_added : (rows : List Row) (refused : List (Option Refusal)) (i : ℕ) (d : Option Refusal) (start before after : List ℕ) → i < length refused → before ≡ start ++ refusals_answer rows (take i refused) → after ≡ before ++ refusal_answer rows (get_or refused i d) → after ≡ start ++ refusals_answer rows (take (i + 1) refused)
refusals_added rows refused i d start before after h begun added =
    step start before after (refusal_answer rows (get_or refused i d)) (refusals_answer rows (take i refused)) (refusals_answer rows (take (i + 1) refused)) begun added (refusals_more rows refused i d h)

-- all rows were looked at, and then all refusals
pub answered : (count : ℕ) (d : Decision) (rows : List Row) (refused : List (Option Refusal)) (i : ℕ) (before after : List ℕ) → rows ≡ d.rows.items → refused ≡ d.refused.items → length rows ≤ i → before ≡ rows_answer count refused (take i rows) → after ≡ before ++ refusals_answer rows refused → after ≡ answer_of count d
answered count d rows refused i before after r f h b a =
    a
    ∙ ap (λ (ys : List ℕ). ys ++ refusals_answer rows refused) (b ∙ ap (λ (rs : List Row). rows_answer count refused rs) (take_all i rows h))
    ∙ ap (λ (rs : List Row). rows_answer count refused rs ++ refusals_answer rs refused) r
    ∙ ap (λ (os : List (Option Refusal)). rows_answer count os d.rows.items ++ refusals_answer d.rows.items os) f

pub refusals_answered : (rows : List Row) (refused : List (Option Refusal)) (i : ℕ) (start before : List ℕ) → length refused ≤ i → before ≡ start ++ refusals_answer rows (take i refused) → before ≡ start ++ refusals_answer rows refused
refusals_answered rows refused i start before h b = b ∙ ap (λ (os : List (Option Refusal)). start ++ refusals_answer rows os) (take_all i refused h)

-- ---- what is decided of the lists that are asked

pub decided_of : (asked : Asked) (old new : List Entry) (marks : List Mark) (moved : List Moved) (d : Decision) (answer : List ℕ) → old ≡ asked.old.items → new ≡ asked.new.items → marks ≡ asked.marks.items → moved ≡ asked.moved.items → IsDecision asked.count old new marks moved d → answer ≡ answer_of asked.count d → IsAnswerTo asked answer
decided_of asked old new marks moved d answer a b m v s e =
    decided d
    (subst (λ (xs : List Entry). IsDecision asked.count xs asked.new.items asked.marks.items asked.moved.items d) a
    (subst (λ (xs : List Entry). IsDecision asked.count old xs asked.marks.items asked.moved.items d) b
    (subst (λ (xs : List Mark). IsDecision asked.count old new xs asked.moved.items d) m (subst (λ (xs : List Moved). IsDecision asked.count old new marks xs d) v s))))
    e

pub undecided_of : (asked : Asked) (old new : List Entry) (marks : List Mark) (moved named : List Moved) (error : DecideError) (answer : List ℕ) → old ≡ asked.old.items → new ≡ asked.new.items → marks ≡ asked.marks.items → moved ≡ asked.moved.items → named ≡ asked.moved.items → IsDecideFault asked.count old new marks moved error → reason_answer named error ≡ Some answer → IsAnswerTo asked answer
undecided_of asked old new marks moved named error answer a b m v w s e =
    undecided error
    (subst (λ (xs : List Entry). IsDecideFault asked.count xs asked.new.items asked.marks.items asked.moved.items error) a
    (subst (λ (xs : List Entry). IsDecideFault asked.count old xs asked.marks.items asked.moved.items error) b
    (subst (λ (xs : List Mark). IsDecideFault asked.count old new xs asked.moved.items error) m (subst (λ (xs : List Moved). IsDecideFault asked.count old new marks xs error) v s))))
    (subst (λ (xs : List Moved). reason_answer xs error ≡ Some answer) w e)
