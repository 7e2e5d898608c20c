-- Answers that are told apart.
use Rattle.std.proofs.Common.{◌≡◌, ℕ, ◌==◌, List, [], ◌∷◌, ◌++◌, Bool, true, false, if◌then◌else◌, Option, Some, None, Result, Ok, Err, refl, sym, ◌∙◌, ap}
use Rattle.std.specs.Prelude.{nat_lt}
use Rattle.std.proofs.lemmas.Bool.{false≢true}
use Rattle.std.proofs.lemmas.List.{append_assoc}
use Rattle.scm_tree.specs.declared.row.Version.{Version}
use Rattle.scm_tree.specs.declared.row.Row.{Row}
use Rattle.scm_tree.specs.declared.scan.Refusal.{Refusal}
use Rattle.scm_tree.specs.Rows.{chosen}
use Rattle.scm_tree.specs.Refusals.{is_refused}
use Rattle.scm_tree.specs.declared.decision.Moved.{Moved}
use Rattle.scm_tree.specs.declared.decision.DecideError.{DecideError}
use Rattle.scm_tree.specs.declared.decision.DecideError.TheVariants.{Twice, Unknown, Path, Rows, Rename, File, OutOfMemory}
use Rattle.scm_tree.specs.declared.asked.Asked.{Asked}
use Rattle.scm_tree.specs.Records.{Held, rows_in}
use Rattle.scm_tree.specs.Answers.{IsAnswer, IsAnswerTo, decided, letter_of, no_rows, of_rows, reason_answer, record_bytes, refusals_answer, rows_answer, undecided}
use Rattle.scm_tree.specs.ToldApart.{IsToldApart, begins_with}

version_letter : (old new : Bool) → ((if old then 111 else if new then 110 else 99) == 35) ≡ false
version_letter true new = refl
version_letter false true = refl
version_letter false false = refl

letter_fits : (o : Option Version) → (letter_of o == 35) ≡ false
letter_fits None = refl
letter_fits (Some v) = version_letter (v.contents == 0) (v.contents == 1)

shown_or_not : (t : Bool) (letter : ℕ) (path more : List ℕ) → (letter == 35) ≡ false → begins_with 35 more ≡ false → begins_with 35 ((if t then record_bytes letter path else []) ++ more) ≡ false
shown_or_not true letter path more e h = e
shown_or_not false letter path more e h = h

rows_fit : (count : ℕ) (refused : List (Option Refusal)) (rows : List Row) (more : List ℕ) → begins_with 35 more ≡ false → begins_with 35 (rows_answer count refused rows ++ more) ≡ false
unfolding rows_answer
rows_fit count refused [] more h = h
rows_fit count refused (r ∷ rows) more h =
    ap (λ (bytes : List ℕ). begins_with 35 bytes) (append_assoc (if nat_lt r.file count then record_bytes (letter_of (chosen (is_refused refused) r)) r.path.now else []) (rows_answer count refused rows) more)
    ∙ shown_or_not (nat_lt r.file count) (letter_of (chosen (is_refused refused) r)) r.path.now (rows_answer count refused rows ++ more) (letter_fits (chosen (is_refused refused) r)) (rows_fit count refused rows more h)

refusals_fit : (rows : List Row) (refused : List (Option Refusal)) → begins_with 35 (refusals_answer rows refused) ≡ false
unfolding refusals_answer
refusals_fit rows [] = refl
refusals_fit rows (None ∷ refused) = refusals_fit rows refused
refusals_fit rows (Some r ∷ refused) = refl

begins_in : Option (List ℕ) → Bool
begins_in None = false
begins_in (Some answer) = begins_with 35 answer

reason_fits : (moved : List Moved) (error : DecideError) → begins_in (reason_answer moved error) ≡ false
unfolding begins_in
reason_fits moved (Twice p) = refl
reason_fits moved (Unknown p) = refl
reason_fits moved (Path p fault) = refl
reason_fits moved (Rows fault) = refl
reason_fits moved (Rename i) = refl
reason_fits moved (File i) = refl
reason_fits moved OutOfMemory = refl

some_begins : (answer : List ℕ) → begins_in (Some answer) ≡ begins_with 35 answer
unfolding begins_in
some_begins answer = refl

answer_fits : (asked : Asked) (answer : List ℕ) → IsAnswerTo asked answer → begins_with 35 answer ≡ false
answer_fits asked answer (decided d s e) =
    ap (λ (bytes : List ℕ). begins_with 35 bytes) e
    ∙ rows_fit asked.count d.refused.items d.rows.items (refusals_answer d.rows.items d.refused.items) (refusals_fit d.rows.items d.refused.items)
answer_fits asked answer (undecided error f e) =
    sym (some_begins answer) ∙ ap (λ (o : Option (List ℕ)). begins_in o) (sym e) ∙ reason_fits asked.moved.items error

part_in : Result Held (List ℕ) → List ℕ
part_in (Ok h) = []
part_in (Err part) = part

one_part : (p q : List ℕ) (r : Result Held (List ℕ)) → r ≡ Err p → r ≡ Err q → p ≡ q
unfolding part_in
one_part p q r e f = ap (λ (x : Result Held (List ℕ)). part_in x) (sym e ∙ f)

not_both : (h : Held) (part : List ℕ) (r : Result Held (List ℕ)) → r ≡ Ok h → r ≡ Err part → ⊥
not_both h part r e f = cc

pub told_apart : (bytes answer : List ℕ) → IsAnswer bytes answer → IsToldApart bytes answer
told_apart bytes answer (of_rows asked e s) = record {
  no_rows = λ part f. absurd (not_both _ part (rows_in bytes) e f);
  only = λ b. absurd (false≢true (sym (answer_fits asked answer s) ∙ b));
}
told_apart bytes answer (no_rows part e s) = record {
  no_rows = λ other f. s ∙ ap (λ (p : List ℕ). record_bytes 35 p) (one_part part other (rows_in bytes) e f);
  only = λ b. (part, e);
}
