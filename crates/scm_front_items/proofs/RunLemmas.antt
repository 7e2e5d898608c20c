-- Marks that are written over, and marks that are compared.
use Rattle.std.proofs.Common.{◌≡◌, ℕ, suc, ◌+◌, ◌-◌, ◌^◌, ◌<◌, ◌≤◌, min, Bool, true, ◌&&◌, List, [], ◌∷◌, ◌++◌, length, drop, take, get_or, refl, sym, ap, ◌∙◌, append_assoc, Option, arith}
use Rattle.std.specs.Prelude.{option_to_list, slice_get, sum_by}
use Rattle.std.proofs.lemmas.List.{drop_all, drop_more, set_past}
use Rattle.std.proofs.lemmas.Option.{slice_get-get_or, slice_get_past}
use Rattle.scm_front_items.specs.declared.runs.Run.{Run}
use Rattle.scm_front_items.specs.Runs.{overwritten, run_bytes}
use Rattle.scm_front_items.specs.Steps.{agree}
use Rattle.scm_front_items.specs.Targets.{is_as, passes_if_there}

-- nothing is written past the end
pub past-end : (first : ℕ) (marks old : List Bool) → length old ≤ first → overwritten first marks old ≡ old
past-end first [] old h = refl
past-end first (m ∷ ms) old h = rw (set_past old first m h) (past-end (first + 1) ms old (omega arith))

-- past the end there are no marks to differ
pub agree-past : (first : ℕ) (marks all : List Bool) → length all ≤ first → agree first marks all ≡ true
agree-past first [] all h = refl
agree-past first (m ∷ ms) all h = rw (slice_get_past all first h) (agree-past (first + 1) ms all (omega arith))

-- one mark more that does not differ
pub agree-more : (first i : ℕ) (marks all : List Bool) (d : Bool) → i < length marks
    → passes_if_there (is_as (get_or marks i d)) (slice_get all first) ≡ true
    → agree (first + 1) (drop (i + 1) marks) all ≡ agree first (drop i marks) all
agree-more first i marks all d h e =
    ap (λ (b : Bool). b && agree (first + 1) (drop (i + 1) marks) all) (sym e)
    ∙ ap (λ (list : List Bool). agree first list all) (sym (drop_more marks i d h))

-- the bytes of all runs
pub all-bytes : (bytes i : ℕ) (runs : List Run) (n : ℕ) → length runs ≤ i → bytes ≤ 2 ^ 64 - 1
    → min (bytes + sum_by run_bytes (drop i runs)) (2 ^ 64 - 1) ≡ n → bytes ≡ n
all-bytes bytes i runs n h low e =
    let none : sum_by run_bytes (drop i runs) ≡ 0 = ap (λ (list : List Run). sum_by run_bytes list) (drop_all i runs h) in
    omega (arith, none, low, e)

-- one item more that is copied
pub item-more : (done all : List Bool) (n left i : ℕ) → i < length all → n ≡ suc left
    → (done ++ option_to_list (slice_get all i)) ++ take left (drop (i + 1) all) ≡ done ++ take n (drop i all)
item-more done all n left i h e =
    let mark = get_or all i true in
    ap (λ (o : Option Bool). (done ++ option_to_list o) ++ take left (drop (i + 1) all)) (slice_get-get_or all i true h)
    ∙ append_assoc done (mark ∷ []) (take left (drop (i + 1) all))
    ∙ ap (λ (list : List Bool). done ++ list) (sym (ap (λ (k : ℕ). take k (drop i all)) e ∙ ap (λ (list : List Bool). take (suc left) list) (drop_more all i true h)))
