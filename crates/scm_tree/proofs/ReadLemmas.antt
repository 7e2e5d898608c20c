-- What bytes hold, part by part.
use Rattle.std.proofs.Common.{◌≡◌, ℕ, zero, suc, ◌+◌, ◌-◌, ◌<◌, eqb, List, [], ◌∷◌, ◌++◌, length, take, drop, map, get_or, Bool, true, false, Option, Some, None, Result, Ok, Err, refl, arith, sym, ◌∙◌, ap}
use Rattle.std.specs.Prelude.{slice_get}
use Rattle.std.specs.Option.{option_map}
use Rattle.std.specs.List.{position}
use Rattle.std.proofs.Math.Dec.{eqb-suc-zero}
use Rattle.std.proofs.lemmas.Bool.{false≢true, true≢false}
use Rattle.std.proofs.lemmas.List.{append-nil, append_assoc, length-map, map-append}
use Rattle.std.proofs.lemmas.Option.{slice_get-map}
use Rattle.std.proofs.lemmas.List.Quantifiers.{position-Some}
use Rattle.scm_tree.specs.Rows as tree
use Rattle.scm_tree.specs.declared.place.Mark.{Mark}
use Rattle.scm_tree.specs.declared.decision.Moved.{Moved}
use Rattle.scm_tree.specs.declared.asked.Asked.{Asked}
use Rattle.scm_tree.specs.Records.{Held, PathRecord, RenamedPaths, ShownPath, after_record, ended, held_by, is_nul, read, record_of, seen_mark, seen_moved, shown_path, with_record, with_second}
use Rattle.scm_tree.specs.Reading.{held_if}
use Rattle.scm_tree.proofs.ByteLemmas.{none_at}

-- what is held after the part that ends at the NUL at place `i`
abbrev pub read_on : Held → List ℕ → List ℕ → ℕ → Result Held (List ℕ)
read_on h part bytes i = after_record (with_record (record_of (part ++ take i bytes)) h) (part ++ take i bytes) (λ g. read g [] (drop (i + 1) bytes))

step_nul : (h : Held) (part : List ℕ) (b : ℕ) (bytes : List ℕ) → is_nul b ≡ true → read h part (b ∷ bytes) ≡ after_record (with_record (record_of part) h) part (λ g. read g [] bytes)
unfolding read
step_nul h part b bytes e = rw e refl

step_more : (h : Held) (part : List ℕ) (b : ℕ) (bytes : List ℕ) → is_nul b ≡ false → read h part (b ∷ bytes) ≡ read h (part ++ b ∷ []) bytes
unfolding read
step_more h part b bytes e = rw e refl

pub read_end : (h : Held) (part : List ℕ) → read h part [] ≡ ended h part
unfolding read
read_end h part = refl

one_more : (i : ℕ) → suc (i + 1) ≡ suc i + 1
one_more i = omega arith

-- `i` is the place of the first NUL
pub read_piece : (bytes : List ℕ) (h : Held) (part : List ℕ) (i : ℕ) → i < length bytes → is_nul (get_or bytes i 1) ≡ true → ((k : ℕ) → k < i → is_nul (get_or bytes k 1) ≡ false) → read h part bytes ≡ read_on h part bytes i
read_piece [] h part i m e n = absurd (omega arith)
read_piece (b ∷ bytes) h part zero m e n =
    step_nul h part b bytes e
    ∙ ap (λ (p : List ℕ). after_record (with_record (record_of p) h) p (λ g. read g [] bytes)) (sym (append-nil part))
read_piece (b ∷ bytes) h part (suc i) m e n =
    step_more h part b bytes (n 0 (omega arith))
    ∙ read_piece bytes h (part ++ b ∷ []) i (omega arith) e (λ k l. n (suc k) (omega arith))
    ∙ ap (λ (p : List ℕ). after_record (with_record (record_of p) h) p (λ g. read g [] (drop (i + 1) bytes))) (append_assoc part (b ∷ []) (take i bytes))
    ∙ ap (λ (n : ℕ). after_record (with_record (record_of (part ++ b ∷ take i bytes)) h) (part ++ b ∷ take i bytes) (λ g. read g [] (drop n (b ∷ bytes)))) (one_more i)

-- no NUL is there
pub read_rest : (bytes : List ℕ) (h : Held) (part : List ℕ) → ((k : ℕ) → k < length bytes → is_nul (get_or bytes k 1) ≡ false) → read h part bytes ≡ ended h (part ++ bytes)
read_rest [] h part n = read_end h part ∙ ap (λ (p : List ℕ). ended h p) (sym (append-nil part))
read_rest (b ∷ bytes) h part n =
    step_more h part b bytes (n 0 (omega arith))
    ∙ read_rest bytes h (part ++ b ∷ []) (λ k l. n (suc k) (omega arith))
    ∙ ap (λ (p : List ℕ). ended h p) (append_assoc part (b ∷ []) bytes)

pub read_at : (bytes : List ℕ) (h : Held) (i : ℕ) → position is_nul bytes ≡ Some i → read h [] bytes ≡ read_on h [] bytes i
read_at bytes h i e = let p = position-Some is_nul bytes i 1 e in read_piece bytes h [] i p.0 p.1 p.2

pub read_last : (bytes : List ℕ) (h : Held) → position is_nul bytes ≡ None → read h [] bytes ≡ ended h bytes
read_last bytes h e = read_rest bytes h [] (λ k l. none_at is_nul bytes e k 1 l)

-- ---- a part that is a record, or none

pub part_fails : (h : Held) (bytes part : List ℕ) (i : ℕ) (done : Bool) (asked : Asked) → position is_nul bytes ≡ Some i → part ≡ take i bytes → with_record (record_of part) h ≡ held_if done asked → done ≡ false → read h [] bytes ≡ Err part
part_fails h bytes part i true asked e p w n = absurd (true≢false n)
part_fails h bytes part i false asked e p w n =
    read_at bytes h i e
    ∙ ap (λ (q : List ℕ). after_record (with_record (record_of q) h) q (λ g. read g [] (drop (i + 1) bytes))) (sym p)
    ∙ ap (λ (o : Option Held). after_record o part (λ g. read g [] (drop (i + 1) bytes))) w

pub part_goes : (h : Held) (bytes part rest : List ℕ) (i : ℕ) (done : Bool) (asked : Asked) → position is_nul bytes ≡ Some i → part ≡ take i bytes → rest ≡ drop (i + 1) bytes → with_record (record_of part) h ≡ held_if done asked → done ≡ true → read h [] bytes ≡ read (held_by asked) [] rest
part_goes h bytes part rest i false asked e p r w n = absurd (false≢true n)
part_goes h bytes part rest i true asked e p r w n =
    read_at bytes h i e
    ∙ ap (λ (q : List ℕ). after_record (with_record (record_of q) h) q (λ g. read g [] (drop (i + 1) bytes))) (sym p)
    ∙ ap (λ (o : Option Held). after_record o part (λ g. read g [] (drop (i + 1) bytes))) w
    ∙ ap (λ (bs : List ℕ). read (held_by asked) [] bs) (sym r)

pub all_read : (h : Held) (bytes : List ℕ) (t : Bool) → position is_nul bytes ≡ None → t ≡ eqb (length bytes) 0 → t ≡ true → read h [] bytes ≡ Ok h
all_read h [] t e f g = read_last [] h e
all_read h (b ∷ bytes) t e f g = absurd (false≢true (sym (f ∙ eqb-suc-zero (length bytes)) ∙ g))

pub part_left : (h : Held) (bytes : List ℕ) (t : Bool) → position is_nul bytes ≡ None → t ≡ eqb (length bytes) 0 → t ≡ false → read h [] bytes ≡ Err bytes
part_left h [] t e f g = absurd (true≢false (sym f ∙ g))
part_left h (b ∷ bytes) t e f g = read_last (b ∷ bytes) h e

-- ---- the other path of a renamed file

last_seen : (marks : List Mark) (first : Mark) → slice_get marks (length marks - 1) ≡ Some first → slice_get (map seen_mark marks) (length (map seen_mark marks) - 1) ≡ Some (seen_mark first)
last_seen marks first e =
    ap (λ (n : ℕ). slice_get (map seen_mark marks) (n - 1)) (length-map marks seen_mark)
    ∙ slice_get-map seen_mark marks (length marks - 1)
    ∙ ap (λ (o : Option Mark). option_map seen_mark o) e

pushed : {X Y : Type 0} (f : X → Y) (xs after : List X) (x : X) (y : Y) → f x ≡ y → after ≡ xs ++ x ∷ [] → map f xs ++ y ∷ [] ≡ map f after
pushed {X = X} {Y = Y} f xs after x y e a = sym (ap (λ (ys : List X). map f ys) a ∙ map-append f xs (x ∷ []) ∙ ap (λ (z : Y). map f xs ++ z ∷ []) e)

pub second_added : (r : PathRecord) (old new : List tree.Entry) (count : ℕ) (marks marks_after : List Mark) (moved moved_after : List Moved) (first mark : Mark) (pair : Moved) → slice_get marks (length marks - 1) ≡ Some first → seen_mark mark ≡ shown_path r first.wish.file → seen_moved pair ≡ (record { old = first.path.now; new = r.path }) → marks_after ≡ marks ++ mark ∷ [] → moved_after ≡ moved ++ pair ∷ [] → with_second r (slice_get (map seen_mark marks) (length (map seen_mark marks) - 1)) (record { old = old; new = new; marks = map seen_mark marks; moved = map seen_moved moved; count = count }) ≡ Some (record { old = old; new = new; marks = map seen_mark marks_after; moved = map seen_moved moved_after; count = count })
second_added r old new count marks marks_after moved moved_after first mark pair e m p a b =
    ap (λ (o : Option ShownPath). with_second r o (record { old = old; new = new; marks = map seen_mark marks; moved = map seen_moved moved; count = count })) (last_seen marks first e)
    ∙ ap (λ (ms : List ShownPath). Some (record { old = old; new = new; marks = ms; moved = map seen_moved moved ++ record { old = first.path.now; new = r.path } ∷ []; count = count })) (pushed seen_mark marks marks_after mark (shown_path r first.wish.file) m a)
    ∙ ap (λ (vs : List RenamedPaths). Some (record { old = old; new = new; marks = map seen_mark marks_after; moved = vs; count = count })) (pushed seen_moved moved moved_after pair (record { old = first.path.now; new = r.path }) p b)
