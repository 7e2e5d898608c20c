-- A record and the letters of its bytes.
use Rattle.std.proofs.Common.{◌≡◌, ℕ, ◌-◌, ◌≤◌, eqb, List, length, take, drop, arith, get_or, Bool, true, false, not, ◌&&◌, ◌||◌, Option, Some, None, refl, sym, ◌∙◌, ap}
use Rattle.std.specs.Prelude.{if◌then◌else◌}
use Rattle.std.proofs.lemmas.Bool.{le-ltb}
use Rattle.std.proofs.lemmas.List.{length-drop, take_all}
use Rattle.scm_tree.specs.declared.record.Ask.{Ask}
use Rattle.scm_tree.specs.Records.{PathRecord, ask_of, is_second, is_sound, is_there, record_if, record_of}

-- whether a tree has the path, and whether it is the other path of a renamed file, by what the byte was compared with
abbrev there : Bool → Bool → Option Bool
there is_letter is_none = if is_letter then Some true else if is_none then Some false else None

abbrev second : Bool → Bool → Option Bool
second is_blank is_plus = if is_blank then Some false else if is_plus then Some true else None

-- the same record, if the letters are known at once
abbrev known : List ℕ → Ask → Bool → Bool → Bool → Bool → Option PathRecord
known path ask letters old new later = if letters && is_sound ask old new later then Some (record { path = path; is_old = old; is_new = new; ask = ask; is_second = later }) else None

letters_known : (path : List ℕ) (ask : Ask) (a n b m c d : Bool) → record_if path (there a n) (there b m) (Some ask) (second c d) ≡ known path ask (((a || n) && (b || m)) && (c || d)) a b (not c)
letters_known path ask false false b m c d = refl
letters_known path ask true n false false c d = refl
letters_known path ask false true false false c d = refl
letters_known path ask true n true m false false = refl
letters_known path ask true n true m true d = refl
letters_known path ask true n true m false true = refl
letters_known path ask true n false true false false = refl
letters_known path ask true n false true true d = refl
letters_known path ask true n false true false true = refl
letters_known path ask false true true m false false = refl
letters_known path ask false true true m true d = refl
letters_known path ask false true true m false true = refl
letters_known path ask false true false true false false = refl
letters_known path ask false true false true true d = refl
letters_known path ask false true false true false true = refl

-- what a record's bytes say, if there are enough of them and they ask for something
record_letters : (bytes path : List ℕ) (ask : Ask) → 4 ≤ length bytes → path ≡ drop 4 bytes → ask_of (get_or bytes 2 0) ≡ Some ask → record_of bytes ≡ record_if path (is_there (get_or bytes 0 0) 111) (is_there (get_or bytes 1 0) 110) (Some ask) (is_second (get_or bytes 3 0))
record_letters bytes path ask h p is =
    ap (λ (short : Bool). if short then None else record_if (drop 4 bytes) (is_there (get_or bytes 0 0) 111) (is_there (get_or bytes 1 0) 110) (ask_of (get_or bytes 2 0)) (is_second (get_or bytes 3 0))) (le-ltb (length bytes) 4 h)
    ∙ ap (λ (asked : Option Ask). record_if (drop 4 bytes) (is_there (get_or bytes 0 0) 111) (is_there (get_or bytes 1 0) 110) asked (is_second (get_or bytes 3 0))) is
    ∙ ap (λ (rest : List ℕ). record_if rest (is_there (get_or bytes 0 0) 111) (is_there (get_or bytes 1 0) 110) (Some ask) (is_second (get_or bytes 3 0))) (sym p)

-- the same, by what the bytes were compared with
pub record_known : (bytes path : List ℕ) (ask : Ask) (old new begin sound goes : Bool) → 4 ≤ length bytes → path ≡ drop 4 bytes → ask_of (get_or bytes 2 0) ≡ Some ask → old ≡ (eqb (get_or bytes 0 0) 111 || eqb (get_or bytes 0 0) 45) → new ≡ (eqb (get_or bytes 1 0) 110 || eqb (get_or bytes 1 0) 45) → begin ≡ (eqb (get_or bytes 3 0) 32 || eqb (get_or bytes 3 0) 43) → sound ≡ is_sound ask (eqb (get_or bytes 0 0) 111) (eqb (get_or bytes 1 0) 110) (not (eqb (get_or bytes 3 0) 32)) → (((old && new) && begin) && sound) ≡ goes → record_of bytes ≡ (if goes then Some (record { path = path; is_old = eqb (get_or bytes 0 0) 111; is_new = eqb (get_or bytes 1 0) 110; ask = ask; is_second = not (eqb (get_or bytes 3 0) 32) }) else None)
record_known bytes path ask old new begin sound goes h p is o n b s g =
    record_letters bytes path ask h p is
    ∙ letters_known path ask (eqb (get_or bytes 0 0) 111) (eqb (get_or bytes 0 0) 45) (eqb (get_or bytes 1 0) 110) (eqb (get_or bytes 1 0) 45) (eqb (get_or bytes 3 0) 32) (eqb (get_or bytes 3 0) 43)
    ∙ sym (ap (λ (t : Bool). if t then Some (record { path = path; is_old = eqb (get_or bytes 0 0) 111; is_new = eqb (get_or bytes 1 0) 110; ask = ask; is_second = not (eqb (get_or bytes 3 0) 32) }) else None) (sym g ∙ rw (o, n, b, s) refl))

-- the path of a record, as the part of its bytes from the fourth one to the end
pub path_part : (bytes : List ℕ) → take (length bytes - 4) (drop 4 bytes) ≡ drop 4 bytes
path_part bytes = let e : length (drop 4 bytes) ≡ length bytes - 4 = length-drop 4 bytes in take_all (length bytes - 4) (drop 4 bytes) (omega arith)
