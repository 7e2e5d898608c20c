-- The grammar and the decoder name the same keys.
use Rattle.std.proofs.Common.{◌≡◌, refl, sym, ◌∙◌, ap, subst, ℕ, suc, ◌+◌, ◌-◌, ◌*◌, ◌≤◌, ◌<◌, Bool, true, false, ◌==◌, ◌&&◌, ◌||◌, nat_le, nat_lt, List, [], ◌∷◌, ◌++◌, length, Option, Some, None, fold, arith, ◌⊎◌, inl, inr, if◌then◌else◌}
use Rattle.std.specs.Prelude.{option_map}
use Rattle.std.proofs.lemmas.Bool.{and_parts, eqb-true}
use Rattle.std.proofs.lemmas.Bool.Decides.{nat_tests}
use Rattle.std.proofs.lemmas.List.{append-nil}
use Rattle.scm_input.specs.KeyTable.{none}
use Rattle.scm_input.specs.declared.terminal.KeyCode.TheVariants as code
use Rattle.scm_input.specs.declared.terminal.KeyEvent.{KeyEvent}
use Rattle.scm_input.specs.declared.terminal.KeyModifiers.{KeyModifiers}
use Rattle.scm_input.specs.declared.terminal.TerminalEvent.TheVariants as terminal
use Rattle.scm_terminal.specs.declared.sequences.Sequence.{Sequence}
use Rattle.scm_terminal.specs.declared.sequences.SequenceKind.{SequenceKind}
use Rattle.scm_terminal.specs.declared.sequences.SequenceKind.TheVariants.{Csi, Ss3}
use Rattle.scm_terminal.specs.declared.tokens.Token.{Token}
use Rattle.scm_terminal.specs.declared.tokens.Token.TheVariants.{Event}
use Rattle.scm_terminal.specs.Bytes.{is_digit}
use Rattle.scm_terminal.specs.Sequences.{unrecognized_token, new_sequence, with_parameter, counted, modifiers_of, key_with, typed_key, lettered_key, numbered_key, token_of, token_by, tilde_token, is_mark}
use Rattle.scm_terminal.specs.Streams.{Finished, first, with_token, split_from, split}
use Rattle.scm_terminal.specs.Tearing.{IsToken}
use Rattle.scm_terminal.specs.Grammar.{Parts, written, numbers_from, are_small, key_by, lettered_by, IsKey}
use Rattle.scm_terminal.proofs.StreamLemmas.{split_says, split_nil, skip}
use Rattle.scm_terminal.proofs.GrammarLemmas.{kind_of, token_of_parts, token_is}

-- ---- what the decoder keeps of numbers

some_is : {A : Type 0} (x y : A) → Some x ≡ Some y → x ≡ y
some_is x y e = cc

-- the sequence after the numbers, of which the first goes on with the last one
shifted : List ℕ → Sequence → Sequence
shifted [] q = q
shifted (a ∷ []) q = record q { last = a }
shifted (a ∷ b ∷ ns) q = shifted (b ∷ ns) (record q { semicolons = q.semicolons + 1; first = q.second; second = a; last = 0 })

-- whatever the count of bytes and the last number were
shifted_same : (ns : List ℕ) (a : ℕ) (q : Sequence) (x y c : ℕ) → record (shifted (a ∷ ns) (record q { bytes = x; last = y })) { bytes = c } ≡ record (shifted (a ∷ ns) q) { bytes = c }
unfolding shifted
shifted_same [] a q x y c = refl
shifted_same (b ∷ ns) a q x y c =
    let r = record q { semicolons = q.semicolons + 1; first = q.second; second = a; last = 0 } in
    shifted_same ns b r x 0 c

-- the numbers are not none, and the first has no less digits
head_of : (ps : List ℕ) (n : ℕ) (ns : List ℕ) → numbers_from n ps ≡ Some ns → (m : ℕ) × ((more : List ℕ) × ((ns ≡ m ∷ more) × (n ≤ m)))
head_of [] n ns e = (n, ([], (sym (some_is (n ∷ []) ns e), omega arith)))
head_of (b ∷ bs) n ns e = at (is_digit b) (b == 59) (numbers_from 0 bs) e (head_of bs (n * 10 + (b - 48)) ns)
  where
    at : (d s : Bool) (o : Option (List ℕ)) → (if d then numbers_from (n * 10 + (b - 48)) bs else if s then option_map (λ numbers. n ∷ numbers) o else None) ≡ Some ns
        → (numbers_from (n * 10 + (b - 48)) bs ≡ Some ns → (m : ℕ) × ((more : List ℕ) × ((ns ≡ m ∷ more) × (n * 10 + (b - 48) ≤ m))))
        → (m : ℕ) × ((more : List ℕ) × ((ns ≡ m ∷ more) × (n ≤ m)))
    at true s o f more = let h = more f in let low = h.1.1.1 in (h.0, (h.1.0, (h.1.1.0, omega (arith, low))))
    at false true None f more = absurd (cc)
    at false true (Some numbers) f more = (n, (numbers, (sym (some_is (n ∷ numbers) ns f), omega arith)))
    at false false o f more = absurd (cc)

small_head : (m : ℕ) (more : List ℕ) → are_small (m ∷ more) ≡ true → m ≤ 65535
small_head m more e = let x = (and_parts (nat_le m 65535) (are_small more) e).0 in grind (arith, nat_tests)

-- what the parameter bytes make of a sequence
Reads : Sequence → List ℕ → List ℕ → Type 0
Reads q ps ns = (c : ℕ) × (fold with_parameter q ps ≡ record (shifted ns q) { bytes = c })

reading : (ps : List ℕ) (q : Sequence) (ns : List ℕ) → numbers_from q.last ps ≡ Some ns → are_small ns ≡ true → q.semicolons + length ns ≤ 3 → Reads q ps ns
unfolding Reads shifted with_parameter
reading [] q ns e s l = subst (λ (ns : List ℕ). Reads q [] ns) (some_is (q.last ∷ []) ns e) (q.bytes, refl)
reading (b ∷ bs) q ns e s l =
    at (is_digit b) refl (b == 59) refl e
    (λ f. reading bs (record (counted q) { last = q.last * 10 + (b - 48) }) ns f s l)
    (λ numbers f g h. reading bs (record (counted q) { semicolons = q.semicolons + 1; first = q.second; second = q.last; last = 0 }) numbers f g h)
  where
    digit : (is_digit b) ≡ true → q.last * 10 + (b - 48) ≤ 65535 → with_parameter q b ≡ record (counted q) { last = q.last * 10 + (b - 48) }
    digit f g = let fits : nat_le (q.last * 10 + (b - 48)) 65535 ≡ true = grind (arith, nat_tests) in rw (f, fits) refl

    cut : (is_digit b) ≡ false → (b == 59) ≡ true → q.semicolons < 2 → with_parameter q b ≡ record (counted q) { semicolons = q.semicolons + 1; first = q.second; second = q.last; last = 0 }
    cut f g h = let fits : nat_lt q.semicolons 2 ≡ true = grind (arith, nat_tests) in rw (f, g, fits) refl

    with_digit-reads : (numbers_from (q.last * 10 + (b - 48)) bs ≡ Some ns) → (is_digit b) ≡ true → Reads (record (counted q) { last = q.last * 10 + (b - 48) }) bs ns → Reads q (b ∷ bs) ns
    with_digit-reads f g r =
        let h = head_of bs (q.last * 10 + (b - 48)) ns f in
        let high = small_head h.0 h.1.0 (ap are_small (sym h.1.1.0) ∙ s) in
        let low = h.1.1.1 in
        let is = digit g (omega (arith, high, low)) in
        subst (λ (ns : List ℕ). Reads q (b ∷ bs) ns) (sym h.1.1.0)
        (let t = subst (λ (ns : List ℕ). Reads (record (counted q) { last = q.last * 10 + (b - 48) }) bs ns) h.1.1.0 r in
        (t.0, ap (λ (r : Sequence). fold with_parameter r bs) is ∙ t.1 ∙ shifted_same h.1.0 h.0 q (counted q).bytes (q.last * 10 + (b - 48)) t.0))

    at : (d : Bool) → is_digit b ≡ d → (t : Bool) → (b == 59) ≡ t
        → (if d then numbers_from (q.last * 10 + (b - 48)) bs else if t then option_map (λ numbers. q.last ∷ numbers) (numbers_from 0 bs) else None) ≡ Some ns
        → (numbers_from (q.last * 10 + (b - 48)) bs ≡ Some ns → Reads (record (counted q) { last = q.last * 10 + (b - 48) }) bs ns)
        → ((numbers : List ℕ) → numbers_from 0 bs ≡ Some numbers → are_small numbers ≡ true → (q.semicolons + 1) + length numbers ≤ 3
        → Reads (record (counted q) { semicolons = q.semicolons + 1; first = q.second; second = q.last; last = 0 }) bs numbers)
        → Reads q (b ∷ bs) ns
    at true g t h f more next = with_digit-reads f g (more f)
    at false g true h f more next = cut-reads (numbers_from 0 bs) refl f
      where
        cut-reads : (o : Option (List ℕ)) → numbers_from 0 bs ≡ o → option_map (λ numbers. q.last ∷ numbers) o ≡ Some ns → Reads q (b ∷ bs) ns
        cut-reads None k i = absurd (cc)
        cut-reads (Some numbers) k i =
            let is : ns ≡ q.last ∷ numbers = sym (some_is (q.last ∷ numbers) ns i) in
            let small = (and_parts (nat_le q.last 65535) (are_small numbers) (ap are_small (sym is) ∙ s)).1 in
            let long : length ns ≡ suc (length numbers) = ap (λ (l : List ℕ). length l) is in
            let head = head_of bs 0 numbers k in
            let some : length numbers ≡ suc (length head.1.0) = ap (λ (l : List ℕ). length l) head.1.1.0 in
            let r = next numbers k small (omega (arith, l, long)) in
            let step = cut g h (omega (arith, l, long, some)) in
            let t = subst (λ (l : List ℕ). Reads (record (counted q) { semicolons = q.semicolons + 1; first = q.second; second = q.last; last = 0 }) bs l) head.1.1.0 r in
            subst (λ (l : List ℕ). Reads q (b ∷ bs) l) (sym (is ∙ ap (λ (l : List ℕ). q.last ∷ l) head.1.1.0)) (
              t.0,
              ap (λ (r : Sequence). fold with_parameter r bs) step ∙ t.1
                  ∙ shifted_same head.1.0 head.0 (record q { semicolons = q.semicolons + 1; first = q.second; second = q.last; last = 0 }) (counted q).bytes 0 t.0,
            )
    at false g false h f more next = absurd (cc)

-- ---- the tokens

no_key : (key : KeyEvent) → unrecognized_token ≡ Event (terminal.Key key) → ⊥
no_key key e = let f : terminal.Other ≡ terminal.Key key = cc in cc

-- the number of a key
small_number : (held : KeyModifiers) (n : ℕ) (key : KeyEvent) → key_with held (numbered_key n) ≡ Event (terminal.Key key) → n ≤ 8
small_number held n key e = at (n == 1 || n == 7) refl (n == 4 || n == 8) refl (n == 5) refl (n == 6) refl e
  where
    at : (h : Bool) → (n == 1 || n == 7) ≡ h → (l : Bool) → (n == 4 || n == 8) ≡ l → (u : Bool) → (n == 5) ≡ u → (d : Bool) → (n == 6) ≡ d
        → key_with held (if h then Some code.Home else if l then Some code.End else if u then Some code.PageUp else if d then Some code.PageDown else None) ≡ Event (terminal.Key key)
        → n ≤ 8
    at true a l b u c d f g = grind (arith, nat_tests)
    at false a true b u c d f g = grind (arith, nat_tests)
    at false a false b true c d f g = grind (arith, nat_tests)
    at false a false b false c true f g = grind (arith, nat_tests)
    at false a false b false c false f g = absurd (no_key key g)

-- the letters of keys
abbrev IsLetter : ℕ → Type 0
IsLetter f = (f ≡ 65) ⊎ ((f ≡ 66) ⊎ ((f ≡ 67) ⊎ ((f ≡ 68) ⊎ ((f ≡ 72) ⊎ (f ≡ 70)))))

points : (held : KeyModifiers) (f : ℕ) (key : KeyEvent) → key_with held (lettered_key f) ≡ Event (terminal.Key key) → IsLetter f
points held f key e = at (f == 65) refl (f == 66) refl (f == 67) refl (f == 68) refl (f == 72) refl (f == 70) refl e
  where
    at : (s : Bool) → (f == 65) ≡ s → (t : Bool) → (f == 66) ≡ t → (u : Bool) → (f == 67) ≡ u → (v : Bool) → (f == 68) ≡ v
        → (x : Bool) → (f == 72) ≡ x → (y : Bool) → (f == 70) ≡ y
        → key_with held (if s then Some code.Up else if t then Some code.Down else if u then Some code.Right else if v then Some code.Left else if x then Some code.Home else if y then Some code.End else None) ≡ Event (terminal.Key key)
        → IsLetter f
    at true a t b u c v d x k y l h = inl (eqb-true f 65 a)
    at false a true b u c v d x k y l h = inr (inl (eqb-true f 66 b))
    at false a false b true c v d x k y l h = inr (inr (inl (eqb-true f 67 c)))
    at false a false b false c true d x k y l h = inr (inr (inr (inl (eqb-true f 68 d))))
    at false a false b false c false d true k y l h = inr (inr (inr (inr (inl (eqb-true f 72 k)))))
    at false a false b false c false d false k true l h = inr (inr (inr (inr (inr (eqb-true f 70 l)))))
    at false a false b false c false d false k false l h = absurd (no_key key h)

-- a property of the letters of keys
by_letter : (P : ℕ → Type 0) → P 65 → P 66 → P 67 → P 68 → P 72 → P 70 → (f : ℕ) → IsLetter f → P f
by_letter P a b c d h l f (inl e) = subst P (sym e) a
by_letter P a b c d h l f (inr (inl e)) = subst P (sym e) b
by_letter P a b c d h l f (inr (inr (inl e))) = subst P (sym e) c
by_letter P a b c d h l f (inr (inr (inr (inl e)))) = subst P (sym e) d
by_letter P a b c d h l f (inr (inr (inr (inr (inl e))))) = subst P (sym e) h
by_letter P a b c d h l f (inr (inr (inr (inr (inr e))))) = subst P (sym e) l

-- a sequence of numbers
abbrev of_numbers : SequenceKind → ℕ → ℕ → ℕ → ℕ → ℕ → Sequence
of_numbers kind bytes semicolons first second last = record { kind = kind; bytes = bytes; semicolons = semicolons; first = first; second = second; last = last }

and_false : (s : Bool) → (s && false) ≡ false
and_false true = refl
and_false false = refl

-- what a tilde makes
tilde_one : (c n : ℕ) (key : KeyEvent) → key_with none (numbered_key n) ≡ Event (terminal.Key key) → tilde_token (of_numbers Csi c 0 0 0 n) ≡ Event (terminal.Key key)
tilde_one c n key e =
    let low = small_number none n key e in
    let one : (n == 200) ≡ false = grind (arith, nat_tests) in
    let two : (n == 201) ≡ false = grind (arith, nat_tests) in
    rw (no_number 200 one, no_number 201 two) e
  where
    no_number : (number : ℕ) → (n == number) ≡ false → is_mark (of_numbers Csi c 0 0 0 n) number ≡ false
    no_number number f = ap (λ (t : Bool). ((c == 3) && true) && t) f ∙ and_false ((c == 3) && true)

no_mark : (c semicolons first second last number : ℕ) → (semicolons == 0) ≡ false → is_mark (of_numbers Csi c semicolons first second last) number ≡ false
no_mark c semicolons first second last number e =
    ap (λ (t : Bool). ((c == 3) && t) && (last == number)) e ∙ ap (λ (t : Bool). t && (last == number)) (and_false (c == 3))

tilde_two : (c n m : ℕ) (key : KeyEvent) → key_with (modifiers_of m) (numbered_key n) ≡ Event (terminal.Key key) → tilde_token (of_numbers Csi c 1 0 n m) ≡ Event (terminal.Key key)
tilde_two c n m key e = rw (no_mark c 1 0 n m 200 refl, no_mark c 1 0 n m 201 refl) e

tilde_three : (c n m k : ℕ) (key : KeyEvent) → (if n == 27 then typed_key (modifiers_of m) k else unrecognized_token) ≡ Event (terminal.Key key)
    → tilde_token (of_numbers Csi c 2 n m k) ≡ Event (terminal.Key key)
tilde_three c n m k key e = rw (no_mark c 2 n m k 200 refl, no_mark c 2 n m k 201 refl) e

-- ---- the token of numbers

-- nothing follows the final byte, and the token is the key
abbrev Good : ℕ → Token → KeyEvent → Type 0
Good f token key = ((f == 77 || f == 91) ≡ false) × (token ≡ Event (terminal.Key key))

csi_one : (c n f : ℕ) (key : KeyEvent) → key_by 91 (n ∷ []) f ≡ Event (terminal.Key key) → Good f (token_by Csi (of_numbers Csi c 0 0 0 n) f) key
csi_one c n f key e = at (f == 126) refl (f == 117) refl e
  where
    q : Sequence
    q = of_numbers Csi c 0 0 0 n

    at : (s : Bool) → (f == 126) ≡ s → (t : Bool) → (f == 117) ≡ t
        → (if s then key_with none (numbered_key n) else if t then typed_key none n else key_with (modifiers_of n) (lettered_key f)) ≡ Event (terminal.Key key) → Good f (token_by Csi q f) key
    at true a t b h = subst (λ (f : ℕ). Good f (token_by Csi q f) key) (sym (eqb-true f 126 a)) (refl, tilde_one c n key h)
    at false a true b h = subst (λ (f : ℕ). Good f (token_by Csi q f) key) (sym (eqb-true f 117 b)) (refl, h)
    at false a false b h =
        by_letter (λ (f : ℕ). key_with (modifiers_of n) (lettered_key f) ≡ Event (terminal.Key key) → Good f (token_by Csi q f) key)
        (λ h. (refl, h)) (λ h. (refl, h)) (λ h. (refl, h)) (λ h. (refl, h)) (λ h. (refl, h)) (λ h. (refl, h)) f (points (modifiers_of n) f key h) h

-- of a lettered key with a number before its modifiers
letter_two : (n m f : ℕ) (key : KeyEvent) → (if nat_le n 1 then key_with (modifiers_of m) (lettered_key f) else unrecognized_token) ≡ Event (terminal.Key key)
    → IsLetter f
letter_two n m f key e = at (nat_le n 1) e
  where
    at : (t : Bool) → (if t then key_with (modifiers_of m) (lettered_key f) else unrecognized_token) ≡ Event (terminal.Key key) → IsLetter f
    at true h = points (modifiers_of m) f key h
    at false h = absurd (no_key key h)

csi_two : (c n m f : ℕ) (key : KeyEvent) → key_by 91 (n ∷ m ∷ []) f ≡ Event (terminal.Key key) → Good f (token_by Csi (of_numbers Csi c 1 0 n m) f) key
csi_two c n m f key e = at (f == 126) refl (f == 117) refl e
  where
    q : Sequence
    q = of_numbers Csi c 1 0 n m

    at : (s : Bool) → (f == 126) ≡ s → (t : Bool) → (f == 117) ≡ t
        → (if s then key_with (modifiers_of m) (numbered_key n) else if t then typed_key (modifiers_of m) n else if nat_le n 1 then key_with (modifiers_of m) (lettered_key f) else unrecognized_token)
        ≡ Event (terminal.Key key) → Good f (token_by Csi q f) key
    at true a t b h = subst (λ (f : ℕ). Good f (token_by Csi q f) key) (sym (eqb-true f 126 a)) (refl, tilde_two c n m key h)
    at false a true b h = subst (λ (f : ℕ). Good f (token_by Csi q f) key) (sym (eqb-true f 117 b)) (refl, h)
    at false a false b h =
        by_letter (λ (f : ℕ). (if nat_le n 1 then key_with (modifiers_of m) (lettered_key f) else unrecognized_token) ≡ Event (terminal.Key key) → Good f (token_by Csi q f) key)
        (λ h. (refl, h)) (λ h. (refl, h)) (λ h. (refl, h)) (λ h. (refl, h)) (λ h. (refl, h)) (λ h. (refl, h)) f (letter_two n m f key h) h

csi_three : (c n m k f : ℕ) (key : KeyEvent) → key_by 91 (n ∷ m ∷ k ∷ []) f ≡ Event (terminal.Key key) → Good f (token_by Csi (of_numbers Csi c 2 n m k) f) key
csi_three c n m k f key e = at (f == 126) refl (f == 117) e
  where
    q : Sequence
    q = of_numbers Csi c 2 n m k

    at : (s : Bool) → (f == 126) ≡ s → (t : Bool)
        → (if s then (if n == 27 then typed_key (modifiers_of m) k else unrecognized_token) else if t then unrecognized_token else unrecognized_token) ≡ Event (terminal.Key key)
        → Good f (token_by Csi q f) key
    at true a t h = subst (λ (f : ℕ). Good f (token_by Csi q f) key) (sym (eqb-true f 126 a)) (refl, tilde_three c n m k key h)
    at false a true h = absurd (no_key key h)
    at false a false h = absurd (no_key key h)

ss3_one : (c n f : ℕ) (key : KeyEvent) → lettered_by (n ∷ []) f ≡ Event (terminal.Key key) → Good f (token_by Ss3 (of_numbers Ss3 c 0 0 0 n) f) key
ss3_one c n f key e =
    by_letter (λ (f : ℕ). key_with (modifiers_of n) (lettered_key f) ≡ Event (terminal.Key key) → Good f (token_by Ss3 (of_numbers Ss3 c 0 0 0 n) f) key)
    (λ h. (refl, h)) (λ h. (refl, h)) (λ h. (refl, h)) (λ h. (refl, h)) (λ h. (refl, h)) (λ h. (refl, h)) f (points (modifiers_of n) f key e) e

ss3_two : (c n m f : ℕ) (key : KeyEvent) → lettered_by (n ∷ m ∷ []) f ≡ Event (terminal.Key key) → Good f (token_by Ss3 (of_numbers Ss3 c 1 0 n m) f) key
ss3_two c n m f key e =
    by_letter (λ (f : ℕ). (if nat_le n 1 then key_with (modifiers_of m) (lettered_key f) else unrecognized_token) ≡ Event (terminal.Key key) → Good f (token_by Ss3 (of_numbers Ss3 c 1 0 n m) f) key)
    (λ h. (refl, h)) (λ h. (refl, h)) (λ h. (refl, h)) (λ h. (refl, h)) (λ h. (refl, h)) (λ h. (refl, h)) f (letter_two n m f key e) e

-- ---- the sequence

csi_good : (numbers : List ℕ) (f : ℕ) (key : KeyEvent) → key_by 91 numbers f ≡ Event (terminal.Key key)
    → (length numbers ≤ 3) × ((c : ℕ) → Good f (token_by Csi (record (shifted numbers (of_numbers Csi 0 0 0 0 0)) { bytes = c }) f) key)
unfolding shifted
csi_good [] f key e = absurd (at (f == 126) (f == 117) e)
  where
    at : (s t : Bool) → (if s then unrecognized_token else if t then unrecognized_token else unrecognized_token) ≡ Event (terminal.Key key) → ⊥
    at true t h = no_key key h
    at false true h = no_key key h
    at false false h = no_key key h
csi_good (n ∷ []) f key e = (omega arith, λ c. csi_one c n f key e)
csi_good (n ∷ m ∷ []) f key e = (omega arith, λ c. csi_two c n m f key e)
csi_good (n ∷ m ∷ k ∷ []) f key e = (omega arith, λ c. csi_three c n m k f key e)
csi_good (n ∷ m ∷ k ∷ l ∷ ns) f key e = absurd (at (f == 126) (f == 117) e)
  where
    at : (s t : Bool) → (if s then unrecognized_token else if t then unrecognized_token else unrecognized_token) ≡ Event (terminal.Key key) → ⊥
    at true t h = no_key key h
    at false true h = no_key key h
    at false false h = no_key key h

ss3_good : (numbers : List ℕ) (f : ℕ) (key : KeyEvent) → lettered_by numbers f ≡ Event (terminal.Key key)
    → (length numbers ≤ 3) × ((c : ℕ) → Good f (token_by Ss3 (record (shifted numbers (of_numbers Ss3 0 0 0 0 0)) { bytes = c }) f) key)
unfolding shifted
ss3_good [] f key e = absurd (no_key key e)
ss3_good (n ∷ []) f key e = (omega arith, λ c. ss3_one c n f key e)
ss3_good (n ∷ m ∷ []) f key e = (omega arith, λ c. ss3_two c n m f key e)
ss3_good (n ∷ m ∷ k ∷ ns) f key e = absurd (no_key key e)

-- the kind and the key by the opening
good : (opening : ℕ) (numbers : List ℕ) (f : ℕ) (key : KeyEvent) → key_by opening numbers f ≡ Event (terminal.Key key)
    → (length numbers ≤ 3) × ((c : ℕ) → Good f (token_by (kind_of opening) (record (shifted numbers (of_numbers (kind_of opening) 0 0 0 0 0)) { bytes = c }) f) key)
good opening numbers f key e = at (opening == 91) e
  where
    at : (s : Bool) → (if s then key_by 91 numbers f else lettered_by numbers f) ≡ Event (terminal.Key key)
        → (length numbers ≤ 3) × ((c : ℕ) → Good f (token_by (if s then Csi else Ss3) (record (shifted numbers (of_numbers (if s then Csi else Ss3) 0 0 0 0 0)) { bytes = c }) f) key)
    at true h = csi_good numbers f key h
    at false h = ss3_good numbers f key h

kind_stays : (ns : List ℕ) (q : Sequence) → (shifted ns q).kind ≡ q.kind
unfolding shifted
kind_stays [] q = refl
kind_stays (a ∷ []) q = refl
kind_stays (a ∷ b ∷ ns) q = kind_stays (b ∷ ns) (record q { semicolons = q.semicolons + 1; first = q.second; second = a; last = 0 })

token_kind : (q : Sequence) (k : SequenceKind) (f : ℕ) → q.kind ≡ k → token_of q f ≡ token_by k q f
unfolding token_of
token_kind q k f e = ap (λ (k : SequenceKind). token_by k q f) e

new_is : (k : SequenceKind) → new_sequence k ≡ of_numbers k 0 0 0 0 0
unfolding new_sequence
new_is k = refl

read_numbers : (k : SequenceKind) (ps ns : List ℕ) → numbers_from 0 ps ≡ Some ns → are_small ns ≡ true → length ns ≤ 3
    → (c : ℕ) × (fold with_parameter (new_sequence k) ps ≡ record (shifted ns (of_numbers k 0 0 0 0 0)) { bytes = c })
unfolding Reads
read_numbers k ps ns e s l =
    let r = reading ps (of_numbers k 0 0 0 0 0) ns e s (omega (arith, l)) in
    (r.0, ap (λ (q : Sequence). fold with_parameter q ps) (new_is k) ∙ r.1)

whole_split : (bs : List ℕ) (token : Token) (n : ℕ) → n ≡ length bs → first (27 ∷ bs) ≡ Finished token n → split (27 ∷ bs) ≡ record { tokens = token ∷ []; rest = [] }
whole_split bs token n e f =
    split_says 27 bs token n f
    ∙ ap (λ (k : ℕ). with_token token (split_from k bs)) e
    ∙ ap (λ (l : List ℕ). with_token token (split_from (length bs) l)) (sym (append-nil bs))
    ∙ ap (with_token token) (skip bs []) ∙ ap (with_token token) split_nil

pub keys_agree : (p : Parts) (key : KeyEvent) → IsKey p key → IsToken (written p) (terminal.Key key)
keys_agree p key is =
    let k = kind_of p.opening in
    let g = good p.opening is.numbers p.final key is.key_is in
    let r = read_numbers k p.parameters is.numbers is.numbers_are is.small g.0 in
    let q = record (shifted is.numbers (of_numbers k 0 0 0 0 0)) { bytes = r.0 } in
    let same : token_of_parts p ≡ Event (terminal.Key key) =
    ap (λ (l : List ℕ). token_of (fold with_parameter (new_sequence k) l) p.final) (ap (λ (l : List ℕ). p.parameters ++ l) is.plain ∙ append-nil p.parameters)
    ∙ ap (λ (q : Sequence). token_of q p.final) r.1
    ∙ token_kind q k p.final (kind_stays is.numbers (of_numbers k 0 0 0 0 0))
    ∙ (g.1 r.0).1 in
    let bs = p.opening ∷ (p.parameters ++ (p.intermediates ++ (p.final ∷ []))) in
    let long : length (written p) ≡ suc (length bs) = refl in
    whole_split bs (Event (terminal.Key key)) (length (written p) - 1) (omega (arith, long))
    (ap first (sym (append-nil (27 ∷ bs))) ∙ token_is p is.well_formed (g.1 r.0).0 [] ∙ ap (λ (t : Token). Finished t (length (written p) - 1)) same)
