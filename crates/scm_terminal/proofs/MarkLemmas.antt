-- A token that ends a paste has exactly the bytes of the mark.
use Rattle.std.proofs.Common.{◌≡◌, ℕ, zero, suc, ◌+◌, ◌-◌, ◌*◌, ◌<◌, ◌≤◌, ◌==◌, nat_le, nat_lt, ◌&&◌, ◌||◌, Bool, true, false, List, [], ◌∷◌, ◌++◌, refl, sym, ap, ap₂, subst, ◌∙◌, arith, Option, Some, None, ◌⊎◌, inl, inr, ⊎_elim}
use Rattle.std.specs.Prelude.{if◌then◌else◌, fold}
use Rattle.std.proofs.lemmas.Bool.{and_parts}
use Rattle.std.proofs.lemmas.Bool.Decides.{nat_tests}
use Rattle.std.proofs.Math.Utf8.{scalar}
use Rattle.scm_input.specs.declared.terminal.KeyCode.TheVariants as key
use Rattle.scm_input.specs.declared.terminal.KeyEventKind.TheVariants.{Press}
use Rattle.scm_input.specs.declared.terminal.TerminalEvent.{TerminalEvent}
use Rattle.scm_input.specs.declared.terminal.TerminalEvent.TheVariants as terminal
use Rattle.scm_terminal.specs.Mouse.{mouse_event}
use Rattle.scm_terminal.specs.declared.characters.Character.{Character}
use Rattle.scm_terminal.specs.declared.characters.CharacterProgress.{CharacterProgress}
use Rattle.scm_terminal.specs.declared.characters.CharacterProgress.TheVariants.{Whole, Part}
use Rattle.scm_terminal.specs.declared.sequences.Sequence.{Sequence}
use Rattle.scm_terminal.specs.declared.sequences.SequenceKind.{SequenceKind}
use Rattle.scm_terminal.specs.declared.sequences.SequenceKind.TheVariants.{Csi, Ss3, Mouse, Unknown}
use Rattle.scm_terminal.specs.declared.tokens.Token.{Token}
use Rattle.scm_terminal.specs.declared.tokens.Token.TheVariants.{Event, PasteBegins, PasteEnds}
use Rattle.scm_terminal.specs.Bytes.{begins_control_string, is_between, is_continuation, is_final, is_parameter, is_digit}
use Rattle.scm_terminal.specs.ByteKeys.{byte_key}
use Rattle.scm_terminal.specs.Sequences.{key_modifiers, modifiers_of, unrecognized_token, new_sequence, with_parameter, token_of, token_by, key_token, control_numbered_token, typed_token, old_mouse_token, lettered_token, key_with, typed_key, lettered_key, numbered_key, key_number, is_mark, is_blank, is_csi, counted, with_digit, with_semicolon, trailing_bytes}
use Rattle.scm_terminal.specs.Characters.{char_token, part, bits_with, lead_character, with_continuation}
use Rattle.scm_terminal.specs.Streams.{Split, with_token, Found, Unfinished, Finished, character, after_lead, after_start, trailing, sequence, control_string, escape_key, after_escape, first, split_from, token_events, pasted_after, AreOther, StayPasted, HasMark, paste_end}
use Rattle.scm_input.specs.declared.terminal.KeyCode.{KeyCode}
use Rattle.scm_input.specs.declared.terminal.KeyModifiers.{KeyModifiers}
use Rattle.scm_input.specs.KeyTable.{shift, control}

-- whether a token ends a paste
abbrev pub is_end : Token → Bool
is_end (Event event) = false
is_end PasteBegins = false
is_end PasteEnds = true

abbrev pub ends : Found → Bool
ends Unfinished = false
ends (Finished token n) = is_end token

-- ---- tokens that are no sequences

event-plain : (t : Bool) (event : TerminalEvent) → is_end (if t then Event event else unrecognized_token) ≡ false
event-plain true event = refl
event-plain false event = refl

char-plain : (alt : Bool) (least code : ℕ) → is_end (char_token alt least code) ≡ false
char-plain alt least code = event-plain (nat_le least code && scalar code) (terminal.Key (record {
  code = key.Char code;
  modifiers = record { shift = false; control = false; alt = alt; other = false };
  kind = Press;
}))

whole-plain : (c : Character) (b : ℕ) (token : Token) → with_continuation c b ≡ Whole token → is_end token ≡ false
unfolding with_continuation
whole-plain c b token e = at (nat_le c.left 1) (nat_le (bits_with c b) 65535) e
  where
    same : (x : Token) → is_end x ≡ false → Whole x ≡ Whole token → is_end token ≡ false
    same x h f = let is : x ≡ token = cc in ap (λ (t : Token). is_end t) (sym is) ∙ h

    at : (p q : Bool) → (if p then Whole (char_token c.alt c.least (bits_with c b)) else if q then Part (part c.alt (c.left - 1) c.least (bits_with c b)) else Whole unrecognized_token) ≡ Whole token → is_end token ≡ false
    at true q f = same (char_token c.alt c.least (bits_with c b)) (char-plain c.alt c.least (bits_with c b)) f
    at false true f = absurd (cc)
    at false false f = same unrecognized_token refl f

character-plain : (c : Character) (n : ℕ) (bs : List ℕ) → ends (character c n bs) ≡ false
character-plain c n [] = refl
character-plain c n (b ∷ bs) = at (is_continuation b) (with_continuation c b) refl (λ d. character-plain d (n + 1) bs)
  where
    at : (t : Bool) (p : CharacterProgress) → with_continuation c b ≡ p → ((d : Character) → ends (character d (n + 1) bs) ≡ false)
        → ends (if t then (elim p [
          | Whole token ↦ Finished token (n + 1)
          | Part d ↦ character d (n + 1) bs
        ]) else Finished unrecognized_token n) ≡ false
    at true (Whole token) e more = whole-plain c b token e
    at true (Part d) e more = more d
    at false p e more = refl

lead-plain : (c : Option Character) (n : ℕ) (bs : List ℕ) → ends (after_lead c n bs) ≡ false
lead-plain None n bs = refl
lead-plain (Some c) n bs = character-plain c n bs

start-plain : (alt : Bool) (n b : ℕ) (bs : List ℕ) → ends (after_start alt n b bs) ≡ false
start-plain alt n b bs = at (nat_lt b 128)
  where
    at : (t : Bool) → ends (if t then Finished (Event (terminal.Key (byte_key alt b))) n else after_lead (lead_character alt b) n bs) ≡ false
    at true = refl
    at false = lead-plain (lead_character alt b) n bs

trailing-plain : (left n : ℕ) (bs : List ℕ) → ends (trailing left n bs) ≡ false
trailing-plain left n [] = refl
trailing-plain left n (b ∷ bs) = at (nat_lt b 32) (nat_le left 1) (trailing-plain (left - 1) (n + 1) bs)
  where
    at : (t s : Bool) → ends (trailing (left - 1) (n + 1) bs) ≡ false
        → ends (if t then Finished unrecognized_token n else if s then Finished unrecognized_token (n + 1) else trailing (left - 1) (n + 1) bs) ≡ false
    at true s more = refl
    at false true more = refl
    at false false more = more

control-plain : (n : ℕ) (bs : List ℕ) → ends (control_string n bs) ≡ false
control-plain n [] = refl
control-plain n (b ∷ bs) = at (b == 7) (nat_lt b 32) (control-plain (n + 1) bs)
  where
    at : (t s : Bool) → ends (control_string (n + 1) bs) ≡ false
        → ends (if t then Finished unrecognized_token (n + 1) else if s then Finished unrecognized_token n else control_string (n + 1) bs) ≡ false
    at true s more = refl
    at false true more = refl
    at false false more = more

-- ---- sequences

with-plain : (held : KeyModifiers) (key : Option KeyCode) → is_end (key_with held key) ≡ false
with-plain held None = refl
with-plain held (Some code) = refl

if-plain : (t : Bool) (x y : Token) → is_end x ≡ false → is_end y ≡ false → is_end (if t then x else y) ≡ false
if-plain true x y p q = p
if-plain false x y p q = q

typed-plain : (held : KeyModifiers) (code : ℕ) → is_end (typed_key held code) ≡ false
typed-plain held code =
    if-plain (code == 27) _ _ refl
    (if-plain (code == 9 || code == 13) _ _ refl
    (if-plain (is_between 32 126 code) _ _ refl refl))

lettered-plain : (held : KeyModifiers) (q : Sequence) (last : ℕ) → is_end (lettered_token held q last) ≡ false
lettered-plain held q last =
    if-plain (is_between 97 100 last) _ _
    (if-plain (q.bytes == 0) _ _ (with-plain held (lettered_key (last - 32))) refl)
    (if-plain (nat_lt q.semicolons 2 && nat_le q.second 1) _ _ (with-plain (modifiers_of q.last) (lettered_key last)) refl)

-- what a final byte makes that is no tilde
final-token : Sequence → ℕ → Token
final-token q b =
    if b == 94 then control_numbered_token q
    else if b == 117 then typed_token q
    else if b == 77 then old_mouse_token q
    else lettered_token shift q b

final-plain : (q : Sequence) (b : ℕ) → is_end (final-token q b) ≡ false
unfolding final-token
final-plain q b =
    if-plain (b == 94) _ _ (if-plain (q.semicolons == 0) _ _ (with-plain control (numbered_key q.last)) refl)
    (if-plain (b == 117) _ _ (if-plain (nat_lt q.semicolons 2) _ _ (typed-plain (key_modifiers q) (key_number q)) refl)
    (if-plain (b == 77) _ _ (event-plain (q.semicolons == 2 && nat_le 32 q.first) (mouse_event true (q.first - 32) q.second q.last))
    (lettered-plain shift q b)))

-- what a tilde makes that is no mark
tilde-rest : Sequence → Token
tilde-rest q =
    if nat_lt q.semicolons 2 then key_with (key_modifiers q) (numbered_key (key_number q))
    else if q.first == 27 then typed_key (modifiers_of q.second) q.last
    else unrecognized_token

tilde-plain : (q : Sequence) → is_end (tilde-rest q) ≡ false
unfolding tilde-rest
tilde-plain q =
    if-plain (nat_lt q.semicolons 2) _ _ (with-plain (key_modifiers q) (numbered_key (key_number q)))
    (if-plain (q.first == 27) _ _ (typed-plain (modifiers_of q.second) q.last) refl)

key-is : (q : Sequence) (b : ℕ)
    → key_token q b ≡ (if b == 126 then (if is_mark q 200 then PasteBegins else if is_mark q 201 then PasteEnds else tilde-rest q) else final-token q b)
unfolding final-token tilde-rest
key-is q b = refl

-- a sequence that can end no paste: no control sequence, one with a semicolon, or one of four bytes
pub data IsSpoilt (q : Sequence) : Type 0 where
  other_kind : is_csi q.kind ≡ false → IsSpoilt q
  divided : 0 < q.semicolons → IsSpoilt q
  long : 4 ≤ q.bytes → IsSpoilt q

mark-not : (q : Sequence) (number : ℕ) → IsSpoilt q → is_csi q.kind ≡ true → is_mark q number ≡ false
mark-not q number (other_kind h) csi = absurd (cc)
mark-not q number (divided h) csi = let not : (q.semicolons == 0) ≡ false = grind (arith, nat_tests) in at (q.bytes == 3) (q.semicolons == 0) (q.last == number) not
  where
    at : (a b c : Bool) → b ≡ false → ((a && b) && c) ≡ false
    at true true c e = absurd (cc)
    at true false c e = refl
    at false b c e = refl
mark-not q number (long h) csi = let not : (q.bytes == 3) ≡ false = grind (arith, nat_tests) in rw not refl

key-plain : (q : Sequence) (b : ℕ) → is_mark q 201 ≡ false → is_end (key_token q b) ≡ false
key-plain q b h = ap is_end (key-is q b) ∙ at (b == 126) (is_mark q 200) (is_mark q 201) h
  where
    at : (x y z : Bool) → z ≡ false
        → is_end (if x then (if y then PasteBegins else if z then PasteEnds else tilde-rest q) else final-token q b) ≡ false
    at true true z e = refl
    at true false true e = absurd (cc)
    at true false false e = tilde-plain q
    at false y z e = final-plain q b

token-plain : (q : Sequence) (b : ℕ) → IsSpoilt q → is_end (token_of q b) ≡ false
unfolding token_of
token-plain q b s = at q.kind refl
  where
    at : (k : SequenceKind) → q.kind ≡ k → is_end (token_by k q b) ≡ false
    at Csi e = key-plain q b (mark-not q 201 s (ap is_csi e))
    at Ss3 e = lettered-plain control q b
    at Mouse e = event-plain (q.semicolons == 2 && (b == 77 || b == 109)) (mouse_event (b == 77) q.first q.second q.last)
    at Unknown e = refl

counted-long : (q : Sequence) → 4 ≤ q.bytes → 4 ≤ (counted q).bytes
counted-long q h = let not : nat_lt q.bytes 4 ≡ false = grind (arith, nat_tests) in rw not h

spoilt-digit : (q : Sequence) (d : ℕ) → IsSpoilt q → IsSpoilt (with_digit (counted q) d)
spoilt-digit q d s = at (nat_le (q.last * 10 + d) 65535) s
  where
    at : (t : Bool) → IsSpoilt q → IsSpoilt (if t then record (counted q) { last = q.last * 10 + d } else record (counted q) { kind = Unknown })
    at true (other_kind h) = other_kind h
    at true (divided h) = divided h
    at true (long h) = long (counted-long q h)
    at false h = other_kind refl

spoilt-semicolon : (q : Sequence) → IsSpoilt (with_semicolon q)
spoilt-semicolon q = at (nat_lt q.semicolons 2)
  where
    at : (t : Bool) → IsSpoilt (if t then record q {
      semicolons = q.semicolons + 1;
      first = q.second;
      second = q.last;
      last = 0;
    } else record q { kind = Unknown })
    at true = divided (omega arith)
    at false = other_kind refl

spoilt-more : (q : Sequence) (b : ℕ) → IsSpoilt q → IsSpoilt (with_parameter q b)
unfolding with_parameter
spoilt-more q b s = at (is_digit b) (b == 59) (b == 60 && is_blank (counted q))
  where
    at : (d e m : Bool)
        → IsSpoilt (if d then with_digit (counted q) (b - 48) else if e then with_semicolon (counted q) else if m then record (counted q) { kind = Mouse } else record (counted q) { kind = Unknown })
    at true e m = spoilt-digit q (b - 48) s
    at false true m = spoilt-semicolon (counted q)
    at false false true = other_kind refl
    at false false false = other_kind refl

spoilt-plain : (q : Sequence) (n : ℕ) (bs : List ℕ) → IsSpoilt q → ends (sequence q n bs) ≡ false
spoilt-plain q n [] s = refl
spoilt-plain q n (b ∷ bs) s = at (is_parameter b) (is_final b) (trailing_bytes q b == 0) (spoilt-plain (with_parameter q b) (n + 1) bs (spoilt-more q b s))
  where
    at : (p f t : Bool) → ends (sequence (with_parameter q b) (n + 1) bs) ≡ false
        → ends (if p then sequence (with_parameter q b) (n + 1) bs else if f then (if t then Finished (token_of q b) (n + 1) else trailing (trailing_bytes q b) (n + 1) bs) else Finished unrecognized_token n) ≡ false
    at true f t more = more
    at false true true more = token-plain q b s
    at false true false more = trailing-plain (trailing_bytes q b) (n + 1) bs
    at false false t more = refl

-- ---- a sequence of digits alone

-- after `i` digits of the value `v`
abbrev digits : ℕ → ℕ → Sequence
digits i v = record { kind = Csi; bytes = i; semicolons = 0; first = 0; second = 0; last = v }

token-mark : (i v b : ℕ) → is_end (token_of (digits i v) b) ≡ true → (b ≡ 126) × ((i ≡ 3) × (v ≡ 201))
unfolding token_of
token-mark i v b e = at (b == 126) refl (is_mark (digits i v) 200) (is_mark (digits i v) 201) refl (ap is_end (sym (key-is (digits i v) b)) ∙ e)
  where
    at : (x : Bool) → (b == 126) ≡ x → (y z : Bool) → is_mark (digits i v) 201 ≡ z
        → is_end (if x then (if y then PasteBegins else if z then PasteEnds else tilde-rest (digits i v)) else final-token (digits i v) b) ≡ true
        → (b ≡ 126) × ((i ≡ 3) × (v ≡ 201))
    at true h true z f g = absurd (cc)
    at true h false true f g =
        let parts = and_parts ((i == 3) && true) (v == 201) f in
        let more = and_parts (i == 3) true parts.0 in
        let last : b ≡ 126 = grind (arith, nat_tests) in
        let count : i ≡ 3 = let m = more.0 in grind (arith, nat_tests) in
        let value : v ≡ 201 = let m = parts.1 in grind (arith, nat_tests) in
        (last, (count, value))
    at true h false false f g = let not = tilde-plain (digits i v) in absurd (cc)
    at false h y z f g = let not = final-plain (digits i v) b in absurd (cc)

with-one-digit : (i v b : ℕ) → i < 4 → v ≤ 999 → b ≤ 57 → with_digit (counted (digits i v)) (b - 48) ≡ digits (i + 1) (v * 10 + (b - 48))
with-one-digit i v b h g f =
    let fits : nat_le (v * 10 + (b - 48)) 65535 ≡ true = let low : v * 10 + (b - 48) ≤ 65535 = omega arith in grind (arith, nat_tests) in
    let below : nat_lt i 4 ≡ true = grind (arith, nat_tests) in
    rw (fits, below) refl

parameter-step : (i v n b : ℕ) (bs : List ℕ) → i < 4 → v ≤ 999 → ends (sequence (with_parameter (digits i v) b) (n + 1) bs) ≡ true
    → (48 ≤ b) × ((b ≤ 57) × (ends (sequence (digits (i + 1) (v * 10 + (b - 48))) (n + 1) bs) ≡ true))
unfolding with_parameter
parameter-step i v n b bs h g e = at (is_digit b) refl (b == 59) (b == 60 && is_blank (counted (digits i v))) e
  where
    at : (d : Bool) → is_digit b ≡ d → (s m : Bool)
        → ends (sequence (if d then with_digit (counted (digits i v)) (b - 48) else if s then with_semicolon (counted (digits i v)) else if m then record (counted (digits i v)) { kind = Mouse } else record (counted (digits i v)) { kind = Unknown }) (n + 1) bs) ≡ true
        → (48 ≤ b) × ((b ≤ 57) × (ends (sequence (digits (i + 1) (v * 10 + (b - 48))) (n + 1) bs) ≡ true))
    at true is s m f =
        let parts = and_parts (nat_le 48 b) (nat_le b 57) is in
        let low : 48 ≤ b = let x = parts.0 in grind (arith, nat_tests) in
        let high : b ≤ 57 = let x = parts.1 in grind (arith, nat_tests) in
        (low, (high, subst (λ (q : Sequence). ends (sequence q (n + 1) bs) ≡ true) (with-one-digit i v b h g high) f))
    at false is true m f = let not = spoilt-plain (with_semicolon (counted (digits i v))) (n + 1) bs (spoilt-semicolon (counted (digits i v))) in absurd (cc)
    at false is false true f = let not = spoilt-plain (record (counted (digits i v)) { kind = Mouse }) (n + 1) bs (other_kind refl) in absurd (cc)
    at false is false false f = let not = spoilt-plain (record (counted (digits i v)) { kind = Unknown }) (n + 1) bs (other_kind refl) in absurd (cc)

sequence-step : (i v n b : ℕ) (bs : List ℕ) → i < 4 → v ≤ 999 → ends (sequence (digits i v) n (b ∷ bs)) ≡ true
    → ((b ≡ 126) × ((i ≡ 3) × (v ≡ 201))) ⊎ ((48 ≤ b) × ((b ≤ 57) × (ends (sequence (digits (i + 1) (v * 10 + (b - 48))) (n + 1) bs) ≡ true)))
sequence-step i v n b bs h g e = at (is_parameter b) (is_final b) (trailing_bytes (digits i v) b == 0) e
  where
    at : (p f t : Bool)
        → ends (if p then sequence (with_parameter (digits i v) b) (n + 1) bs else if f then (if t then Finished (token_of (digits i v) b) (n + 1) else trailing (trailing_bytes (digits i v) b) (n + 1) bs) else Finished unrecognized_token n) ≡ true
        → ((b ≡ 126) × ((i ≡ 3) × (v ≡ 201))) ⊎ ((48 ≤ b) × ((b ≤ 57) × (ends (sequence (digits (i + 1) (v * 10 + (b - 48))) (n + 1) bs) ≡ true)))
    at true f t x = inr (parameter-step i v n b bs h g x)
    at false true true x = inl (token-mark i v b x)
    at false true false x = let not = trailing-plain (trailing_bytes (digits i v) b) (n + 1) bs in absurd (cc)
    at false false t x = absurd (cc)

-- the rest of the mark after three digits
fourth : (v n : ℕ) (bs : List ℕ) → v ≤ 999 → ends (sequence (digits 3 v) n bs) ≡ true → (v ≡ 201) × ((after : List ℕ) × (bs ≡ 126 ∷ after))
fourth v n [] g e = absurd (cc)
fourth v n (b ∷ bs) g e =
    ⊎_elim (λ (l : (b ≡ 126) × ((3 ≡ 3) × (v ≡ 201))). (l.1.1, (bs, ap (λ (x : ℕ). x ∷ bs) l.0)))
    (λ (r : (48 ≤ b) × ((b ≤ 57) × (ends (sequence (digits 4 (v * 10 + (b - 48))) (n + 1) bs) ≡ true))).
    let not = spoilt-plain (digits 4 (v * 10 + (b - 48))) (n + 1) bs (long (omega arith)) in
    let is = r.1.1 in absurd (cc))
    (sequence-step 3 v n b bs (omega arith) g e)

third : (v n : ℕ) (bs : List ℕ) → v ≤ 99 → ends (sequence (digits 2 v) n bs) ≡ true
    → (d : ℕ) × ((d ≤ 9) × ((v * 10 + d ≡ 201) × ((after : List ℕ) × (bs ≡ (48 + d) ∷ (126 ∷ after)))))
third v n [] g e = absurd (cc)
third v n (b ∷ bs) g e =
    ⊎_elim (λ (l : (b ≡ 126) × ((2 ≡ 3) × (v ≡ 201))). let no = l.1.0 in absurd (omega arith))
    (λ (r : (48 ≤ b) × ((b ≤ 57) × (ends (sequence (digits 3 (v * 10 + (b - 48))) (n + 1) bs) ≡ true))).
    let low = r.0 in let high = r.1.0 in
    let more = fourth (v * 10 + (b - 48)) (n + 1) bs (omega (arith, low, high, g)) r.1.1 in
    let same : b ≡ 48 + (b - 48) = omega (arith, low) in
    (b - 48, (omega (arith, high), (more.0, (more.1.0, ap₂ (λ (x : ℕ) (t : List ℕ). x ∷ t) same more.1.1)))))
    (sequence-step 2 v n b bs (omega arith) (omega arith) e)

second : (v n : ℕ) (bs : List ℕ) → v ≤ 9 → ends (sequence (digits 1 v) n bs) ≡ true
    → (c : ℕ) × ((d : ℕ) × ((c ≤ 9) × ((d ≤ 9) × (((v * 10 + c) * 10 + d ≡ 201) × ((after : List ℕ) × (bs ≡ (48 + c) ∷ ((48 + d) ∷ (126 ∷ after))))))))
second v n [] g e = absurd (cc)
second v n (b ∷ bs) g e =
    ⊎_elim (λ (l : (b ≡ 126) × ((1 ≡ 3) × (v ≡ 201))). let no = l.1.0 in absurd (omega arith))
    (λ (r : (48 ≤ b) × ((b ≤ 57) × (ends (sequence (digits 2 (v * 10 + (b - 48))) (n + 1) bs) ≡ true))).
    let low = r.0 in let high = r.1.0 in
    let more = third (v * 10 + (b - 48)) (n + 1) bs (omega (arith, low, high, g)) r.1.1 in
    let same : b ≡ 48 + (b - 48) = omega (arith, low) in
    (b - 48, (more.0, (omega (arith, high), (more.1.0, (more.1.1.0, (more.1.1.1.0, ap₂ (λ (x : ℕ) (t : List ℕ). x ∷ t) same more.1.1.1.1)))))))
    (sequence-step 1 v n b bs (omega arith) (omega arith) e)

mark-exact : (n : ℕ) (bs : List ℕ) → ends (sequence (digits 0 0) n bs) ≡ true → (after : List ℕ) × (bs ≡ 50 ∷ (48 ∷ (49 ∷ (126 ∷ after))))
mark-exact n [] e = absurd (cc)
mark-exact n (b ∷ bs) e =
    ⊎_elim (λ (l : (b ≡ 126) × ((0 ≡ 3) × (0 ≡ 201))). let no = l.1.0 in absurd (omega arith))
    (λ (r : (48 ≤ b) × ((b ≤ 57) × (ends (sequence (digits 1 (0 * 10 + (b - 48))) (n + 1) bs) ≡ true))).
    let low = r.0 in let high = r.1.0 in
    let more = second (0 * 10 + (b - 48)) (n + 1) bs (omega (arith, low, high)) r.1.1 in
    let c = more.0 in
    let d = more.1.0 in
    let c_small = more.1.1.0 in
    let d_small = more.1.1.1.0 in
    let sum = more.1.1.1.1.0 in
    let one : b ≡ 50 = omega (arith, low, high, c_small, d_small, sum) in
    let two : 48 + c ≡ 48 = omega (arith, low, high, c_small, d_small, sum) in
    let three : 48 + d ≡ 49 = omega (arith, low, high, c_small, d_small, sum) in
    let after = more.1.1.1.1.1.0 in
    (after, ap₂ (λ (x : ℕ) (t : List ℕ). x ∷ t) one (more.1.1.1.1.1.1 ∙ ap₂ (λ (x y : ℕ). x ∷ (y ∷ (126 ∷ after))) two three)))
    (sequence-step 0 0 n b bs (omega arith) (omega arith) e)

escape-mark : (bs : List ℕ) → ends (after_escape 0 bs) ≡ true → (after : List ℕ) × (bs ≡ 91 ∷ (50 ∷ (48 ∷ (49 ∷ (126 ∷ after)))))
unfolding new_sequence
escape-mark [] e = absurd (cc)
escape-mark (b ∷ bs) e = at (b == 27) (b == 91) refl (b == 79) (b == 92) (begins_control_string b) e
  where
    at : (v w : Bool) → (b == 91) ≡ w → (x y z : Bool)
        → ends (if v then Finished escape_key 0 else if w then sequence (new_sequence Csi) 1 bs else if x then sequence (new_sequence Ss3) 1 bs
        else if y then Finished unrecognized_token 1 else if z then control_string 1 bs else after_start true 1 b bs) ≡ true
        → (after : List ℕ) × (b ∷ bs ≡ 91 ∷ (50 ∷ (48 ∷ (49 ∷ (126 ∷ after)))))
    at true w is x y z f = absurd (cc)
    at false true is x y z f =
        let first : b ≡ 91 = grind (arith, nat_tests) in
        let more = mark-exact 1 bs f in
        (more.0, ap₂ (λ (c : ℕ) (t : List ℕ). c ∷ t) first more.1)
    at false false is true y z f = let not = spoilt-plain (new_sequence Ss3) 1 bs (other_kind refl) in absurd (cc)
    at false false is false true z f = absurd (cc)
    at false false is false false true f = let not = control-plain 1 bs in absurd (cc)
    at false false is false false false f = let not = start-plain true 1 b bs in absurd (cc)

first-mark : (b : ℕ) (bs : List ℕ) → ends (first (b ∷ bs)) ≡ true → (after : List ℕ) × (b ∷ bs ≡ paste_end ++ after)
unfolding first
first-mark b bs e = at (b == 27) refl e
  where
    at : (t : Bool) → (b == 27) ≡ t → ends (if t then after_escape 0 bs else after_start false 0 b bs) ≡ true → (after : List ℕ) × (b ∷ bs ≡ paste_end ++ after)
    at true is f =
        let escape : b ≡ 27 = grind (arith, nat_tests) in
        let more = escape-mark bs f in
        (more.0, ap₂ (λ (c : ℕ) (t : List ℕ). c ∷ t) escape more.1)
    at false is f = let not = start-plain false 0 b bs in absurd (cc)

-- ---- all tokens

abbrev Held : List Token → Type 0
Held tokens = AreOther (token_events true tokens) × (fold pasted_after true tokens ≡ true)

mark-later : (b : ℕ) (bs : List ℕ) → HasMark bs → HasMark (b ∷ bs)
mark-later b bs m = (b ∷ m.0, (m.1.0, ap (λ (t : List ℕ). b ∷ t) m.1.1))

held : (k : ℕ) (bs : List ℕ) → HasMark bs ⊎ Held (split_from k bs).tokens
unfolding split_from
held k [] = inr (tt, refl)
held (suc k) (b ∷ bs) = ⊎_elim (λ (m : HasMark bs). inl (mark-later b bs m)) (λ (h : Held (split_from k bs).tokens). inr h) (held k bs)
held zero (b ∷ bs) = at (first (b ∷ bs)) refl (λ n. held n bs)
  where
    at : (f : Found) → first (b ∷ bs) ≡ f → ((n : ℕ) → HasMark bs ⊎ Held (split_from n bs).tokens)
        → HasMark (b ∷ bs) ⊎ (let s : Split = elim f [
          | Unfinished ↦ record { tokens = []; rest = b ∷ bs }
          | Finished token n ↦ with_token token (split_from n bs)
        ] in Held s.tokens)
    at Unfinished e more = inr (tt, refl)
    at (Finished (Event event) n) e more = ⊎_elim (λ (m : HasMark bs). inl (mark-later b bs m)) (λ (h : Held (split_from n bs).tokens). inr ((refl, h.0), h.1)) (more n)
    at (Finished PasteBegins n) e more = ⊎_elim (λ (m : HasMark bs). inl (mark-later b bs m)) (λ (h : Held (split_from n bs).tokens). inr ((refl, h.0), h.1)) (more n)
    at (Finished PasteEnds n) e more = let mark = first-mark b bs (ap ends e) in inl ([], (mark.0, mark.1))

pub stay_pasted : (bytes : List ℕ) → (HasMark bytes → ⊥) → StayPasted bytes
stay_pasted bytes unmarked =
    ⊎_elim (λ (m : HasMark bytes). absurd (unmarked m)) (λ (h : Held (split_from 0 bytes).tokens). record { quiet = h.0; goes_on = h.1 }) (held 0 bytes)
