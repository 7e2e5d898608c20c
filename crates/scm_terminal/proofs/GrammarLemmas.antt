-- The grammar and the decoder agree.
use Rattle.std.proofs.Common.{◌≡◌, refl, sym, ◌∙◌, ap, subst, ℕ, suc, ◌+◌, ◌-◌, ◌*◌, ◌≤◌, ◌<◌, Bool, true, false, ◌==◌, ◌&&◌, ◌||◌, nat_le, nat_lt, List, [], ◌∷◌, ◌++◌, length, Some, append_assoc, fold, codes, arith, ◌⊎◌, inl, inr, ⊎_elim, if◌then◌else◌}
use Rattle.std.proofs.lemmas.Bool.{and_parts, eqb-true}
use Rattle.std.proofs.lemmas.Bool.Decides.{nat_tests}
use Rattle.std.proofs.lemmas.List.{length-append}
use Rattle.scm_input.specs.KeyTable.{KeyRow}
use Rattle.scm_terminal.specs.declared.sequences.Sequence.{Sequence}
use Rattle.scm_terminal.specs.declared.sequences.SequenceKind.{SequenceKind}
use Rattle.scm_terminal.specs.declared.sequences.SequenceKind.TheVariants.{Csi, Ss3, Mouse, Unknown}
use Rattle.scm_terminal.specs.declared.tokens.Token.{Token}
use Rattle.scm_terminal.specs.declared.tokens.Token.TheVariants.{Event}
use Rattle.scm_terminal.specs.Bytes.{is_parameter, is_final, is_between, is_digit, begins_sequence}
use Rattle.scm_terminal.specs.Sequences.{unrecognized_token, new_sequence, with_parameter, as_kind, counted, is_blank, token_of, token_by, trailing_bytes}
use Rattle.scm_terminal.specs.Streams.{Found, Unfinished, Finished, sequence, trailing, first}
use Rattle.scm_terminal.specs.Silences.{press}
use Rattle.scm_terminal.specs.Grammar.{Parts, written, are_all, is_well_formed, IsReadAs, AreRead, IsOneToken, may_be_followed, BeginsWithParts, numbers_from, are_small, key_by}

-- ---- the keys of the table

abbrev parts : List ℕ → ℕ → Parts
parts ps final = record { opening = 91; parameters = ps; intermediates = []; final = final }

keyed : {row : KeyRow} {bytes : List ℕ} (ps : List ℕ) (final : ℕ) (numbers : List ℕ) → is_well_formed (parts ps final) ≡ true → written (parts ps final) ≡ bytes
    → numbers_from 0 ps ≡ Some numbers → are_small numbers ≡ true → key_by 91 numbers final ≡ Event (press row.modifiers row.code) → IsReadAs row bytes
keyed ps final numbers e f g h k = record {
  parts = parts ps final;
  bytes_are = f;
  is = record { well_formed = e; plain = refl; numbers = numbers; numbers_are = g; small = h; key_is = k };
}

no_sequence : {T : Type 0} → false ≡ true → T
no_sequence e = absurd (cc)

pub keys_read : AreRead
keys_read = (no_sequence, (no_sequence, (no_sequence, (no_sequence, (no_sequence, ((λ e. keyed (codes "1;5") 65 (1 ∷ 5 ∷ []) refl refl refl refl refl), (no_sequence, ((λ e. keyed (codes "1;5") 66 (1 ∷ 5 ∷ []) refl refl refl refl refl), (no_sequence, ((λ e. keyed (codes "5;5") 126 (5 ∷ 5 ∷ []) refl refl refl refl refl), (no_sequence, ((λ e. keyed (codes "6;5") 126 (6 ∷ 5 ∷ []) refl refl refl refl refl), (no_sequence, ((λ e. keyed ([]) 65 (0 ∷ []) refl refl refl refl refl), (no_sequence, ((λ e. keyed ([]) 66 (0 ∷ []) refl refl refl refl refl), (no_sequence, ((λ e. keyed (codes "5") 126 (5 ∷ []) refl refl refl refl refl), ((λ e. keyed (codes "6") 126 (6 ∷ []) refl refl refl refl refl), ((λ e. keyed (codes "1;2") 68 (1 ∷ 2 ∷ []) refl refl refl refl refl), (no_sequence, ((λ e. keyed ([]) 68 (0 ∷ []) refl refl refl refl refl), (no_sequence, ((λ e. keyed ([]) 67 (0 ∷ []) refl refl refl refl refl), ((λ e. keyed (codes "1;2") 67 (1 ∷ 2 ∷ []) refl refl refl refl refl), (no_sequence, (no_sequence, (no_sequence, (no_sequence, (no_sequence, (no_sequence, (no_sequence, (no_sequence, (no_sequence, (no_sequence, (no_sequence, tt))))))))))))))))))))))))))))))))))))

-- ---- a sequence of the grammar is one token

between-weaker : (b : ℕ) → is_between 48 63 b ≡ true → is_parameter b ≡ true
unfolding is_parameter
between-weaker b e =
    let parts = and_parts (nat_le 48 b) (nat_le b 63) e in
    let low : 48 ≤ b = let x = parts.0 in grind (arith, nat_tests) in
    let high : b ≤ 63 = let x = parts.1 in grind (arith, nat_tests) in
    let lower : nat_le 32 b ≡ true = let x : 32 ≤ b = omega (arith, low) in grind (arith, nat_tests) in
    rw (lower, parts.1) refl

between-intermediate : (b : ℕ) → is_between 32 47 b ≡ true → is_parameter b ≡ true
unfolding is_parameter
between-intermediate b e =
    let parts = and_parts (nat_le 32 b) (nat_le b 47) e in
    let high : b ≤ 47 = let x = parts.1 in grind (arith, nat_tests) in
    let higher : nat_le b 63 ≡ true = let x : b ≤ 63 = omega (arith, high) in grind (arith, nat_tests) in
    rw (parts.0, higher) refl

final-only : (b : ℕ) → is_between 64 126 b ≡ true → (is_parameter b ≡ false) × (is_final b ≡ true)
unfolding is_parameter is_final
final-only b e =
    let parts = and_parts (nat_le 64 b) (nat_le b 126) e in
    let low : 64 ≤ b = let x = parts.0 in grind (arith, nat_tests) in
    let not : nat_le b 63 ≡ false = let x : 63 < b = omega (arith, low) in grind (arith, nat_tests) in
    (at (nat_le 32 b) (nat_le b 63) not, e)
  where
    at : (s t : Bool) → t ≡ false → (s && t) ≡ false
    at true t f = f
    at false t f = refl

both : (s t : Bool) → s ≡ true → t ≡ true → (s && t) ≡ true
both s t e f = rw (e, f) refl

are_parameters : (test : ℕ → Bool) → ((b : ℕ) → test b ≡ true → is_parameter b ≡ true) → (bs : List ℕ) → are_all test bs ≡ true → are_all is_parameter bs ≡ true
are_parameters test weaker [] e = refl
are_parameters test weaker (b ∷ bs) e =
    let parts = and_parts (test b) (are_all test bs) e in
    both (is_parameter b) (are_all is_parameter bs) (weaker b parts.0) (are_parameters test weaker bs parts.1)

are_all-append : (test : ℕ → Bool) (xs ys : List ℕ) → are_all test xs ≡ true → are_all test ys ≡ true → are_all test (xs ++ ys) ≡ true
are_all-append test [] ys e f = f
are_all-append test (x ∷ xs) ys e f =
    let parts = and_parts (test x) (are_all test xs) e in
    both (test x) (are_all test (xs ++ ys)) parts.0 (are_all-append test xs ys parts.1 f)

none_trail : (q : Sequence) (final : ℕ) → (final == 77 || final == 91) ≡ false → trailing_bytes q final ≡ 0
unfolding trailing_bytes
none_trail q final e = at (is_blank q) (final == 77) (final == 91) e
  where
    at : (s t u : Bool) → (t || u) ≡ false → ◌≡◌ {A = ℕ} (if s then (if t then 3 else if u then 1 else 0) else 0) 0
    at true true u f = absurd (cc)
    at true false true f = absurd (cc)
    at true false false f = refl
    at false t u f = refl

reads-final : (q : Sequence) (n final : ℕ) (more : List ℕ) → is_parameter final ≡ false → is_final final ≡ true → trailing_bytes q final ≡ 0
    → sequence q n (final ∷ more) ≡ Finished (token_of q final) (n + 1)
reads-final q n final more e f g = rw (e, f, g) refl

reads-all : (bs : List ℕ) (q : Sequence) (n m final : ℕ) (more : List ℕ) → are_all is_parameter bs ≡ true → is_between 64 126 final ≡ true → (final == 77 || final == 91) ≡ false
    → n + length bs + 1 ≡ m → sequence q n (bs ++ (final ∷ more)) ≡ Finished (token_of (fold with_parameter q bs) final) m
reads-all [] q n m final more e f g h =
    let only = final-only final f in
    let size : n + 1 ≡ m = omega (arith, h) in
    reads-final q n final more only.0 only.1 (none_trail q final g) ∙ ap (Finished (token_of q final)) size
reads-all (b ∷ bs) q n m final more e f g h =
    let parts = and_parts (is_parameter b) (are_all is_parameter bs) e in
    let is = parts.0 in
    let size : (n + 1) + length bs + 1 ≡ m = omega (arith, h) in
    step is ∙ reads-all bs (with_parameter q b) (n + 1) m final more parts.1 f g size
  where
    step : is_parameter b ≡ true → sequence q n (b ∷ (bs ++ (final ∷ more))) ≡ sequence (with_parameter q b) (n + 1) (bs ++ (final ∷ more))
    step is = rw is refl

-- a sequence begins with an opening
abbrev pub kind_of : ℕ → SequenceKind
kind_of c = if c == 91 then Csi else Ss3

opened : (c : ℕ) (bs : List ℕ) → begins_sequence c ≡ true → first (27 ∷ c ∷ bs) ≡ sequence (new_sequence (kind_of c)) 1 bs
unfolding first
opened c bs e = at (c == 91) refl (c == 79) refl e
  where
    at : (s : Bool) → (c == 91) ≡ s → (t : Bool) → (c == 79) ≡ t → (s || t) ≡ true → first (27 ∷ c ∷ bs) ≡ sequence (new_sequence (if c == 91 then Csi else Ss3)) 1 bs
    at true f t g h = subst (λ (c : ℕ). first (27 ∷ c ∷ bs) ≡ sequence (new_sequence (if c == 91 then Csi else Ss3)) 1 bs) (sym (eqb-true c 91 f)) refl
    at false f true g h = subst (λ (c : ℕ). first (27 ∷ c ∷ bs) ≡ sequence (new_sequence (if c == 91 then Csi else Ss3)) 1 bs) (sym (eqb-true c 79 g)) refl
    at false f false g h = absurd (cc)

-- its token
abbrev pub token_of_parts : Parts → Token
token_of_parts p = token_of (fold with_parameter (new_sequence (kind_of p.opening)) (p.parameters ++ p.intermediates)) p.final

pub token_is : (p : Parts) → is_well_formed p ≡ true → may_be_followed p ≡ false → (more : List ℕ) → first (written p ++ more) ≡ Finished (token_of_parts p) (length (written p) - 1)
token_is p e f more =
    let halves = and_parts (begins_sequence p.opening && are_all (is_between 48 63) p.parameters) (are_all (is_between 32 47) p.intermediates && is_between 64 126 p.final) e in
    let front = and_parts (begins_sequence p.opening) (are_all (is_between 48 63) p.parameters) halves.0 in
    let back = and_parts (are_all (is_between 32 47) p.intermediates) (is_between 64 126 p.final) halves.1 in
    let inner = p.parameters ++ p.intermediates in
    let fit : are_all is_parameter inner ≡ true =
    are_all-append is_parameter p.parameters p.intermediates
    (are_parameters (is_between 48 63) between-weaker p.parameters front.1)
    (are_parameters (is_between 32 47) between-intermediate p.intermediates back.0) in
    let joins : p.parameters ++ (p.intermediates ++ (p.final ∷ [])) ≡ inner ++ (p.final ∷ []) = sym (append_assoc p.parameters p.intermediates (p.final ∷ [])) in
    let long : length (inner ++ (p.final ∷ [])) ≡ length inner + 1 = length-append inner (p.final ∷ []) in
    let whole : length (written p) ≡ suc (suc (length (inner ++ (p.final ∷ [])))) = ap (λ (l : List ℕ). length (27 ∷ p.opening ∷ l)) joins in
    let size : 1 + length inner + 1 ≡ length (written p) - 1 = omega (arith, long, whole) in
    opened p.opening ((p.parameters ++ (p.intermediates ++ (p.final ∷ []))) ++ more) front.0
    ∙ ap (λ (l : List ℕ). sequence (new_sequence (kind_of p.opening)) 1 l) (ap (λ (l : List ℕ). l ++ more) joins ∙ append_assoc inner (p.final ∷ []) more)
    ∙ reads-all inner (new_sequence (kind_of p.opening)) 1 (length (written p) - 1) p.final more fit back.1 f size

pub one_token : (p : Parts) → is_well_formed p ≡ true → may_be_followed p ≡ false → IsOneToken p
one_token p e f = record { token = token_of_parts p; is = token_is p e f }

-- ---- a token with a meaning is a sequence of the grammar

-- the token is not recognized, or there is none yet
abbrev IsNone : Found → Type 0
IsNone Unfinished = Unit {0}
IsNone (Finished token n) = token ≡ unrecognized_token

trailing-none : (left n : ℕ) (bs : List ℕ) → IsNone (trailing left n bs)
trailing-none left n [] = tt
trailing-none left n (b ∷ bs) = at (nat_lt b 32) (nat_le left 1) (trailing-none (left - 1) (n + 1) bs)
  where
    at : (s t : Bool) → IsNone (trailing (left - 1) (n + 1) bs)
        → IsNone (if s then Finished unrecognized_token n else if t then Finished unrecognized_token (n + 1) else trailing (left - 1) (n + 1) bs)
    at true t h = refl
    at false true h = refl
    at false false h = h

-- an unknown sequence stays so
abbrev unknown : Sequence → Sequence
unknown q = as_kind q Unknown

stays-unknown : (q : Sequence) (b : ℕ) → (with_parameter (unknown q) b).kind ≡ Unknown
unfolding with_parameter
stays-unknown q b = at (is_digit b) (nat_le ((counted q).last * 10 + (b - 48)) 65535) (b == 59) (nat_lt q.semicolons 2) (b == 60)
  where
    c : Sequence
    c = counted (unknown q)

    at : (d n s k m : Bool)
        → (if d then (if n then record c { last = c.last * 10 + (b - 48) } else as_kind c Unknown)
        else if s then (if k then record c { semicolons = c.semicolons + 1; first = c.second; second = c.last; last = 0 } else as_kind c Unknown)
        else if m && false then as_kind c Mouse
        else as_kind c Unknown).kind ≡ Unknown
    at true true s k m = refl
    at true false s k m = refl
    at false n true true m = refl
    at false n true false m = refl
    at false n false k true = refl
    at false n false k false = refl

unknown-token : (q : Sequence) (b : ℕ) → q.kind ≡ Unknown → token_of q b ≡ unrecognized_token
unfolding token_of
unknown-token q b e = ap (λ (k : SequenceKind). token_by k q b) e

unknown-none : (bs : List ℕ) (q : Sequence) (n : ℕ) → q.kind ≡ Unknown → IsNone (sequence q n bs)
unknown-none [] q n e = tt
unknown-none (b ∷ bs) q n e = at (is_parameter b) (is_final b) (trailing_bytes q b == 0) (unknown-none bs (with_parameter q b) (n + 1) (stays q e))
  where
    stays : (q : Sequence) → q.kind ≡ Unknown → (with_parameter q b).kind ≡ Unknown
    stays q e = subst (λ (r : Sequence). (with_parameter r b).kind ≡ Unknown) (ap (λ (k : SequenceKind). record q { kind = k }) (sym e)) (stays-unknown q b)

    at : (p f t : Bool) → IsNone (sequence (with_parameter q b) (n + 1) bs)
        → IsNone (if p then sequence (with_parameter q b) (n + 1) bs else if f then (if t then Finished (token_of q b) (n + 1) else trailing (trailing_bytes q b) (n + 1) bs) else Finished unrecognized_token n)
    at true f t h = h
    at false true true h = unknown-token q b e
    at false true false h = trailing-none (trailing_bytes q b) (n + 1) bs
    at false false t h = refl

-- the shape of a sequence behind its opening
record Shape (n : ℕ) (bs : List ℕ) (k : ℕ) : Type 0 where
  front : List ℕ
  final : ℕ
  more : List ℕ
  fit : are_all (is_between 48 63) front ≡ true
  ends : is_between 64 126 final ≡ true
  bytes_are : bs ≡ front ++ (final ∷ more)
  size : k ≡ n + length front + 1

abbrev Fits : ℕ → List ℕ → Found → Type 0
Fits n bs Unfinished = Unit {0}
Fits n bs (Finished token k) = (token ≡ unrecognized_token) ⊎ Shape n bs k

none-fits : (n : ℕ) (bs : List ℕ) (f : Found) → IsNone f → Fits n bs f
none-fits n bs Unfinished h = tt
none-fits n bs (Finished token k) h = inl h

shape-more : (n b : ℕ) (bs : List ℕ) (f : Found) → is_between 48 63 b ≡ true → Fits (n + 1) bs f → Fits n (b ∷ bs) f
shape-more n b bs Unfinished e h = tt
shape-more n b bs (Finished token k) e h =
    ⊎_elim (λ (l : token ≡ unrecognized_token). inl l)
    (λ (s : Shape (n + 1) bs k). inr (record {
      front = b ∷ s.front;
      final = s.final;
      more = s.more;
      fit = both (is_between 48 63 b) (are_all (is_between 48 63) s.front) e s.fit;
      ends = s.ends;
      bytes_are = ap (λ (l : List ℕ). b ∷ l) s.bytes_are;
      size = let h = s.size in omega (arith, h);
    })) h

-- an intermediate byte makes the sequence unknown
intermediate-unknown : (q : Sequence) (b : ℕ) → is_between 48 63 b ≡ false → is_parameter b ≡ true → (with_parameter q b).kind ≡ Unknown
unfolding with_parameter is_parameter
intermediate-unknown q b e f =
    let parts = and_parts (nat_le 32 b) (nat_le b 63) f in
    let high : b ≤ 63 = let x = parts.1 in grind (arith, nat_tests) in
    let low : nat_le 48 b ≡ false = below (nat_le 48 b) (nat_le b 63) e parts.1 in
    let under : b < 48 = grind (arith, nat_tests) in
    let not_digit : (nat_le 48 b && nat_le b 57) ≡ false = rw low refl in
    let not_semicolon : (b == 59) ≡ false = grind (arith, nat_tests) in
    let not_less : (b == 60) ≡ false = grind (arith, nat_tests) in
    rw (not_digit, not_semicolon, not_less) refl
  where
    below : (s t : Bool) → (s && t) ≡ false → t ≡ true → s ≡ false
    below true true g h = g
    below true false g h = absurd (cc)
    below false t g h = refl

final-is : (b : ℕ) → is_final b ≡ true → is_between 64 126 b ≡ true
unfolding is_final
final-is b e = e

sequence-fits : (bs : List ℕ) (q : Sequence) (n : ℕ) → Fits n bs (sequence q n bs)
sequence-fits [] q n = tt
sequence-fits (b ∷ bs) q n = at (is_parameter b) refl (is_between 48 63 b) refl (is_final b) refl (trailing_bytes q b == 0) (sequence-fits bs (with_parameter q b) (n + 1))
  where
    at : (p : Bool) → is_parameter b ≡ p → (i : Bool) → is_between 48 63 b ≡ i → (f : Bool) → is_final b ≡ f → (t : Bool) → Fits (n + 1) bs (sequence (with_parameter q b) (n + 1) bs)
        → Fits n (b ∷ bs) (if p then sequence (with_parameter q b) (n + 1) bs else if f then (if t then Finished (token_of q b) (n + 1) else trailing (trailing_bytes q b) (n + 1) bs) else Finished unrecognized_token n)
    at true e true g f h t more = shape-more n b bs (sequence (with_parameter q b) (n + 1) bs) g more
    at true e false g f h t more = none-fits n (b ∷ bs) (sequence (with_parameter q b) (n + 1) bs) (unknown-none bs (with_parameter q b) (n + 1) (intermediate-unknown q b g e))
    at false e i g true h true more = inr (record {
      front = [];
      final = b;
      more = bs;
      fit = refl;
      ends = final-is b h;
      bytes_are = refl;
      size = omega arith;
    })
    at false e i g true h false more = none-fits n (b ∷ bs) (trailing (trailing_bytes q b) (n + 1) bs) (trailing-none (trailing_bytes q b) (n + 1) bs)
    at false e i g false h t more = inl refl

pub begins_with_parts : (c : ℕ) (bytes : List ℕ) (token : Token) (n : ℕ) → begins_sequence c ≡ true → first (27 ∷ c ∷ bytes) ≡ Finished token n → (token ≡ unrecognized_token → ⊥)
    → BeginsWithParts (27 ∷ c ∷ bytes) n
begins_with_parts c bytes token n e f h =
    ⊎_elim (λ (l : token ≡ unrecognized_token). absurd (h l)) of_shape
    (subst (Fits 1 bytes) (sym (opened c bytes e) ∙ f) (sequence-fits bytes (new_sequence (kind_of c)) 1))
  where
    of_shape : Shape 1 bytes n → BeginsWithParts (27 ∷ c ∷ bytes) n
    of_shape s =
        let p : Parts = record { opening = c; parameters = s.front; intermediates = []; final = s.final } in
        let long : length (s.front ++ (s.final ∷ [])) ≡ length s.front + 1 = length-append s.front (s.final ∷ []) in
        record {
          parts = p;
          well_formed = both (begins_sequence c && are_all (is_between 48 63) s.front) (is_between 64 126 s.final) (both (begins_sequence c) (are_all (is_between 48 63) s.front) e s.fit) s.ends;
          more = s.more;
          bytes_are = ap (λ (l : List ℕ). 27 ∷ c ∷ l) (s.bytes_are ∙ sym (append_assoc s.front (s.final ∷ []) s.more));
          size = let size = s.size in omega (arith, long, size);
        }
