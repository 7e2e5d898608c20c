-- Keys of the user's own.
use Rattle.std.proofs.Common.{◌≡◌, ℕ, suc, ◌==◌, List, [], ◌∷◌, ◌++◌, length, Bool, true, false, if◌then◌else◌, ◌<◌, nat_lt, MatchOption, IfSome, IfNone, Option, Some, None, option_map, IsUtf8, refl, sym, ap, ◌∙◌, subst, append-nil, arith}
use Rattle.std.proofs.lemmas.Bool.{false≢true, eqb-true, le-ltb, lt-ltb}
use Rattle.std.proofs.lemmas.Str.{is_utf8-from_IsUtf8}
use Rattle.std.specs.Str.{is_utf8}
use Rattle.scm_front.specs.declared.actions.OwnKey.{OwnKey}
use Rattle.scm_open_session.specs.declared.open_session.OpenSession.{OpenSession}
use Rattle.scm_c_values.specs.Pieces.{Adds, all_of, pieces_of}
use Rattle.std.specs.List.{after_first, before_first, position_or_len}
use Rattle.scm_input.specs.declared.terminal.TerminalEvent.{TerminalEvent}
use Rattle.scm_front.specs.declared.actions.Action.{Action}
use Rattle.scm_open_session.specs.OwnKeys.{HasKeys, SetsKeys, action_of_word, code_of_keys, has_equals, is_equals, key_of_word, key_with, keys_of_bytes, keys_of_piece, own_key_of, pressed_key_of}
use Rattle.scm_open_session.specs.LayerCalls.{is_view}
use Rattle.scm_c_values.specs.Codes.{IsCode}
use Rattle.scm_open_session.specs.Results.{code_where}
use Rattle.scm_open_session.specs.Stages.{ChangesStage}
use Rattle.scm_c_values.proofs.PieceLemmas.{adds_as, adds_no, adds_not, adds_some}

-- ---- the two parts of a piece

at_end : (n m : ℕ) → n ≡ m → nat_lt n m ≡ false
at_end n m e = le-ltb n m (omega (arith, e))

-- what splits a text at its first `=` says
abbrev pub Splits : {P : Type 0} → (P → List ℕ) → (P → List ℕ) → Option P → List ℕ → Type 0
Splits front back r s = MatchOption r (position_or_len is_equals s ≡ length s)
    (λ p. (front p ≡ before_first is_equals s) × (back p ≡ after_first is_equals s) × (position_or_len is_equals s < length s))

pub equals_none : {P : Type 0} (r : Option P) (s : List ℕ) (Q : P → Type 0) → MatchOption r (position_or_len is_equals s ≡ length s) Q → IfNone r (has_equals s ≡ false)
equals_none None s Q m = at_end (position_or_len is_equals s) (length s) m
equals_none (Some x) s Q m = tt

pub equals_some : {P : Type 0} (front back : P → List ℕ) (r : Option P) (s : List ℕ) → Splits front back r s → IfSome r (λ p. has_equals s ≡ true)
equals_some front back (Some x) s m = lt-ltb (position_or_len is_equals s) (length s) m.2
equals_some front back None s m = tt

pub equals_front : {P : Type 0} (front back : P → List ℕ) (r : Option P) (s : List ℕ) → Splits front back r s → IfSome r (λ p. front p ≡ before_first is_equals s)
equals_front front back (Some x) s m = m.0
equals_front front back None s m = tt

pub equals_back : {P : Type 0} (front back : P → List ℕ) (r : Option P) (s : List ℕ) → Splits front back r s → IfSome r (λ p. back p ≡ after_first is_equals s)
equals_back front back (Some x) s m = m.1
equals_back front back None s m = tt

pub key_at : (piece key word : List ℕ) (event : Option TerminalEvent) (action : Option Action) (answer : Option OwnKey)
    → has_equals piece ≡ true → key ≡ before_first is_equals piece → word ≡ after_first is_equals piece
    → event ≡ key_of_word key → action ≡ action_of_word word → answer ≡ key_with event action → answer ≡ pressed_key_of piece
key_at piece key word event action answer t e f g h is =
    let with_both : answer ≡ key_with (key_of_word (before_first is_equals piece)) (action_of_word (after_first is_equals piece)) =
    is ∙ (ap (λ (o : Option TerminalEvent). key_with o action) (g ∙ ap key_of_word e)
    ∙ ap (λ (o : Option Action). key_with (key_of_word (before_first is_equals piece)) o) (h ∙ ap action_of_word f)) in
    with_both ∙ ap (λ (b : Bool). if b then key_with (key_of_word (before_first is_equals piece)) (action_of_word (after_first is_equals piece)) else None) (sym t)

pub no_key_at : (piece : List ℕ) → has_equals piece ≡ false → None ≡ pressed_key_of piece
no_key_at piece t =
    ap (λ (b : Bool). if b then key_with (key_of_word (before_first is_equals piece)) (action_of_word (after_first is_equals piece)) else None) (sym t)

-- ---- a piece

not-zero : (n : ℕ) → suc n ≡ 0 → ⊥
not-zero n e = omega (arith, e)

pub key_empty : (piece : List ℕ) (old : List OwnKey) → (length piece == 0) ≡ true → Adds (keys_of_piece piece) old old true
key_empty [] old e = adds_as (Some []) [] old old refl (sym (append-nil old))
key_empty (b ∷ bs) old e = absurd (not-zero (length bs) (eqb-true (suc (length bs)) 0 e))

pub key_found : (piece : List ℕ) (key : OwnKey) (old new : List OwnKey) → (length piece == 0) ≡ false → own_key_of piece ≡ Some key
    → new ≡ old ++ (key ∷ []) → Adds (keys_of_piece piece) old new true
key_found [] key old new h e f = absurd (false≢true (sym h))
key_found (b ∷ bs) key old new h e f =
    adds_as (keys_of_piece (b ∷ bs)) (key ∷ []) old new (ap (λ (o : Option OwnKey). option_map (λ (x : OwnKey). x ∷ []) o) e) f

pub key_unknown : (piece : List ℕ) (old new : List OwnKey) → (length piece == 0) ≡ false → own_key_of piece ≡ None → Adds (keys_of_piece piece) old new false
key_unknown [] old new h e = absurd (false≢true (sym h))
key_unknown (b ∷ bs) old new h e =
    adds_not (keys_of_piece (b ∷ bs)) old new (ap (λ (o : Option OwnKey). option_map (λ (x : OwnKey). x ∷ []) o) e)

-- ---- a text

utf8-keys : (bytes : List ℕ) → IsUtf8 bytes → keys_of_bytes bytes ≡ all_of keys_of_piece (pieces_of bytes)
utf8-keys bytes u = ap (λ (t : Bool). if t then all_of keys_of_piece (pieces_of bytes) else None) (is_utf8-from_IsUtf8 bytes u)

pub found_keys : (bytes text : List ℕ) (old list : List OwnKey) (known : Bool) → IsUtf8 bytes → text ≡ bytes → old ≡ []
    → Adds (all_of keys_of_piece (pieces_of text)) old list known → known ≡ true → keys_of_bytes bytes ≡ Some list
found_keys bytes text old list known u t o a e =
    let s = adds_some (all_of keys_of_piece (pieces_of text)) old list known a e in
    utf8-keys bytes u ∙ (ap (λ (x : List ℕ). all_of keys_of_piece (pieces_of x)) (sym t)
    ∙ (s.1 ∙ ap Some (sym (s.2 ∙ ap (λ (l : List OwnKey). l ++ s.0) o))))

no-key-by : (o : Option (List OwnKey)) (inner : Option OpenSession) → o ≡ None → IsCode true (code_of_keys o inner) 11
no-key-by o inner e = rw e IsCode.known

pub no_key_code : (bytes text : List ℕ) (old list : List OwnKey) (known : Bool) (inner : Option OpenSession) → IsUtf8 bytes → text ≡ bytes
    → Adds (all_of keys_of_piece (pieces_of text)) old list known → known ≡ false → IsCode true (code_of_keys (keys_of_bytes bytes) inner) 11
no_key_code bytes text old list known inner u t a e =
    no-key-by (keys_of_bytes bytes) inner (utf8-keys bytes u ∙ (ap (λ (x : List ℕ). all_of keys_of_piece (pieces_of x)) (sym t)
    ∙ adds_no (all_of keys_of_piece (pieces_of text)) old list known a e))

no-bytes : (bytes : List ℕ) (t : Bool) → is_utf8 bytes ≡ t → t ≡ false → keys_of_bytes bytes ≡ None
no-bytes bytes t e f = ap (λ (b : Bool). if b then all_of keys_of_piece (pieces_of bytes) else None) (e ∙ f)

pub no_text_code : (bytes : List ℕ) (inner : Option OpenSession) → is_utf8 bytes ≡ false → IsCode true (code_of_keys (keys_of_bytes bytes) inner) 11
no_text_code bytes inner e = no-key-by (keys_of_bytes bytes) inner (no-bytes bytes (is_utf8 bytes) refl e)

pub keys_code : (given : Option (List OwnKey)) (items list : List OwnKey) (inner : Option OpenSession) (code : ℕ) → given ≡ Some items → list ≡ items
    → code ≡ code_where is_view inner → IsCode true (code_of_keys given inner) code
keys_code given items list inner code e f g = rw (e, g) IsCode.known

pub keys_in : (given : Option (List OwnKey)) (items list : List OwnKey) (old new : Option OpenSession) → given ≡ Some items → list ≡ items
    → ChangesStage (SetsKeys list) old new → HasKeys given old new
keys_in given items list old new e f goes = rw e (subst (λ (l : List OwnKey). ChangesStage (SetsKeys l) old new) f goes)
