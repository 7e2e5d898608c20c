-- The events of words that are handed in as one batch.
use Rattle.std.proofs.Common.{◌≡◌, ℕ, suc, ◌==◌, List, [], ◌∷◌, ◌++◌, length, Bool, true, false, if◌then◌else◌, Option, Some, None, option_map, IsUtf8, refl, sym, ap, ◌∙◌, append-nil, arith}
use Rattle.std.proofs.lemmas.Bool.{false≢true, eqb-true}
use Rattle.std.proofs.lemmas.Str.{is_utf8-from_IsUtf8}
use Rattle.std.specs.Str.{is_utf8}
use Rattle.scm_input.specs.declared.events.Event.{Event}
use Rattle.scm_script.specs.Words.{event_of_word}
use Rattle.scm_c_values.specs.Codes.{IsCode, code_of_words}
use Rattle.scm_c_values.specs.Pieces.{Adds, events_of_bytes, events_of_piece, events_of_pieces, pieces_of}
use Rattle.scm_c_values.proofs.PieceLemmas.{adds_as, adds_no, adds_not, adds_some}

-- ---- a piece

not_zero : (n : ℕ) → suc n ≡ 0 → ⊥
not_zero n e = omega (arith, e)

pub piece_empty : (piece : List ℕ) (old : List Event) → (length piece == 0) ≡ true → Adds (events_of_piece piece) old old true
piece_empty [] old e = adds_as (Some []) [] old old refl (sym (append-nil old))
piece_empty (b ∷ bs) old e = absurd (not_zero (length bs) (eqb-true (suc (length bs)) 0 e))

pub piece_word : (piece : List ℕ) (event : Event) (old new : List Event) → (length piece == 0) ≡ false → event_of_word piece ≡ Some event
    → new ≡ old ++ (event ∷ []) → Adds (events_of_piece piece) old new true
piece_word [] event old new h e f = absurd (false≢true (sym h))
piece_word (b ∷ bs) event old new h e f =
    adds_as (events_of_piece (b ∷ bs)) (event ∷ []) old new (ap (λ (o : Option Event). option_map (λ (x : Event). x ∷ []) o) e) f

pub piece_unknown : (piece : List ℕ) (old new : List Event) → (length piece == 0) ≡ false → event_of_word piece ≡ None → Adds (events_of_piece piece) old new false
piece_unknown [] old new h e = absurd (false≢true (sym h))
piece_unknown (b ∷ bs) old new h e =
    adds_not (events_of_piece (b ∷ bs)) old new (ap (λ (o : Option Event). option_map (λ (x : Event). x ∷ []) o) e)

-- ---- a batch

utf8-events : (bytes : List ℕ) → IsUtf8 bytes → events_of_bytes bytes ≡ events_of_pieces (pieces_of bytes)
utf8-events bytes u = ap (λ (t : Bool). if t then events_of_pieces (pieces_of bytes) else None) (is_utf8-from_IsUtf8 bytes u)

pub found_events : (bytes text : List ℕ) (old list : List Event) (known : Bool) → IsUtf8 bytes → text ≡ bytes → old ≡ []
    → Adds (events_of_pieces (pieces_of text)) old list known → known ≡ true → events_of_bytes bytes ≡ Some list
found_events bytes text old list known u t o a e =
    let s = adds_some (events_of_pieces (pieces_of text)) old list known a e in
    utf8-events bytes u ∙ (ap (λ (x : List ℕ). events_of_pieces (pieces_of x)) (sym t)
    ∙ (s.1 ∙ ap Some (sym (s.2 ∙ ap (λ (l : List Event). l ++ s.0) o))))

no-word-by : (o : Option (List Event)) (otherwise : ℕ) → o ≡ None → IsCode true (code_of_words o otherwise) 3
no-word-by o otherwise e = rw e IsCode.known

pub no_word_code : (bytes text : List ℕ) (old list : List Event) (known : Bool) (otherwise : ℕ) → IsUtf8 bytes → text ≡ bytes
    → Adds (events_of_pieces (pieces_of text)) old list known → known ≡ false → IsCode true (code_of_words (events_of_bytes bytes) otherwise) 3
no_word_code bytes text old list known otherwise u t a e =
    no-word-by (events_of_bytes bytes) otherwise (utf8-events bytes u ∙ (ap (λ (x : List ℕ). events_of_pieces (pieces_of x)) (sym t)
    ∙ adds_no (events_of_pieces (pieces_of text)) old list known a e))

no-bytes : (bytes : List ℕ) (t : Bool) → is_utf8 bytes ≡ t → t ≡ false → events_of_bytes bytes ≡ None
no-bytes bytes t e f = ap (λ (b : Bool). if b then events_of_pieces (pieces_of bytes) else None) (e ∙ f)

pub no_text_code : (bytes : List ℕ) (otherwise : ℕ) → is_utf8 bytes ≡ false → IsCode true (code_of_words (events_of_bytes bytes) otherwise) 3
no_text_code bytes otherwise e = no-word-by (events_of_bytes bytes) otherwise (no-bytes bytes (is_utf8 bytes) refl e)
