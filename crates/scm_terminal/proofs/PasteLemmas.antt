-- What is pasted does not act.
use Rattle.std.proofs.Common.{◌≡◌, ◌≢◌, refl, sym, ◌∙◌, ap, subst, ℕ, Bool, true, false, ◌==◌, ◌&&◌, nat_lt, nat_le, List, [], ◌∷◌, ◌++◌, Option, Some, None, append_assoc, fold, if◌then◌else◌}
use Rattle.std.proofs.lemmas.Bool.{ne_eqb}
use Rattle.std.proofs.lemmas.List.{append-nil}
use Rattle.std.proofs.Math.Utf8.{scalar}
use Rattle.scm_input.specs.declared.terminal.TerminalEvent.{TerminalEvent}
use Rattle.scm_input.specs.declared.terminal.TerminalEvent.TheVariants.{Other}
use Rattle.scm_terminal.specs.declared.characters.Character.{Character}
use Rattle.scm_terminal.specs.declared.characters.CharacterProgress.{CharacterProgress}
use Rattle.scm_terminal.specs.declared.characters.CharacterProgress.TheVariants.{Whole, Part}
use Rattle.scm_terminal.specs.declared.tokenizer.Tokenizer.{Tokenizer}
use Rattle.scm_terminal.specs.declared.tokens.Token.{Token}
use Rattle.scm_terminal.specs.declared.tokens.Token.TheVariants.{Event, PasteBegins, PasteEnds}
use Rattle.scm_terminal.specs.declared.transitions.State.{State}
use Rattle.scm_terminal.specs.declared.transitions.State.TheVariants as state
use Rattle.scm_terminal.specs.declared.transitions.Transition.{Transition}
use Rattle.scm_terminal.specs.declared.transitions.Transition.TheVariants.{Continue, Emit, EmitAndRetry}
use Rattle.scm_terminal.specs.Bytes.{is_parameter, is_final, is_continuation}
use Rattle.scm_terminal.specs.Sequences.{new_sequence, with_parameter, token_of, trailing_bytes}
use Rattle.scm_terminal.specs.Characters.{lead_character, with_continuation, char_token, bits_with}
use Rattle.scm_terminal.specs.Streams.{split_from, stream_events, paste_begin, paste_end, HasNoEscape, AreOther, IsQuiet}
use Rattle.scm_terminal.specs.Transitions.{lead_transition, ground_transition, progress_transition, transition_of}
use Rattle.scm_terminal.specs.Decoders.{tokenizer, events_of, Step, step_by, step_retry, step, hears}
use Rattle.scm_terminal.proofs.HeardLemmas.{hears_event, follows_next, knows, Follows}
use Rattle.scm_terminal.proofs.StreamLemmas.{with_one}
use Rattle.scm_terminal.proofs.LawLemmas.{end_state}

-- ---- the events along a stream

abbrev pub along : Tokenizer → List ℕ → List TerminalEvent
along d [] = []
along d (b ∷ bs) = events_of (step d b).events ++ along (hears d b) bs

along-append : (d : Tokenizer) (xs ys : List ℕ) → along d (xs ++ ys) ≡ along d xs ++ along (fold hears d xs) ys
along-append d [] ys = refl
along-append d (x ∷ xs) ys =
    ap (λ (l : List TerminalEvent). events_of (step d x).events ++ l) (along-append (hears d x) xs ys)
    ∙ sym (append_assoc (events_of (step d x).events) (along (hears d x) xs) (along (fold hears (hears d x) xs) ys))

decoded_along_from : (d : Tokenizer) (p : Bool) (bytes : List ℕ) → Follows d p bytes → (bs : List ℕ) → stream_events p (bytes ++ bs) ≡ stream_events p bytes ++ along d bs
decoded_along_from d p bytes h [] = ap (stream_events p) (append-nil bytes) ∙ sym (append-nil (stream_events p bytes))
decoded_along_from d p bytes h (b ∷ bs) =
    ap (stream_events p) (sym (with_one bytes b bs))
    ∙ decoded_along_from (hears d b) p (bytes ++ (b ∷ [])) (follows_next d p bytes h b) bs
    ∙ ap (λ (l : List TerminalEvent). l ++ along (hears d b) bs) (hears_event d p bytes (knows d p bytes h) b)
    ∙ append_assoc (stream_events p bytes) (events_of (step d b).events) (along (hears d b) bs)

heard_none : (p : Bool) → Follows (tokenizer p state.Ground) p []
heard_none p = refl

decoded_none : (p : Bool) → stream_events p [] ≡ []
unfolding split_from
decoded_none p = refl

decoded_along : (p : Bool) (bytes : List ℕ) → stream_events p bytes ≡ along (tokenizer p state.Ground) bytes
decoded_along p bytes =
    decoded_along_from (tokenizer p state.Ground) p [] (heard_none p) bytes
    ∙ ap (λ (l : List TerminalEvent). l ++ along (tokenizer p state.Ground) bytes) (decoded_none p)

-- ---- moves without an escape

-- signs that are no marks of a paste, and states that no escape led to
abbrev IsTell : Token → Type 0
IsTell (Event event) = Unit {0}
IsTell PasteBegins = ⊥
IsTell PasteEnds = ⊥

abbrev IsPlain : State → Type 0
IsPlain state.Ground = Unit {0}
IsPlain state.Escape = ⊥
IsPlain state.EndedEscape = ⊥
IsPlain (state.Sequence q) = ⊥
IsPlain (state.Trailing left) = ⊥
IsPlain (state.Character c) = Unit {0}
IsPlain state.StringBegun = ⊥
IsPlain state.ControlString = ⊥

abbrev Stays : Transition → Type 0
Stays (Continue s) = IsPlain s
Stays (Emit token) = IsTell token
Stays (EmitAndRetry token) = IsTell token

abbrev Joins : CharacterProgress → Type 0
Joins (Whole token) = IsTell token
Joins (Part c) = Unit {0}

tell_if : (t : Bool) (x y : Token) → IsTell x → IsTell y → IsTell (if t then x else y)
tell_if true x y p q = p
tell_if false x y p q = q

joins_if : (t : Bool) (x y : CharacterProgress) → Joins x → Joins y → Joins (if t then x else y)
joins_if true x y p q = p
joins_if false x y p q = q

stays_if : (t : Bool) (x y : Transition) → Stays x → Stays y → Stays (if t then x else y)
stays_if true x y p q = p
stays_if false x y p q = q

stays_else : (t : Bool) (x y : Transition) → t ≡ false → Stays y → Stays (if t then x else y)
stays_else true x y e q = absurd (let f : true ≡ false = e in cc)
stays_else false x y e q = q

char_joins : (alt : Bool) (least code : ℕ) → IsTell (char_token alt least code)
char_joins alt least code = tell_if (nat_le least code && scalar code) _ _ tt tt

extended_joins : (c : Character) (b : ℕ) → Joins (with_continuation c b)
unfolding with_continuation
extended_joins c b =
    joins_if (nat_le c.left 1) _ _ (char_joins c.alt c.least (bits_with c b)) (joins_if (nat_le (bits_with c b) 65535) _ _ tt tt)

joined_stays : (joined : CharacterProgress) → Joins joined → Stays (progress_transition joined)
joined_stays (Whole token) h = h
joined_stays (Part c) h = tt

lead_stays : (o : Option Character) → Stays (lead_transition o)
lead_stays None = tt
lead_stays (Some c) = tt

ground_stays : (b : ℕ) → (b == 27) ≡ false → Stays (ground_transition b)
ground_stays b e = stays_else (b == 27) _ _ e (stays_if (nat_lt b 128) _ _ tt (lead_stays (lead_character false b)))

move_stays : (s : State) → IsPlain s → (b : ℕ) → (b == 27) ≡ false → Stays (transition_of s b)
unfolding transition_of
move_stays state.Ground h b e = ground_stays b e
move_stays state.Escape h b e = absurd h
move_stays state.EndedEscape h b e = absurd h
move_stays (state.Sequence q) h b e = absurd h
move_stays (state.Trailing left) h b e = absurd h
move_stays (state.Character c) h b e = stays_if (is_continuation b) _ _ (joined_stays (with_continuation c b) (extended_joins c b)) tt
move_stays state.StringBegun h b e = absurd h
move_stays state.ControlString h b e = absurd h

-- ---- steps within what is pasted

record Remains (done : Step) : Type 0 where
  pasted : done.tokenizer.is_pasted ≡ true
  plain : IsPlain done.tokenizer.state
  quiet : AreOther (events_of done.events)

again_remains : (m : Transition) → Stays m → Remains (step_retry Other true m)
again_remains (Continue s) h = record { pasted = refl; plain = h; quiet = (refl, tt) }
again_remains (Emit (Event event)) h = record { pasted = refl; plain = tt; quiet = (refl, (refl, tt)) }
again_remains (Emit PasteBegins) h = absurd h
again_remains (Emit PasteEnds) h = absurd h
again_remains (EmitAndRetry (Event event)) h = record { pasted = refl; plain = tt; quiet = (refl, (refl, tt)) }
again_remains (EmitAndRetry PasteBegins) h = absurd h
again_remains (EmitAndRetry PasteEnds) h = absurd h

remains : (b : ℕ) → (b == 27) ≡ false → (m : Transition) → Stays m → Remains (step_by true b m)
remains b e (Continue s) h = record { pasted = refl; plain = h; quiet = tt }
remains b e (Emit (Event event)) h = record { pasted = refl; plain = tt; quiet = (refl, tt) }
remains b e (Emit PasteBegins) h = absurd h
remains b e (Emit PasteEnds) h = absurd h
remains b e (EmitAndRetry (Event event)) h = again_remains (ground_transition b) (ground_stays b e)
remains b e (EmitAndRetry PasteBegins) h = absurd h
remains b e (EmitAndRetry PasteEnds) h = absurd h

step_remains : (s : State) → IsPlain s → (b : ℕ) → b ≢ 27 → Remains (step (tokenizer true s) b)
unfolding step
step_remains s h b e = remains b (ne_eqb b 27 e) (transition_of s b) (move_stays s h b (ne_eqb b 27 e))

pasted_tokenizer : (d : Tokenizer) → d.is_pasted ≡ true → d ≡ tokenizer true d.state
pasted_tokenizer d e = ap (λ q. tokenizer q d.state) e

tokenizer_remains : (d : Tokenizer) → d.is_pasted ≡ true → IsPlain d.state → (b : ℕ) → b ≢ 27 → Remains (step d b)
tokenizer_remains d e h b f = subst (λ (x : Tokenizer). Remains (step x b)) (sym (pasted_tokenizer d e)) (step_remains d.state h b f)

other-append : (xs ys : List TerminalEvent) → AreOther xs → AreOther ys → AreOther (xs ++ ys)
other-append [] ys p q = q
other-append (x ∷ xs) ys p q = (p.0, other-append xs ys p.1 q)

record Passes (d : Tokenizer) (text : List ℕ) : Type 0 where
  pasted : (fold hears d text).is_pasted ≡ true
  plain : IsPlain (fold hears d text).state
  quiet : AreOther (along d text)

passes : (text : List ℕ) → HasNoEscape text → (d : Tokenizer) → d.is_pasted ≡ true → IsPlain d.state → Passes d text
passes [] h d e p = record { pasted = e; plain = p; quiet = tt }
passes (b ∷ bs) h d e p =
    let one = tokenizer_remains d e p b h.0 in
    let more = passes bs h.1 (hears d b) one.pasted one.plain in
    record { pasted = more.pasted; plain = more.plain; quiet = other-append (events_of (step d b).events) (along (hears d b) bs) one.quiet more.quiet }

-- ---- the marks at both ends

begin_state : fold hears (tokenizer false state.Ground) paste_begin ≡ tokenizer true state.Ground
unfolding step transition_of is_parameter is_final new_sequence with_parameter token_of trailing_bytes
begin_state = refl

begin_quiet : AreOther (along (tokenizer false state.Ground) paste_begin)
unfolding step transition_of is_parameter is_final new_sequence with_parameter token_of trailing_bytes
begin_quiet = (refl, tt)

end_quiet_at : (s : State) → IsPlain s → AreOther (along (tokenizer true s) paste_end)
unfolding step transition_of is_parameter is_final is_continuation new_sequence with_parameter token_of trailing_bytes
end_quiet_at state.Ground h = (refl, tt)
end_quiet_at state.Escape h = absurd h
end_quiet_at state.EndedEscape h = absurd h
end_quiet_at (state.Sequence q) h = absurd h
end_quiet_at (state.Trailing left) h = absurd h
end_quiet_at (state.Character c) h = (refl, (refl, tt))
end_quiet_at state.StringBegun h = absurd h
end_quiet_at state.ControlString h = absurd h

end_quiet : (d : Tokenizer) → d.is_pasted ≡ true → IsPlain d.state → AreOther (along d paste_end)
end_quiet d e h = subst (λ (x : Tokenizer). AreOther (along x paste_end)) (sym (pasted_tokenizer d e)) (end_quiet_at d.state h)

pub quiet : (text more : List ℕ) → HasNoEscape text → IsQuiet text more
quiet text more h =
    let start = tokenizer false state.Ground in
    let inside = tokenizer true state.Ground in
    let passed = passes text h inside refl tt in
    let last = fold hears inside text in
    record {
      others = along start paste_begin ++ (along inside text ++ along last paste_end);
      quiet = other-append (along start paste_begin) (along inside text ++ along last paste_end) begin_quiet
          (other-append (along inside text) (along last paste_end) passed.quiet (end_quiet last passed.pasted passed.plain));
      events =
          decoded_along false (paste_begin ++ (text ++ (paste_end ++ more)))
          ∙ along-append start paste_begin (text ++ (paste_end ++ more))
          ∙ ap (λ (d : Tokenizer). along start paste_begin ++ along d (text ++ (paste_end ++ more))) begin_state
          ∙ ap (λ (l : List TerminalEvent). along start paste_begin ++ l)
          (along-append inside text (paste_end ++ more)
          ∙ ap (λ (l : List TerminalEvent). along inside text ++ l)
          (along-append last paste_end more ∙ ap (λ (d : Tokenizer). along last paste_end ++ along d more) (end_state last))
          ∙ sym (append_assoc (along inside text) (along last paste_end) (along start more)))
          ∙ sym (append_assoc (along start paste_begin) (along inside text ++ along last paste_end) (along start more))
          ∙ ap (λ (l : List TerminalEvent). (along start paste_begin ++ (along inside text ++ along last paste_end)) ++ l) (sym (decoded_along false more));
    }
