-- What the layer keeps beside the session: the text that is searched for, and the one that is being typed.
use Rattle.std.specs.Prelude.{ℕ, Bool, true, false, List, [], ◌∷◌, ◌++◌, encode_utf8}
use Rattle.scm_front.specs.declared.asking.Query.{Query}
use Rattle.scm_front.specs.declared.asking.Typing.{Typing}
use Rattle.scm_front.specs.declared.asking.Typing.TheVariants.{Ask, Add, Erase, Leave, Finish}

-- no text is asked for, and none was searched for
abbrev pub new_query : Query
new_query = record { is_asking = false; typed = []; sought = []; is_missing = false }

-- the query with the outcome of a search
abbrev pub with_word : Query → Bool → Query
with_word q is_missing = record q { is_missing = is_missing }

-- the text that is searched for after a question: the one that was typed, or the old one if nothing was typed
abbrev pub sought_after : List ℕ → List ℕ → List ℕ
sought_after [] old = old
sought_after (b ∷ bs) old = b ∷ bs

-- the query after a key that types its text
abbrev pub after_typing : Typing → Query → Query
after_typing Ask q = record q { is_asking = true; typed = []; is_missing = false }
after_typing (Add c) q = record q { typed = q.typed ++ encode_utf8 c }
after_typing Erase q = record q { typed = [] }
after_typing Leave q = record q { is_asking = false; typed = [] }
after_typing Finish q = record q { is_asking = false; typed = []; sought = sought_after q.typed q.sought }
