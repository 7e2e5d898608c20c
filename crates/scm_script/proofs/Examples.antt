-- The table of words, computed on some words.
use Rattle.std.proofs.Common.{◌≡◌, Some, None, refl, false}
use Rattle.std.specs.Prelude.{codes}
use Rattle.std.specs.Str.{chars}
use Rattle.scm_input.specs.declared.events.Event.TheVariants as events
use Rattle.scm_script.specs.Words.{word_of, event_of_word}
use Rattle.scm_script.specs.declared.words.Word.TheVariants as word

shot : word_of (codes "shot") ≡ Some word.Shot
unfolding word_of chars
shot = refl

redraw : event_of_word (codes "redraw") ≡ Some events.Redraw
unfolding word_of chars
redraw = refl

ctrl_d : event_of_word (codes "ctrl-d") ≡ Some events.FocusNextPage
unfolding word_of chars
ctrl_d = refl

twice : event_of_word (codes "ctrl-ctrl-d") ≡ None
unfolding word_of chars
twice = refl

any_order : event_of_word (codes "shift-alt-ctrl-x") ≡ Some events.None
unfolding word_of chars
any_order = refl

shift_left : event_of_word (codes "shift-left") ≡ Some (events.FocusOuter false)
unfolding word_of chars
shift_left = refl

click : event_of_word (codes "click:03:65535") ≡ Some (events.Click 3 65535)
unfolding word_of chars
click = refl

click_past : event_of_word (codes "click:3:65536") ≡ None
unfolding word_of chars
click_past = refl

click_half : event_of_word (codes "click:3") ≡ None
unfolding word_of chars
click_half = refl

wheel : event_of_word (codes "wheel-down") ≡ Some events.ScrollDown
unfolding word_of chars
wheel = refl

no_word : event_of_word (codes "jj") ≡ None
unfolding word_of chars
no_word = refl

empty : word_of (codes "") ≡ None
unfolding word_of chars
empty = refl

space : event_of_word (codes "space") ≡ Some events.ToggleItem
unfolding word_of chars
space = refl
