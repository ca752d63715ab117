-- What is typed where the pattern was found, and is typed again in another such place.
use Rattle.std.specs.Prelude.{ℕ, ◌+◌, ◌-◌, Bool, false, ◌==◌, ◌&&◌, not, nat_le, nat_lt, if◌then◌else◌}
use Rattle.std.specs.Prelude.{List, [], ◌∷◌, ◌++◌, length, take, drop, Option, Some, None}
use Rattle.std.specs.Str.{bytes_eq}
use Rattle.event_bytes.specs.declared.event.Event.{Event}
use Rattle.event_bytes.specs.declared.event.Event.TheVariants.{Key, Typed}
use Rattle.event_bytes.specs.declared.keys.Key.TheVariants.{Back}
use Rattle.terminal_presses.specs.declared.action.Action.{Action}
use Rattle.terminal_presses.specs.declared.action.Action.TheVariants.{Post, Search, SearchBefore, Find, Replace, Nothing, Ring, LookAnew}
use Rattle.terminal_presses.specs.declared.action.Action.TheVariants.{Leave}
use Rattle.terminal_presses.specs.declared.action.Action.TheVariants.{TypeFile, Move, Seek, Fill, Fit, FileFailed}
use Rattle.earlier_presses.specs.declared.replacing.TheConstants.{MOST_TYPED}
pub use Rattle.event_bytes.specs.Parts.{◌>>=◌}

-- so many Backspaces, and the bytes that are typed then
pub record TypingView : Type 0 where
  pub backs : ℕ
  pub bytes : List ℕ

pub record ReplacingView : Type 0 where
  -- what was typed since the pattern was searched, where nothing else was done since
  pub typed : Option TypingView
  -- what is typed in its place by one press
  pub kept : TypingView

abbrev pub nothing_typed : TypingView
nothing_typed = record { backs = 0; bytes = [] }

abbrev pub no_replacing : ReplacingView
no_replacing = record { typed = None; kept = nothing_typed }

abbrev pub is_untyped : TypingView → Bool
is_untyped t = (t.backs == 0) && (length t.bytes == 0)

abbrev pub is_same_typing : TypingView → TypingView → Bool
is_same_typing t u = (t.backs == u.backs) && bytes_eq t.bytes u.bytes

-- the same was typed where the pattern was found as the time before
abbrev pub is_same_again : Option TypingView → TypingView → Bool
is_same_again None kept = false
is_same_again (Some t) kept = not (is_untyped t) && is_same_typing t kept

abbrev pub is_replaced : ReplacingView → Bool
is_replaced r = is_same_again r.typed r.kept

-- ---- what is typed

-- with these bytes more, as far as there is room
abbrev pub typed_behind : List ℕ → TypingView → Option TypingView
typed_behind bytes t = if nat_le (length t.bytes + length bytes) MOST_TYPED
    then Some (record t { bytes = t.bytes ++ bytes }) else None

-- with a Backspace: it takes the last byte, and where there is none a character before all that
abbrev pub rubbed : TypingView → Option TypingView
rubbed t =
    if nat_lt 0 (length t.bytes)
    then Some (record t { bytes = take (length t.bytes - 1) t.bytes }) else
    (if nat_lt t.backs MOST_TYPED then Some (record t { backs = t.backs + 1 }) else None)

-- what is typed where the pattern was found, if that is known
abbrev pub with_typed : List ℕ → ReplacingView → ReplacingView
with_typed bytes r = record r { typed = r.typed >>= typed_behind bytes }

abbrev pub with_back : ReplacingView → ReplacingView
with_back r = record r { typed = r.typed >>= rubbed }

-- its first event, and the rest of it then
abbrev pub first_byte_typed : List ℕ → Option Event
first_byte_typed [] = None
first_byte_typed (b ∷ bytes) = Some (Typed (b ∷ []))

unfoldable pub first_typed : TypingView → Option Event
first_typed t = if nat_lt 0 t.backs then Some (Key Back) else first_byte_typed t.bytes

unfoldable pub rest_typed : TypingView → TypingView
rest_typed t = if nat_lt 0 t.backs then record t { backs = t.backs - 1 }
    else record t { bytes = drop 1 t.bytes }

-- ---- what a press makes of it

-- something else was done
abbrev pub left_place : ReplacingView → ReplacingView
left_place r = record r { typed = None }

-- the pattern is searched: what was typed, if anything, is typed in its place from now on
abbrev pub kept_of : Option TypingView → TypingView → TypingView
kept_of None kept = kept
kept_of (Some t) kept = if is_untyped t then kept else t

abbrev pub searched : ReplacingView → ReplacingView
searched r = record { typed = Some nothing_typed; kept = kept_of r.typed r.kept }

-- whether the pattern was searched, and nothing was done since
abbrev pub is_untouched : Option TypingView → Bool
is_untouched None = false
is_untouched (Some t) = is_untyped t

-- what is to be typed in its place now, if anything
unfoldable pub replacement : ReplacingView → Option TypingView
replacement r =
    if is_untouched r.typed && not (is_untyped r.kept) then Some r.kept else None

-- that is typed there then
abbrev pub replaced_by : Option TypingView → ReplacingView → ReplacingView
replaced_by None r = r
replaced_by (Some t) r = record r { typed = Some t }

-- What a press leaves of it, if it is done. What posts nothing leaves it as it is.
unfoldable pub noted : Action → ReplacingView → ReplacingView
noted (Post (Typed bytes)) r = with_typed bytes r
noted (Post (Key Back)) r = with_back r
noted Search r = searched r
noted SearchBefore r = searched r
noted (Find words before) r = searched r
noted Replace r = replaced_by (replacement r) r
noted Nothing r = r
noted Ring r = r
noted LookAnew r = r
noted Leave r = r
noted (TypeFile name) r = r
noted (Move page) r = r
noted (Seek at) r = r
noted Fill r = r
noted (Fit rows columns) r = r
noted FileFailed r = r
noted _ r = left_place r
