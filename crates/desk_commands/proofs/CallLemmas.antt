-- What commands do, by what they take.
use Rattle.std.specs.Prelude.{◌≡◌, ℕ, Bool, List, length, Option, Some, None, Result, Ok, Err, IfErr, MatchResult}
use Rattle.std.specs.Option.{ok_or}
use Rattle.std.proofs.Common.{refl, sym, ap, ◌∙◌}
use Rattle.sector_disk.specs.Faults.{OneOf}
use Rattle.char_file.specs.declared.source.CharSource.{Ghosts}
use Rattle.piece_ring.specs.Flat.{flat}
use Rattle.readers_scanners.specs.declared.symbol.Symbol.{Symbol}
use Rattle.readers_scanners.specs.Symbol.{IsSymbolShaped}
use Rattle.command_table.specs.Parameters.{IsTextPlace}
use Rattle.command_table.specs.declared.command.Command.{Command}
use Rattle.desktop_definitions.specs.declared.call.ViewerCommand.{ViewerCommand}
use Rattle.desktop_definitions.specs.declared.call.Call.{Call}
use Rattle.desktop_definitions.specs.declared.reply.Reply.{Reply}
use Rattle.desktop_definitions.specs.declared.reply.Reply.TheVariants.{No}
use Rattle.desktop_definitions.specs.Limits.{no_command, wrong_symbol, no_viewer}
use Rattle.desktop_definitions.specs.Needs.{needs, given}
use Rattle.desktop_definitions.specs.Desktop.{Desktop, KeptDesktop}
use Rattle.desktop_definitions.specs.Change.{bytes_of}
use Rattle.desktop_definitions.proofs.RowLaws.{known_wrong_symbol}
use Rattle.desktop_definitions.proofs.CallLaws.{called_place}
use Rattle.desktop_definitions.proofs.LookedLaws.{font_sets_look, colour_sets_look, offset_sets_look}
use Rattle.desktop_definitions.specs.Seen.{seen}
use Rattle.desktop_definitions.specs.Sound.{IsOver}
use Rattle.desktop_definitions.specs.Outcome.{reply_codes}
use Rattle.desktop_definitions.specs.Call.{text_called, target_viewer}
use Rattle.desktop_definitions.specs.Commands.{done_with_viewer, command_at, commanded, after_call}
use Rattle.desk_commands.specs.Calls.{IsCall}
use Rattle.desk_core.specs.declared.stop.Stop.{Stop}
use Rattle.desk_core.specs.Doing.{Settles, Does}
use Rattle.desk_commands.proofs.ReadFirst.{Reads, refused_after, does_after}

-- a look that is set by a name or a number
pub ruleset looks_set = (font_sets_look, colour_sets_look, offset_sets_look)

-- ---- what is read after the word

-- the word of a call stands in its text
pub call_place : {characters : List ℕ} {d : KeptDesktop} {call : Call} → IsCall characters d call
    → IsTextPlace (length characters) (flat (text_called d call.viewer call.in_menu), call.after)
call_place {characters} {d} {call} is =
    called_place characters d call.viewer call.in_menu call.after is.over is.within

-- no more is done where that is refused
pub refused_given : {S A : Type 0} (s : Ghosts S) (read : Desktop → Result A ℕ)
    (follow : Desktop → A → Result Desktop ℕ) (code : ℕ) (old mid : S) (d : KeptDesktop) {found : Result A ℕ}
    → Reads s old mid → IsOver (s.characters old) d
    → OneOf reply_codes code → found ≡ Err code → (s.honest old → found ≡ read (seen (s.characters old) d))
    → Settles s (λ x. given (read x) (follow x)) old mid d d (No code)
refused_given {A = A} s read follow code old mid d reads over known is exact =
    refused_after s (λ x. given (read x) (follow x)) code old mid d reads over known
    (λ h. ap (λ (r : Result A ℕ). given r (follow (seen (s.characters old) d))) (sym (exact h) ∙ is))

-- and where it is given, what is done with it
pub does_given : {S A : Type 0} (s : Ghosts S)
    (ground_through : (a b c : S) → s.same_ground a b → s.same_ground b c → s.same_ground a c)
    (read : Desktop → Result A ℕ) (follow : Desktop → A → Result Desktop ℕ) (a : A) (old mid new : S)
    (d after : KeptDesktop) (result : Result Reply Stop) {found : Result A ℕ} → Reads s old mid
    → s.failures mid ≡ s.failures old → found ≡ Ok a → (s.honest old → found ≡ read (seen (s.characters old) d))
    → Does s (λ x. follow x a) result mid new d after → Does s (λ x. given (read x) (follow x)) result old new d after
does_given {A = A} s ground_through read follow a old mid new d after result reads calm is exact =
    does_after s ground_through (λ (x : Desktop) (r : Result A ℕ). given r (follow x)) read (Ok a) old mid new d after result
    reads calm (λ h. sym is ∙ exact h)

-- a value that isn't wanted is refused
pub same_wanted : {A : Type 0} (o : Option A) → ok_or o wrong_symbol ≡ needs o wrong_symbol (λ a. Ok a)
same_wanted None = refl
same_wanted (Some a) = refl

known_needed : {A : Type 0} (o : Option A) → IfErr (needs o wrong_symbol (λ a. Ok a)) (OneOf reply_codes)
known_needed None = known_wrong_symbol
known_needed (Some a) = tt

-- by a code that there is
pub known_choice : {A : Type 0} (f : Symbol → Option A) (value : Result Symbol ℕ)
    → MatchResult value IsSymbolShaped (OneOf reply_codes)
    → IfErr (given value (λ s. needs (f s) wrong_symbol (λ a. Ok a))) (OneOf reply_codes)
known_choice f (Err code) kind = kind
known_choice f (Ok symbol) kind = known_needed (f symbol)

-- ---- the viewer that is meant

pub meant_some : (characters : List ℕ) (d : KeptDesktop) (command : ViewerCommand) (call : Call)
    (found : Option ℕ) (v : ℕ) → found ≡ Some v → found ≡ target_viewer d call
    → done_with_viewer (seen characters d) command v
    ≡ needs (target_viewer (seen characters d) call) no_viewer (done_with_viewer (seen characters d) command)
unfolding seen
meant_some characters d command call found v is found_is =
    λ k. needs ((sym is ∙ found_is) k) no_viewer (done_with_viewer (seen characters d) command)

pub meant_none : (characters : List ℕ) (d : KeptDesktop) (command : ViewerCommand) (call : Call) (found : Option ℕ)
    → found ≡ None → found ≡ target_viewer d call
    → needs (target_viewer (seen characters d) call) no_viewer (done_with_viewer (seen characters d) command) ≡ Err no_viewer
unfolding seen
meant_none characters d command call found is found_is =
    λ k. needs ((sym found_is ∙ is) k) no_viewer (done_with_viewer (seen characters d) command)

-- ---- the word that is called

-- what a call does, by the command that was found and the position after its word
abbrev pub called_by : ℕ → Bool → Desktop → Option (Command × ℕ) → Result Desktop ℕ
called_by v in_menu x found =
    needs found no_command (λ f. commanded x f.0 (record { viewer = v; in_menu = in_menu; after = f.1 }))

pub called_none : (version : ℕ) (x : Desktop) (v : ℕ) (in_menu : Bool) (p : ℕ) (found : Option (Command × ℕ))
    → found ≡ None
    → found ≡ command_at version (bytes_of (text_called x v in_menu)) p
    → after_call version x v in_menu p ≡ Err no_command
unfolding after_call
called_none version x v in_menu p found is found_is = λ k. called_by v in_menu x ((sym found_is ∙ is) k)
