-- Rows of symbols, of words that call, and of parameters: tables of what the definitions give, each proved by
-- computing. The code is proved to give the same.
use Rattle.std.specs.Prelude.{◌≡◌, ℕ, zero, suc, pos, neg_ℤ, List, [], ◌∷◌, ◌++◌, map, length, replicate, codes}
use Rattle.std.specs.Prelude.{Option, Some, None, Result, Ok, Err, refl}
use Rattle.event_bytes.specs.Bytes.{is_letter, is_digit, is_name_byte}
use Rattle.readers_scanners.specs.declared.symbol.Symbol.{Symbol}
use Rattle.readers_scanners.specs.declared.symbol.Symbol.TheVariants.{Name, Str, Int, Special, Invalid, End}
use Rattle.readers_scanners.specs.Bytes.{is_blank, is_string_byte, numeral}
use Rattle.readers_scanners.specs.Form.{form, symbol}
use Rattle.readers_scanners.specs.Symbol.{symbol_bytes}
use Rattle.command_table.specs.declared.command.Command.{Command}
use Rattle.command_table.specs.declared.command.Command.TheVariants.{EditOpen, SystemOpen, SystemOpenLog}
use Rattle.command_table.specs.declared.command.Command.TheVariants.{SystemClose, SystemRecall, SystemCopy}
use Rattle.command_table.specs.declared.command.Command.TheVariants.{SystemClear, SystemDirectory}
use Rattle.command_table.specs.declared.command.Command.TheVariants.{SystemDeleteFiles, SystemSetFont}
use Rattle.command_table.specs.declared.command.Command.TheVariants.{SystemSetColor, SystemSetOffset}
use Rattle.command_table.specs.declared.command.Command.TheVariants.{EditChangeFont, EditChangeColor}
use Rattle.command_table.specs.declared.command.Command.TheVariants.{EditChangeOffset, EditStore, EditSearch}
use Rattle.command_table.specs.declared.command.Command.TheVariants.{EditRecall, SystemCollect}
use Rattle.command_table.specs.Call.{word_begin, called_at}
use Rattle.command_table.specs.Commands.{commands, command_named}
use Rattle.command_table.specs.Parameters.{names_on, value_parameter, names as names_list}
use Prim.Native.String.{String}

-- ---- symbols

-- a symbol, and those after it where it isn't the end
abbrev pub up_to_end : Symbol → List Symbol → List Symbol
up_to_end End more = []
up_to_end found more = found ∷ more

-- the symbols from one and its end on, of n symbols
abbrev pub symbols_on : List ℕ → ℕ → Symbol × ℕ → List Symbol
symbols_on bs zero found = []
symbols_on bs (suc n) found = up_to_end found.0 (symbols_on bs n (symbol bs found.1))

-- short names for lists of symbols
abbrev pub name : String → List Symbol
name written = Name (symbol_bytes (codes written)) ∷ []

abbrev pub str : String → List Symbol
str inside = Str (symbol_bytes (codes inside)) ∷ []

abbrev pub special : String → List Symbol
special written = map Special (codes written)

abbrev pub number : ℕ → List Symbol
number n = Int (pos n) ∷ []

abbrev pub minus_number : ℕ → List Symbol
minus_number n = Int (neg_ℤ (pos n)) ∷ []

abbrev pub invalid : List Symbol
invalid = Invalid ∷ []

-- a position, a text, and the symbols from the position on
abbrev pub SymbolRow : Type 0
SymbolRow = ℕ × String × List Symbol

abbrev pub symbols_found : SymbolRow → List Symbol
symbols_found r = symbols_on (codes r.1) (suc (length (codes r.1))) (symbol (codes r.1) r.0)

abbrev pub symbols_wanted : SymbolRow → List Symbol
symbols_wanted r = r.2

-- of each kind
abbrev pub kinds : List SymbolRow
kinds = (
  0,
  "Edit.Open ^ 12 -7 \"a b\" 1.5 ~",
  name "Edit.Open" ++ special "^" ++ number 12 ++ minus_number 7 ++ str "a b" ++ invalid ++ special "~",
) ∷
    (0, "", []) ∷
    (0, " \t\r", []) ∷
    (0, "-", special "-") ∷ []

-- names, of which 31 bytes are kept
abbrev pub names : List SymbolRow
names =
    (0, "a", name "a") ∷
    (0, "Z", name "Z") ∷
    (0, "a b", name "a" ++ name "b") ∷
    (0, "  a", name "a") ∷
    (0, "\ta\rb\t", name "a" ++ name "b") ∷
    (0, "a1.b2", name "a1.b2") ∷
    (0, "a.", name "a.") ∷
    (0, "a..b", name "a..b") ∷
    (0, ".a", special "." ++ name "a") ∷
    (0, "_a", special "_" ++ name "a") ∷
    (0, "a_b", name "a" ++ special "_" ++ name "b") ∷
    (0, "a-b", name "a" ++ special "-" ++ name "b") ∷
    (0, "a-1", name "a" ++ minus_number 1) ∷
    (0, "a\"b\"", name "a" ++ str "b") ∷
    (0, "@[`{a", special "@" ++ special "[" ++ special "`" ++ special "{" ++ name "a") ∷
    (0, "abcdefghijklmnopqrstuvwxyz01234", name "abcdefghijklmnopqrstuvwxyz01234") ∷
    (0, "abcdefghijklmnopqrstuvwxyz012345 b", name "abcdefghijklmnopqrstuvwxyz01234" ++ name "b") ∷ []

-- numbers
abbrev pub numbers : List SymbolRow
numbers =
    (0, "0", number 0) ∷
    (0, "-0", number 0) ∷
    (0, "007", number 7) ∷
    (0, "-007", minus_number 7) ∷
    (0, "12 34", number 12 ++ number 34) ∷
    (0, "12-34", number 12 ++ minus_number 34) ∷
    (0, "--7", special "-" ++ minus_number 7) ∷
    (0, "- 7", special "-" ++ number 7) ∷
    (0, "-\t7", special "-" ++ number 7) ∷
    (0, "+7", special "+" ++ number 7) ∷
    (0, "-a", special "-" ++ name "a") ∷
    (0, "-.", special "-" ++ special ".") ∷
    (0, "-\"a\"", special "-" ++ str "a") ∷
    (0, "1/2", number 1 ++ special "/" ++ number 2) ∷
    (0, "1:2", number 1 ++ special ":" ++ number 2) ∷
    (0, "1\"a\"", number 1 ++ str "a") ∷ []

-- numbers at the ends of their range, and past them
abbrev pub ends_of_the_range : List SymbolRow
ends_of_the_range =
    (0, "2147483647", number 2147483647) ∷
    (0, "2147483648", invalid) ∷
    (0, "-2147483648", minus_number 2147483648) ∷
    (0, "-2147483649", invalid) ∷
    (0, "02147483647", number 2147483647) ∷
    (0, "4294967295", invalid) ∷
    (0, "4294967296", invalid) ∷
    (0, "4294967303", invalid) ∷
    (0, "-4294967297", invalid) ∷
    (0, "18446744073709551617", invalid) ∷
    (0, "99999999999999999999999 1", invalid ++ number 1) ∷
    (0, "000000000000000000000000000000000000001", number 1) ∷
    (0, "-000000000000000000000000000002147483648", minus_number 2147483648) ∷ []

-- numbers that run on as a name would
abbrev pub bad_numbers : List SymbolRow
bad_numbers =
    (0, "12a.b 7", invalid ++ number 7) ∷
    (0, "12.", invalid) ∷
    (0, "1.5", invalid) ∷
    (0, "1.5.6~", invalid ++ special "~") ∷
    (0, "12a", invalid) ∷
    (0, "-12a", invalid) ∷
    (0, "-1.", invalid) ∷
    (0, "1a-2", invalid ++ minus_number 2) ∷
    (0, "1a\"b\"", invalid ++ str "b") ∷
    (0, "1a 2b c", invalid ++ invalid ++ name "c") ∷
    (0, "99999999999a 1", invalid ++ number 1) ∷ []

-- strings, closed and open
abbrev pub strings : List SymbolRow
strings =
    (0, "\"\"", str "") ∷
    (0, "\"a\"", str "a") ∷
    (0, "\" \t\"", str " \t") ∷
    (0, "\"a\"\"b\"", str "a" ++ str "b") ∷
    (0, "\"a\"b", str "a" ++ name "b") ∷
    (0, "\"1-~'\"", str "1-~'") ∷
    (0, "\"ab\rc", invalid ++ name "c") ∷
    (0, "\"ab\rc\"", invalid ++ name "c" ++ invalid) ∷
    (0, "\"\r\"", invalid ++ invalid) ∷
    (0, "\"", invalid) ∷
    (0, "a\"", name "a" ++ invalid) ∷
    (0, "\"ab", invalid) ∷
    (0, "\"ab \r", invalid) ∷
    (0, "\"\"\"", str "" ++ invalid) ∷ []

-- from a position within a text
abbrev pub from_a_position : List SymbolRow
from_a_position =
    (5, "Edit.Open 12", name "Open" ++ number 12) ∷
    (1, "-12", number 12) ∷
    (2, "12", []) ∷ []

abbrev pub symbol_rows : List SymbolRow
symbol_rows = kinds ++ names ++ numbers ++ ends_of_the_range ++ bad_numbers ++ strings ++ from_a_position

pub symbols_are_found : map symbols_found symbol_rows ≡ map symbols_wanted symbol_rows
unfolding form symbol is_blank is_string_byte numeral is_letter is_digit is_name_byte
symbols_are_found = refl

-- of a long name, and of a long string, 31 bytes are kept
abbrev pub long_text : List ℕ
long_text = replicate 200 97

pub long_names_and_strings : ((symbol long_text 0).0 ≡ Name (symbol_bytes (replicate 31 97)))
    × ((symbol (34 ∷ long_text ++ 34 ∷ []) 0).0 ≡ Str (symbol_bytes (replicate 31 97)))
unfolding form symbol is_blank is_string_byte is_letter is_digit is_name_byte
long_names_and_strings = (refl, refl)

-- ---- calls

-- a word and its command
abbrev pub words : List (String × Command)
words =
    ("Edit.Open", EditOpen) ∷
    ("System.Open", SystemOpen) ∷
    ("System.OpenLog", SystemOpenLog) ∷
    ("System.Close", SystemClose) ∷
    ("System.Recall", SystemRecall) ∷
    ("System.Copy", SystemCopy) ∷
    ("System.Clear", SystemClear) ∷
    ("System.Directory", SystemDirectory) ∷
    ("System.DeleteFiles", SystemDeleteFiles) ∷
    ("System.SetFont", SystemSetFont) ∷
    ("System.SetColor", SystemSetColor) ∷
    ("System.SetOffset", SystemSetOffset) ∷
    ("Edit.ChangeFont", EditChangeFont) ∷
    ("Edit.ChangeColor", EditChangeColor) ∷
    ("Edit.ChangeOffset", EditChangeOffset) ∷
    ("Edit.Store", EditStore) ∷
    ("Edit.Search", EditSearch) ∷
    ("Edit.Recall", EditRecall) ∷ []

abbrev pub named_in : ℕ → String × Command → Option Command
named_in version r = command_named version (codes r.0)

abbrev pub its_command : String × Command → Option Command
its_command r = Some r.1

pub words_are_named_at_first : map (named_in 1) words ≡ map its_command words
unfolding commands command_named
words_are_named_at_first = refl

pub words_are_named_later : map (named_in 2) words ≡ map its_command words
unfolding commands command_named
words_are_named_later = refl

-- a word that came later, and words that are none
pub collect_came_later : (command_named 1 (codes "System.Collect") ≡ None)
    × (command_named 2 (codes "System.Collect") ≡ Some SystemCollect)
unfolding commands command_named
collect_came_later = (refl, refl)

abbrev pub no_words : List String
no_words = "" ∷ "Edit" ∷ "edit.Open" ∷ "Edit.Open." ∷ "System.collect" ∷ "System.Grow" ∷ []

pub no_words_are_none : map (λ word. command_named 2 (codes word)) no_words ≡ map (λ word. None) no_words
unfolding commands command_named
no_words_are_none = refl

-- a position, a text, and what is called there: the command, and where its parameters begin
abbrev pub CallRow : Type 0
CallRow = ℕ × String × Option (Command × ℕ)

abbrev pub words_that_call : List CallRow
words_that_call =
    (0, "Edit.Open ^", Some (EditOpen, 9)) ∷
    (8, "Edit.Open ^", Some (EditOpen, 9)) ∷
    (5, "\rSystem.Close\r", Some (SystemClose, 13)) ∷
    (3, "\"System.Close\"", Some (SystemClose, 13)) ∷
    (2, "a System.DeleteFiles", Some (SystemDeleteFiles, 20)) ∷
    (19, "a System.DeleteFiles", Some (SystemDeleteFiles, 20)) ∷
    (0, "", None) ∷
    (9, "Edit.Open ^", None) ∷
    (10, "Edit.Open ^", None) ∷
    (11, "Edit.Open ^", None) ∷
    (9, "Edit.Open", None) ∷
    (3, "xSystem.Close", None) ∷
    (3, "System.Close.", None) ∷
    (3, "2System.Close", None) ∷
    (3, "System.close", None) ∷
    (18, "xSystem.DeleteFiles", None) ∷
    (0, "System.DeleteFilesx", None) ∷
    (0, "System.Collect", Some (SystemCollect, 14)) ∷
    (0, "System.Collects", None) ∷
    (12, "System.Close\tx", None) ∷ []

abbrev pub call_found : CallRow → Option (Command × ℕ)
call_found r = called_at 2 (codes r.1) r.0

abbrev pub call_wanted : CallRow → Option (Command × ℕ)
call_wanted r = r.2

pub words_call : map call_found words_that_call ≡ map call_wanted words_that_call
unfolding called_at word_begin commands command_named is_letter is_digit is_name_byte
words_call = refl

-- ---- parameters

-- a position, a text, a position in it where the selection begins, the menu at the marker, and the value
pub record ValueRow : Type 0 where
  pub position : ℕ
  pub text : String
  pub selection : Option (String × ℕ)
  pub menu : Option String
  pub wanted : Result Symbol ℕ

abbrev pub value_row : ℕ → String → Option (String × ℕ) → Option String → Result Symbol ℕ → ValueRow
value_row p text selection menu wanted =
    record { position = p; text = text; selection = selection; menu = menu; wanted = wanted }

abbrev pub values : List ValueRow
values =
    value_row 9 "Edit.Open A.Text" None None (Ok (Name (symbol_bytes (codes "A.Text")))) ∷
    value_row 15 "System.SetColor 16" None None (Ok (Int (pos 16))) ∷
    value_row 16 "System.SetOffset -64" None None (Ok (Int (neg_ℤ (pos 64)))) ∷
    value_row 9 "Edit.Open \"A\"" None None (Ok (Str (symbol_bytes (codes "A")))) ∷
    value_row 9 "Edit.Open 1A" None None (Ok Invalid) ∷
    value_row 9 "Edit.Open" None None (Ok End) ∷
    value_row 9 "Edit.Open ~" (Some ("Edit.Open ~", 0)) (Some "Edit.Open ~") (Ok (Special 126)) ∷
    value_row 9 "Edit.Open ^ B.Text" (Some ("Edit.Open ^ B.Text", 11)) None (Ok (Name (symbol_bytes (codes "B.Text")))) ∷
    value_row 9 "Edit.Open ^ B.Text" (Some ("Edit.Open ^ B.Text", 14)) None (Ok (Name (symbol_bytes (codes "Text")))) ∷
    value_row 9 "Edit.Open ^ B.Text" None (Some "Edit.Open ^ B.Text") (Err 2) ∷
    value_row 9 "Edit.Open ^ ^ A" (Some ("Edit.Open ^ ^ A", 11)) (Some "Edit.Open ^ ^ A") (Ok (Special 94)) ∷
    value_row 9 "Edit.Open ^ *" (Some ("Edit.Open ^ *", 11)) (Some "Edit.Open ^ *") (Ok (Special 42)) ∷
    value_row 18 "A.Text | Edit.Open *" None (Some "A.Text | Edit.Open *") (Ok (Name (symbol_bytes (codes "A.Text")))) ∷
    value_row 18 "A.Text | Edit.Open *" (Some ("A.Text | Edit.Open *", 0)) None (Err 7) ∷
    value_row 13 "* | Edit.Open *" (Some ("* | Edit.Open *", 0)) (Some "* | Edit.Open *") (Ok (Special 42)) ∷
    value_row 13 "^ | Edit.Open *" (Some ("^ | Edit.Open *", 4)) (Some "^ | Edit.Open *") (Ok (Special 94)) ∷ []

abbrev pub value_found : ValueRow → Result Symbol ℕ
value_found r = value_parameter codes r.text r.position r.selection r.menu

abbrev pub value_wanted : ValueRow → Result Symbol ℕ
value_wanted r = r.wanted

pub values_are_found : map value_found values ≡ map value_wanted values
unfolding value_parameter form symbol is_blank is_string_byte numeral is_letter is_digit is_name_byte
values_are_found = refl

-- a position, a text, where the selection begins, and the list of names
pub record ListRow : Type 0 where
  pub position : ℕ
  pub text : String
  pub selection : Option (String × ℕ)
  pub wanted : Result (List (List ℕ)) ℕ

abbrev pub list_row : ℕ → String → Option (String × ℕ) → Result (List (List ℕ)) ℕ → ListRow
list_row p text selection wanted = record { position = p; text = text; selection = selection; wanted = wanted }

abbrev pub lists : List ListRow
lists =
    list_row 18 "System.DeleteFiles A.Text B\tC\r~ D" None (Ok (codes "A.Text" ∷ codes "B" ∷ codes "C" ∷ [])) ∷
    list_row 18 "System.DeleteFiles A 1 B" (Some ("System.DeleteFiles A 1 B", 0)) (Ok (codes "A" ∷ [])) ∷
    list_row 18 "System.DeleteFiles A" None (Ok (codes "A" ∷ [])) ∷
    list_row 18 "System.DeleteFiles A * B" None (Ok (codes "A" ∷ [])) ∷
    list_row 18 "System.DeleteFiles A ^ B" (Some ("System.DeleteFiles A ^ B", 0)) (Ok (codes "A" ∷ [])) ∷
    list_row 24 "X Y ~ System.DeleteFiles ^ Z" (Some ("X Y ~ System.DeleteFiles ^ Z", 0))
    (Ok (codes "X" ∷ codes "Y" ∷ [])) ∷
    list_row 24 "X Y ~ System.DeleteFiles ^ Z" None (Err 2) ∷
    list_row 24 "1 Y ~ System.DeleteFiles ^ Z" (Some ("1 Y ~ System.DeleteFiles ^ Z", 0)) (Err 3) ∷
    list_row 24 "^ Y ~ System.DeleteFiles ^ Z" (Some ("^ Y ~ System.DeleteFiles ^ Z", 0)) (Err 3) ∷
    list_row 18 "System.DeleteFiles ~ A" None (Err 3) ∷
    list_row 18 "System.DeleteFiles * A" (Some ("System.DeleteFiles * A", 0)) (Err 3) ∷
    list_row 18 "System.DeleteFiles" None (Err 3) ∷
    list_row 0 "abcdefghijklmnopqrstuvwxyz01234.cut.off b" None
    (Ok (codes "abcdefghijklmnopqrstuvwxyz01234" ∷ codes "b" ∷ [])) ∷ []

abbrev pub list_found : ListRow → Result (List (List ℕ)) ℕ
list_found r = names_list codes r.text r.position r.selection

abbrev pub list_wanted : ListRow → Result (List (List ℕ)) ℕ
list_wanted r = r.wanted

pub lists_are_found : map list_found lists ≡ map list_wanted lists
unfolding names_list names_on form symbol is_blank is_string_byte numeral is_letter is_digit is_name_byte
lists_are_found = refl
