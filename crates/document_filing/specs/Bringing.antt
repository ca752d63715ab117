-- Documents that come into a desktop together: each becomes the file of its name, in their order, and the limits look
-- at the end alone.
use Rattle.std.specs.List.{flat_map}
use Rattle.std.specs.Prelude.{◌≡◌, ℕ, nat_le, Bool, List, length, fold, sum_by, Result, Ok}
use Rattle.desktop_definitions.specs.Limits.{most_files, too_many_files}
use Rattle.desktop_definitions.specs.Needs.{unless}
use Rattle.piece_ring.specs.Text.{Text}
use Rattle.desktop_definitions.specs.Tables.{Files, with_values}
use Rattle.desktop_definitions.specs.Desktop.{Desktop, KeptDesktop}
use Rattle.desktop_definitions.specs.Change.{plain_text}
use Rattle.desktop_definitions.specs.declared.reply.Reply.{Reply}
use Rattle.desktop_definitions.specs.declared.reply.Reply.TheVariants.{No}
use Rattle.desktop_definitions.specs.Outcome.{IsReply}
use Rattle.desktop_definitions.specs.Seen.{seen}
use Rattle.desktop_definitions.specs.Unread.{characters_after}
use Rattle.desktop_definitions.specs.Step.{Outcome, filed, outcome_of, outcome_after}

-- each with its name and its bytes
abbrev pub Documents : Type 0
Documents = List (List ℕ × List ℕ)

-- how many bytes they have
abbrev pub many_bytes : Documents → ℕ
many_bytes documents = sum_by (λ document. length document.1) documents

-- these bytes, one document behind another
abbrev pub all_bytes : Documents → List ℕ
all_bytes documents = flat_map (λ document. document.1) documents

-- each is filed, one after another
unfoldable pub all_filed : Desktop → Documents → Desktop
all_filed d documents =
    fold (λ (now : Desktop) (document : List ℕ × List ℕ). filed now document.0
    (plain_text document.1)) d documents

-- how long each file of a table is
abbrev pub file_sizes : Files (Text ℕ) → Files ℕ
file_sizes files = with_values length files

-- no more files than there may be
abbrev pub has_few_files : Desktop → Bool
has_few_files d = nat_le (length d.files) most_files

-- what comes of it but for the limits on characters, or the code of its refusal
unfoldable pub all_brought : Desktop → Documents → Result Desktop ℕ
all_brought d documents =
    unless (has_few_files (all_filed d documents)) too_many_files (Ok (all_filed d documents))

-- What bringing documents comes to: the desktop with all of them and Done, or the desktop as it was and No.
unfoldable pub brought_in : Desktop → Documents → Outcome
brought_in d documents = outcome_after d (all_brought d documents)

-- No character is read: reply and desktop are those of the definition over every list of as many characters as were
-- written, whatever the source tells, and the bytes of the documents come behind it.
abbrev pub BringsUnread : KeptDesktop → KeptDesktop → Documents → Reply → Type 0
BringsUnread before after documents reply =
    (all : List ℕ) → length all ≡ before.written
    → outcome_of (seen (characters_after all (all_bytes documents) reply) after) reply
    ≡ brought_in (seen all before) documents

-- The documents were brought with this reply: from one desktop to another, each as it is kept and as it is seen.
-- `honest`: what was read of the characters is what stands there.
pub record IsBringing (honest : Type 0) (documents : Documents) (before after : KeptDesktop)
    (old new : Desktop) (reply : Reply) : Type 0 where
  -- desktop and reply are those of the definition
  pub done : honest → outcome_of new reply ≡ brought_in old documents
  -- and are so whatever was read
  pub unread : BringsUnread before after documents reply
  -- the reply is one that there is
  pub known : IsReply reply
  -- and a refusal leaves the desktop as it is kept
  pub refusal : (code : ℕ) → reply ≡ No code → after ≡ before
