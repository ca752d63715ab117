-- A listing speaks of lengths alone.
use Rattle.std.proofs.Common.{◌≡◌, ℕ, List, [], ◌∷◌, ◌++◌, map, length, refl, sym, subst, append_assoc, ap, ◌∙◌}
use Rattle.std.proofs.lemmas.List.{map-append}
use Rattle.piece_ring.specs.declared.piece.Piece.{Piece}
use Rattle.piece_ring.specs.Flat.{flat}
use Rattle.desktop_definitions.specs.declared.entry.Entry.{Entry}
use Rattle.desktop_definitions.specs.declared.entry.Entry.TheVariants.{File, Written}
use Rattle.viewer_tracks.specs.declared.display.Track.TheVariants.{User, System}
use Rattle.desktop_definitions.specs.Tables.{Files}
use Rattle.desktop_definitions.specs.Desktop.{KeptDesktop}
use Rattle.desktop_definitions.proofs.TableLaws.{length_seen_text}
use Rattle.desktop_definitions.specs.Seen.{seen, seen_table}
use Rattle.desktop_definitions.specs.Listing.{file_entry, column_entries, entries_of}

-- the entry of a file that is kept
abbrev pub kept_entry : List ℕ × List Piece → Entry
kept_entry file = File file.0 (length (flat file.1))

pub entries_seen : (characters : List ℕ) (files : Files (List Piece))
    → map file_entry (seen_table characters files) ≡ map kept_entry files
entries_seen characters [] = refl
entries_seen characters (e ∷ es) = λ k. File e.0 (length_seen_text characters e.1 k) ∷ entries_seen characters es k

pub entry_more : (before after : List Entry) (name : List ℕ) (len : ℕ) (e : List ℕ × List Piece)
    (rest now : Files (List Piece)) (all : List Entry)
    → after ≡ before ++ File name len ∷ [] → name ≡ e.0 → len ≡ length (flat e.1) → now ≡ e ∷ rest
    → before ++ map kept_entry now ≡ all
    → after ++ map kept_entry rest ≡ all
entry_more before after name len e rest now all pushed same_name same_len next listed =
    rw (pushed, same_name, same_len, append_assoc)
    (subst (λ (es : Files (List Piece)). before ++ map kept_entry es ≡ all) next listed)

-- files, then the viewers of both columns, then what was written
pub list_whole : (characters : List ℕ) (d : KeptDesktop) (files user system all : List Entry)
    → files ≡ map file_entry (seen_table characters d.files)
    → user ≡ files ++ column_entries (seen characters d) User
    → system ≡ user ++ column_entries (seen characters d) System
    → all ≡ system ++ Written d.written ∷ []
    → all ≡ entries_of (seen characters d)
unfolding entries_of seen
list_whole characters d files user system all f u s w =
    let named = map file_entry (seen_table characters d.files) in
    let left = column_entries (seen characters d) User in
    let right = column_entries (seen characters d) System in
    let last : List Entry = Written d.written ∷ [] in
    w ∙ ap (λ (l : List Entry). l ++ last)
    (s ∙ ap (λ (l : List Entry). l ++ right) (u ∙ ap (λ (l : List Entry). l ++ left) f))
    ∙ append_assoc (named ++ left) right last ∙ append_assoc named left (right ++ last)

-- the same where each part is told through f
pub parts_told : (f : Entry → Entry) (files left right last user system all : List Entry)
    → map f user ≡ map f files ++ map f left → map f system ≡ map f user ++ map f right → all ≡ system ++ last
    → map f all ≡ map f (((files ++ left) ++ right) ++ last)
parts_told f files left right last user system all u s w =
    ap (map f) w ∙ map-append f system last
    ∙ ap (λ (l : List Entry). l ++ map f last)
    (s ∙ ap (λ (l : List Entry). l ++ map f right) (u ∙ sym (map-append f files left))
    ∙ sym (map-append f (files ++ left) right))
    ∙ sym (map-append f ((files ++ left) ++ right) last)
