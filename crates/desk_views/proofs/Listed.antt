-- The list of a column: those of its tracks, from the lowest up.
use Rattle.std.proofs.Common.{◌≡◌, ℕ, zero, suc, ◌+◌, ◌≤◌, List, [], ◌∷◌, ◌++◌, length, map, refl, sym, ap, ◌∙◌}
use Rattle.std.proofs.Common.{append_assoc, append-nil, arith, if◌then◌else◌, ◌==◌, false}
use Rattle.std.proofs.lemmas.Bool.Decides.{nat_tests}
use Rattle.std.proofs.lemmas.List.{map-append}
use Rattle.viewer_tracks.specs.declared.display.Track.{Track}
use Rattle.viewer_tracks.specs.Display.{left_of}
use Rattle.viewer_tracks.specs.Viewers.{Entry as Standing}
use Rattle.viewer_tracks.specs.Columns.{track_on}
use Rattle.viewer_tracks.proofs.StackLemmas.{level_under, level_topmost}
use Rattle.desktop_definitions.specs.declared.entry.Entry.{Entry}
use Rattle.desktop_definitions.specs.declared.entry.Entry.TheVariants.{Over}
use Rattle.char_file.specs.declared.source.CharSource.{Ghosts}
use Rattle.char_file.specs.Source.{OnlyReads}
use Rattle.char_file.proofs.Reading.{no_read, read_on}
use Rattle.desktop_definitions.specs.Desktop.{Desktop, KeptDesktop}
use Rattle.desktop_definitions.specs.Seen.{seen}
use Rattle.desktop_definitions.specs.Unread.{without_name}
use Rattle.desktop_definitions.specs.Listing.{track_entries, over_entry, stack_entries}

-- the entry before the viewers of a track over so many others
abbrev pub entry_over : Track → ℕ → List Entry
entry_over k n = if n == 0 then [] else Over (left_of k) (n + 1) ∷ []

-- the entries of the lowest n tracks of a column
abbrev pub lowest_entries : Desktop → Track → List (List Standing) → ℕ → List Entry
lowest_entries d k s zero = []
lowest_entries d k s (suc n) = lowest_entries d k s n ++ (entry_over k n ++ track_entries d k (track_on s (suc n)))

suc_is_some : (n : ℕ) → (suc n == 0) ≡ false
suc_is_some n = grind (arith, nat_tests)

module _ (d : Desktop) (k : Track) where
  lowest_under : (t : List Standing) (s : List (List Standing)) (n : ℕ) → n ≤ length s
      → lowest_entries d k (t ∷ s) n ≡ lowest_entries d k s n
  lowest_under t s zero low = refl
  lowest_under t s (suc n) low = λ j.
      lowest_under t s n (omega (arith, low)) j
      ++ (entry_over k n ++ track_entries d k (level_under t s (suc n) (omega arith) low j))

  as_many_under : (s : List (List Standing)) → entry_over k (length s) ≡ over_entry k s
  as_many_under [] = refl
  as_many_under (t ∷ s) =
      ap (λ b. if b then [] else Over (left_of k) (length (t ∷ s) + 1) ∷ []) (suc_is_some (length s))

  pub all_tracks : (s : List (List Standing)) → lowest_entries d k s (length s) ≡ stack_entries d k s
  unfolding stack_entries
  all_tracks [] = refl
  all_tracks (t ∷ s) = λ j.
      (lowest_under t s (length s) (omega arith) ∙ all_tracks s) j
      ++ (as_many_under s j ++ track_entries d k (level_topmost t s j))

parts_joined : (start before middle after low over track : List Entry) → before ≡ start ++ low → middle ≡ before ++ over
    → after ≡ middle ++ track → after ≡ start ++ (low ++ (over ++ track))
parts_joined start before middle after low over track b m a =
    a ∙ ap (λ (l : List Entry). l ++ track) (m ∙ ap (λ (l : List Entry). l ++ over) b)
    ∙ append_assoc (start ++ low) over track ∙ append_assoc start low (over ++ track)

module _ (d : Desktop) (k : Track) (s : List (List Standing)) (n : ℕ) (start before middle after : List Entry)
    (over : middle ≡ before ++ entry_over k n) where
  track_more : before ≡ start ++ lowest_entries d k s n → after ≡ middle ++ track_entries d k (track_on s (suc n))
      → after ≡ start ++ lowest_entries d k s (suc n)
  track_more so_far grown =
      parts_joined start before middle after (lowest_entries d k s n) (entry_over k n)
      (track_entries d k (track_on s (suc n))) so_far over grown

  -- the same where each entry is told through f
  told_more : (f : Entry → Entry) → map f before ≡ map f start ++ map f (lowest_entries d k s n)
      → map f after ≡ map f middle ++ map f (track_entries d k (track_on s (suc n)))
      → map f after ≡ map f start ++ map f (lowest_entries d k s (suc n))
  told_more f so_far grown =
      let low = lowest_entries d k s n in
      let track = track_entries d k (track_on s (suc n)) in
      parts_joined (map f start) (map f before) (map f middle) (map f after) (map f low) (map f (entry_over k n))
      (map f track) so_far (ap (map f) over ∙ map-append f before (entry_over k n)) grown
      ∙ ap (λ (l : List Entry). map f start ++ l)
      (ap (λ (l : List Entry). map f low ++ l) (sym (map-append f (entry_over k n) track))
      ∙ sym (map-append f low (entry_over k n ++ track)))

  next_level : suc n ≡ n + 1
  next_level = omega arith

  pub listed_track : before ≡ start ++ lowest_entries d k s n → after ≡ middle ++ track_entries d k (track_on s (n + 1))
      → after ≡ start ++ lowest_entries d k s (n + 1)
  listed_track so_far grown =
      track_more so_far (grown ∙ ap (λ m. middle ++ track_entries d k (track_on s m)) (sym next_level))
      ∙ ap (λ m. start ++ lowest_entries d k s m) next_level

  pub told_track : (f : Entry → Entry) → map f before ≡ map f start ++ map f (lowest_entries d k s n)
      → map f after ≡ map f middle ++ map f (track_entries d k (track_on s (n + 1)))
      → map f after ≡ map f start ++ map f (lowest_entries d k s (n + 1))
  told_track f so_far grown =
      told_more f so_far
      (grown ∙ ap (λ m. map f middle ++ map f (track_entries d k (track_on s m))) (sym next_level))
      ∙ ap (λ m. map f start ++ map f (lowest_entries d k s m)) next_level

-- What is known of entries that were put behind others, from a source that was only read: which they are of the desktop
-- as it is seen, and, without the names, whatever the source told.
module _ {S : Type 0} (s : Ghosts S) where
  pub record HasListed (old new : S) (d : KeptDesktop) (before now : List Entry)
      (listed bare : Desktop → List Entry) : Type 0 where
    pub reads : OnlyReads s.characters s.failures s.honest s.same_ground old new
    pub calm : s.failures new ≡ s.failures old
    pub so_far : s.honest old → now ≡ before ++ listed (seen (s.characters old) d)
    pub unread : (all : List ℕ) → length all ≡ d.written
        → map without_name now ≡ map without_name before ++ bare (seen all d)

  -- before the first
  pub none_listed : ((a : S) → s.same_ground a a) → (old : S) (d : KeptDesktop) (before : List Entry)
      (listed bare : Desktop → List Entry) → ((x : Desktop) → listed x ≡ []) → ((x : Desktop) → bare x ≡ [])
      → HasListed old old d before before listed bare
  none_listed ground_self old d before listed bare none no_bare = record {
    reads = no_read s.characters s.failures s.honest s.same_ground ground_self old;
    calm = refl;
    so_far = λ honest. sym (ap (λ l. before ++ l) (none _) ∙ append-nil before);
    unread = λ all long. sym (ap (λ l. map without_name before ++ l) (no_bare _) ∙ append-nil (map without_name before));
  }

  -- what a call more leaves that only reads
  pub reads_then : ((a b c : S) → s.same_ground a b → s.same_ground b c → s.same_ground a c) → (old mid new : S)
      → OnlyReads s.characters s.failures s.honest s.same_ground old mid
      → OnlyReads s.characters s.failures s.honest s.same_ground mid new
      → OnlyReads s.characters s.failures s.honest s.same_ground old new
  reads_then ground_through old mid new first second =
      read_on s.characters s.failures s.honest s.same_ground ground_through old mid new first second
