-- What a crash leaves of lines that are served, one after another, in events.
use Rattle.std.proofs.Common.{◌≡◌, inl, inr, ℕ, Bool, true, false, List, [], ◌∷◌, ◌++◌}
use Rattle.std.proofs.Common.{refl, sym, ◌∙◌, ap, subst, append_assoc, append-nil}
use Rattle.std.specs.Prelude.{if◌then◌else◌}
use Rattle.std.proofs.lemmas.Bool.{cond-true, cond-false}
use Rattle.sector_disk.specs.declared.disk.Disk.{Ghosts}
use Rattle.sector_disk.specs.Trail.{Content, now, Leaves, LeavesOnly}
use Rattle.sector_disk.proofs.Touching.{weakened, chained, at_last}
use Rattle.event_bytes.specs.declared.event.Event.{Event}
use Rattle.desktop_definitions.specs.Step.{step, steps}
use Rattle.store_layout.proofs.Bits.{true_or_false}
use Rattle.store_layout.specs.Meaning.{Means, MeansEither}
use Rattle.desk_journal.specs.Checkpointing.{LeavesDesktop}
use Rattle.desk_journal.specs.Device.{IsOnlyRead, IsSameDevice}
use Rattle.desk_journal.specs.Posting.{LeavesEither, IsDueBefore, TurnsAway, IsLast}
use Rattle.desk_journal.specs.Prefixes.{MeansPrefix}
use Rattle.desk_journal.specs.View.{StoreView, IsDurable}
use Rattle.desk_journal.proofs.Passing.{at_start, shows_means}
use Rattle.desk_journal.proofs.Prefixes.{steps_both, whole_prefix, no_prefix, fewer_acknowledged, prefix_of_more}
use Rattle.desk_journal.proofs.Prefixes.{prefix_behind}
use Rattle.script_lines.specs.declared.request.Request.{Request}
use Rattle.script_lines.specs.declared.request.Request.TheVariants.{Post, Checkpoint, Show, Listing, Display, Malformed}
use Rattle.script_lines.specs.Request.{request_of}
use Rattle.desk_journal.specs.Session.{Session, is_due, is_last, is_worn, renewed, stepped}
use Rattle.oberon_main.specs.Answers.{session_after, after_all}
use Rattle.desk_journal.specs.Session.{session_of}
use Rattle.oberon_main.specs.Surviving.{events_posted, accepted_of_lines, LinesAreSteps, MeansLines, KeepsAnswered, Withstands, SparesRequest}
use Rattle.oberon_main.specs.ByLines.{Lasts, LeavesLine, ServesLine}
use Rattle.oberon_main.proofs.Sessions.{worn_parts}

-- the only desktop is one of two
pub only_first : {D : Type 0} (d : Ghosts D) (line : List ℕ) (store : StoreView D) (c : Content)
    → MeansEither (d.size store.disk) store.desktop store.desktop c
    → MeansEither (d.size store.disk) store.desktop (session_after (session_of store) (request_of line)).desktop c
only_first d line store c (inl means) = inl means
only_first d line store c (inr means) = inl means

-- ---- the events of lines

-- whether or not a checkpoint comes first, an event that is accepted is one step
pub stepped_once : (s : Session) (event : Event) → is_worn s ≡ false
    → (session_after s (Post event)).desktop ≡ (step s.desktop event).desktop
unfolding session_after
stepped_once s event room = ap (λ (t : Session). t.desktop)
    (cond-false (is_worn s) s (stepped (if is_due s then renewed s else s) event) room)
    ∙ ap (λ d. (step d event).desktop) (either_way (is_due s))
  where
    either_way : (b : Bool) → (if b then renewed s else s).desktop ≡ s.desktop
    either_way true = refl
    either_way false = refl

pub not_stepped : (s : Session) (event : Event) → is_worn s ≡ true → (session_after s (Post event)).desktop ≡ s.desktop
unfolding session_after
not_stepped s event worn = ap (λ (t : Session). t.desktop)
    (cond-true (is_worn s) s (stepped (if is_due s then renewed s else s) event) worn)

renewing : (s : Session) (b : Bool) → (if b then s else renewed s).desktop ≡ s.desktop
renewing s true = refl
renewing s false = refl

pub checkpoint_steps : (s : Session) → (session_after s Checkpoint).desktop ≡ s.desktop
unfolding session_after
checkpoint_steps s = renewing s (is_last s)

posting : (s : Session) (event : Event) → (session_after s (Post event)).desktop ≡ steps s.desktop (events_posted s (Post event))
unfolding events_posted
posting s event = elim (true_or_false (is_worn s)) [
  | inl worn ↦ not_stepped s event worn
      ∙ sym (ap (steps s.desktop) (cond-true (is_worn s) [] (event ∷ []) worn))
  | inr room ↦ stepped_once s event room
      ∙ sym (ap (steps s.desktop) (cond-false (is_worn s) [] (event ∷ []) room))
]

request_steps : (s : Session) (request : Request) → (session_after s request).desktop ≡ steps s.desktop (events_posted s request)
unfolding session_after events_posted
request_steps s (Post event) = posting s event
request_steps s Checkpoint = checkpoint_steps s
request_steps s (Show name) = refl
request_steps s Listing = refl
request_steps s Display = refl
request_steps s Malformed = refl

pub lines_steps : LinesAreSteps
lines_steps s [] = refl
lines_steps s (line ∷ lines) =
    let first = events_posted s (request_of line) in
    let later = accepted_of_lines (session_after s (request_of line)) lines in
    lines_steps (session_after s (request_of line)) lines
    ∙ ap (λ d. steps d later) (request_steps s (request_of line))
    ∙ sym (steps_both s.desktop first later)

accepted_both : (s : Session) (lines more : List (List ℕ))
    → accepted_of_lines s (lines ++ more) ≡ accepted_of_lines s lines ++ accepted_of_lines (after_all s lines) more
accepted_both s [] more = refl
accepted_both s (line ∷ lines) more =
    let next = session_after s (request_of line) in
    ap (λ es. events_posted s (request_of line) ++ es) (accepted_both next lines more)
    ∙ sym (append_assoc (events_posted s (request_of line)) (accepted_of_lines next lines) (accepted_of_lines (after_all next lines) more))

-- ---- what an image means

-- all the events of the lines are there
all_lines : (size : ℕ) (s : Session) (lines : List (List ℕ)) (c : Content)
    → Means size (after_all s lines).desktop c → MeansLines size s lines lines c
all_lines size s lines c means =
    subst (λ es. MeansPrefix size s.desktop (accepted_of_lines s lines) es c) (append-nil (accepted_of_lines s lines))
    (whole_prefix size s.desktop (accepted_of_lines s lines) [] c (subst (λ d. Means size d c) (lines_steps s lines) means))

-- more lines follow
more_follow : (size : ℕ) (s : Session) (answered lines more : List (List ℕ)) (c : Content)
    → MeansLines size s answered lines c → MeansLines size s answered (lines ++ more) c
more_follow size s answered lines more c p =
    subst (λ es. MeansPrefix size s.desktop (accepted_of_lines s answered) es c) (sym (accepted_both s lines more))
    (prefix_of_more size s.desktop (accepted_of_lines s answered) (accepted_of_lines s lines)
    (accepted_of_lines (after_all s lines) more) c p)

-- lines went before
lines_behind : (size : ℕ) (s : Session) (lines answered more : List (List ℕ)) (c : Content)
    → MeansLines size (after_all s lines) answered more c → MeansLines size s (lines ++ answered) (lines ++ more) c
lines_behind size s lines answered more c p =
    let next = after_all s lines in
    let some = accepted_of_lines next answered in
    let all = accepted_of_lines next more in
    subst (λ es. MeansPrefix size s.desktop (accepted_of_lines s (lines ++ answered)) es c) (sym (accepted_both s lines more))
    (subst (λ es. MeansPrefix size s.desktop es (accepted_of_lines s lines ++ all) c) (sym (accepted_both s lines answered))
    (prefix_behind size s.desktop (accepted_of_lines s lines) some all c
    (subst (λ d. MeansPrefix size d some all c) (lines_steps s lines) p)))

-- ---- one line

module _ {D : Type 0} (d : Ghosts D) where
  -- where a crash leaves what the store shows, it leaves its desktop
  pub lasting_means : (store : StoreView D) → Lasts d store
      → Leaves (now (d.trail store.disk)) (Means (d.size store.disk) store.desktop)
  lasting_means store lasts c image = shows_means (d.size store.disk) store.epoch store.events store.desktop c
      (lasts c image)

  -- a durable store means its desktop
  pub durable_means : (store : StoreView D) → IsDurable d store → d.honest store.disk
      → Leaves (now (d.trail store.disk)) (Means (d.size store.disk) store.desktop)
  durable_means store durable honest = lasting_means store (durable honest)

  -- no line at all
  pub no_line : (store : StoreView D) → Lasts d store → KeepsAnswered d [] [] store store
  no_line store lasts =
      let means = lasting_means store lasts in
      let prefix : Leaves (now (d.trail store.disk)) (MeansLines (d.size store.disk) (session_of store) [] [])
      = λ c image. no_prefix (d.size store.disk) store.desktop [] c (means c image) in
      record {
        any_moment = at_start (d.trail store.disk) (MeansLines (d.size store.disk) (session_of store) [] []) prefix;
        at_last = prefix;
      }

  line_moments : (old new : StoreView D) (line : List ℕ) → LeavesLine d line old new
      → LeavesOnly (d.trail old.disk) (d.trail new.disk) (MeansLines (d.size old.disk) (session_of old) [] (line ∷ []))
  line_moments old new line moments = weakened moments (λ c either. elim either [
    | inl means ↦ no_prefix (d.size old.disk) old.desktop (accepted_of_lines (session_of old) (line ∷ [])) c means
    | inr means ↦ fewer_acknowledged (d.size old.disk) old.desktop (accepted_of_lines (session_of old) (line ∷ [])) _ c
        (all_lines (d.size old.disk) (session_of old) (line ∷ []) c means)
  ])

  -- a line that wasn't answered
  pub failed_line : (old new : StoreView D) (line : List ℕ) → LeavesLine d line old new
      → KeepsAnswered d [] (line ∷ []) old new
  failed_line old new line moments = record {
    any_moment = line_moments old new line moments;
    at_last = at_last (line_moments old new line moments);
  }

  -- a line that was served
  pub served_line : (old new : StoreView D) (line : List ℕ) → ServesLine d line old new
      → KeepsAnswered d (line ∷ []) (line ∷ []) old new
  served_line old new line serves = record {
    any_moment = line_moments old new line serves.any_moment;
    at_last = λ c image. all_lines (d.size old.disk) (session_of old) (line ∷ []) c
        (subst (λ n. Means n (session_after (session_of old) (request_of line)).desktop c) serves.as_large
        (subst (λ (s : Session). Means (d.size new.disk) s.desktop c) serves.session
        (lasting_means new serves.lasts c image)));
  }

  -- ---- lines after lines

  pub lines_after : (old mid new : StoreView D) (lines answered more : List (List ℕ))
      → KeepsAnswered d lines lines old mid → session_of mid ≡ after_all (session_of old) lines
      → d.size mid.disk ≡ d.size old.disk → KeepsAnswered d answered more mid new
      → KeepsAnswered d (lines ++ answered) (lines ++ more) old new
  lines_after old mid new lines answered more before session as_large following =
      let size = d.size old.disk in
      let s = session_of old in
      let seen : (some : List (List ℕ)) (c : Content) → MeansLines (d.size mid.disk) (session_of mid) some more c
      → MeansLines size s (lines ++ some) (lines ++ more) c = λ some c p.
      lines_behind size s lines some more c (subst (λ (t : Session). MeansLines size t some more c) session
      (subst (λ n. MeansLines n (session_of mid) some more c) as_large p)) in
      record {
        any_moment = chained
            (weakened before.any_moment (λ c p. more_follow size s [] lines more c p))
            (weakened following.any_moment
            (λ c p. fewer_acknowledged size s.desktop (accepted_of_lines s (lines ++ []))
            (accepted_of_lines s (lines ++ more)) c (seen [] c p)));
        at_last = λ c image. seen answered c (following.at_last c image);
      }

  pub more_lines : (old new : StoreView D) (answered lines more : List (List ℕ))
      → KeepsAnswered d answered lines old new → KeepsAnswered d answered (lines ++ more) old new
  more_lines old new answered lines more kept =
      let size = d.size old.disk in
      let s = session_of old in
      record {
        any_moment = weakened kept.any_moment (λ c p. more_follow size s [] lines more c p);
        at_last = λ c image. more_follow size s answered lines more c (kept.at_last c image);
      }

-- ---- one request

module _ {D : Type 0} (d : Ghosts D) where
  pub same_withstands : (request : Request) (store : StoreView D) → Withstands d request store store
  same_withstands request store = record {
    any_moment = λ durable honest. at_start (d.trail store.disk) _
        (λ c image. inl (durable_means d store durable honest c image));
    as_large = refl;
  }

  -- a look leaves each image as it was
  pub look_withstands : (request : Request) (old new : StoreView D) → IsOnlyRead d old.disk new.disk
      → Withstands d request old new
  look_withstands request old new read = record {
    any_moment = λ durable honest. weakened (read.unwritten honest)
        (λ c image. inl (durable_means d old durable honest c image));
    as_large = read.device.as_large;
  }

  pub look_spares : (old new : StoreView D) → IsOnlyRead d old.disk new.disk → SparesRequest d old new
  look_spares old new read durable honest = weakened (read.unwritten honest)
      (λ c image. durable_means d old durable honest c image)

  pub checkpoint_withstands : (old new : StoreView D) → old.must_reopen ≡ false → LeavesDesktop d old new
      → IsSameDevice d old.disk new.disk → Withstands d Checkpoint old new
  checkpoint_withstands old new usable leaves device = record {
    any_moment = λ durable honest. weakened (leaves usable honest) (λ c means. inl means);
    as_large = device.as_large;
  }

  -- in the last epoch, where a checkpoint is due, nothing changes
  pub post_withstands : (event : Event) (refused : Type 0) (old new : StoreView D) → old.must_reopen ≡ false
      → LeavesEither d event old new → TurnsAway refused (IsLast old × IsDueBefore old) old new
      → IsSameDevice d old.disk new.disk → Withstands d (Post event) old new
  post_withstands event refused old new usable leaves turned device = elim (true_or_false (is_worn (session_of old))) [
    | inl worn ↦
        let when = worn_parts (session_of old) worn in
        subst (λ store. Withstands d (Post event) old store)
        (sym (turned.unchanged (turned.always ((usable, when.0), when.1)))) (same_withstands (Post event) old)
    | inr room ↦ record {
      any_moment = λ durable honest. subst (λ after_it. LeavesOnly (d.trail old.disk) (d.trail new.disk)
          (MeansEither (d.size old.disk) old.desktop after_it)) (sym (stepped_once (session_of old) event room))
          (leaves usable honest);
      as_large = device.as_large;
    }
  ]
